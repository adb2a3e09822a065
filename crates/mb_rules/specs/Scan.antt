-- The scan of a volume: the first broken rule with its block, in the order of the rules, or nothing.
use Rattle.std.specs.Prelude.{List, [], ◌++◌, Option}
use Rattle.mb_kinds.specs.Image.{Image}
use Rattle.mb_rules.specs.Items.{Finding, Item, walked, finding}
use Rattle.mb_rules.specs.SuperBlock.{super_block_items}
use Rattle.mb_rules.specs.FreeChain.{chain_items}
use Rattle.mb_rules.specs.Files.{files_items, root_items}
use Rattle.mb_rules.specs.Slots.{slots_items}
use Rattle.mb_rules.specs.Parents.{parents_items}

-- super-block; free chain; inodes with their addresses; the root; slots; parents and link counts
abbrev pub scan_items : Image → List Item
scan_items image = super_block_items image ++ (chain_items image.at ++ (files_items image.at ++ (root_items image.at ++ (slots_items image.at ++ parents_items image.at))))

unfoldable pub scan : Image → Option Finding
scan image = finding (walked [] (scan_items image))
