-- The scan's sixth part: each directory below the root has one parent and is reached from the root (rule
-- 13), and link counts are the used slots that lead to an inode (rule 14).
use Rattle.std.specs.Prelude.{List, [], ◌∷◌, ◌++◌, ℕ, zero, suc, ◌+◌, Bool, not, ◌&&◌, ◌||◌, nat_eq, nat_le, if◌then◌else◌, drop, count_by}
use Rattle.mb_word.specs.Fields.{inode_block, inode_place, nlink_of}
use Rattle.mb_tree.specs.Blocks.{slot_in}
use Rattle.mb_tree.specs.Counting.{sum_below, any_from}
use Rattle.mb_tree.specs.Inodes.{is_directory}
use Rattle.mb_tree.specs.Trees.{leads_to}
use Rattle.mb_tree.specs.Volume.{last_inode}
use Rattle.mb_rules.specs.Items.{Item, Holds, each_from}
use Rattle.mb_rules.specs.Files.{mode_at}
use Rattle.mb_rules.specs.Slots.{slots_at}

-- the used slots of a directory after its second that lead to an inode
abbrev pub late_from : (ℕ → List ℕ) → ℕ → ℕ → ℕ
late_from blocks ino dir = count_by (leads_to ino) (drop 2 (slots_at blocks dir))

-- those of all directories, and all used slots that lead to an inode
abbrev pub late_to : (ℕ → List ℕ) → ℕ → ℕ
late_to blocks ino = sum_below (late_from blocks ino) (last_inode blocks + 1)

abbrev pub all_to : (ℕ → List ℕ) → ℕ → ℕ
all_to blocks ino = sum_below (λ dir. count_by (leads_to ino) (slots_at blocks dir)) (last_inode blocks + 1)

-- the root, and what a slot after the second of an inode that is reached within so many steps leads to
unfoldable pub is_reached : (ℕ → List ℕ) → ℕ → ℕ → Bool
is_reached blocks zero ino = nat_eq ino 2
is_reached blocks (suc steps) ino =
    is_reached blocks steps ino
    || any_from (λ dir. is_reached blocks steps dir && not (nat_eq (late_from blocks ino dir) 0)) 0 (last_inode blocks + 1)

-- rule 13 of the root: its `..` is itself, and no slot after the second leads to it
abbrev pub is_top : (ℕ → List ℕ) → Bool
is_top blocks = nat_eq (slot_in blocks 2 1).ino 2 && nat_eq (late_to blocks 2) 0

-- rule 13 of another directory: one slot after the second leads to it, in the directory that its `..` names,
-- and it is reached from the root
abbrev pub has_parent : (ℕ → List ℕ) → ℕ → Bool
has_parent blocks ino = nat_eq (late_to blocks ino) 1 && not (nat_eq (late_from blocks ino (slot_in blocks ino 1).ino) 0) && is_reached blocks (last_inode blocks) ino

abbrev pub parent_items : (ℕ → List ℕ) → ℕ → List Item
parent_items blocks ino =
    if is_directory (mode_at blocks ino) then Holds (if nat_eq ino 2 then is_top blocks else has_parent blocks ino) (inode_block ino) 13 ∷ []
    else []

abbrev pub link_items : (ℕ → List ℕ) → ℕ → List Item
link_items blocks ino =
    if nat_eq (mode_at blocks ino) 0 || nat_eq ino 1 then []
    else Holds (nat_eq (nlink_of (blocks (inode_block ino)) (inode_place ino)) (all_to blocks ino) && nat_le (nlink_of (blocks (inode_block ino)) (inode_place ino)) 32767) (inode_block ino) 14 ∷ []

abbrev pub parents_items : (ℕ → List ℕ) → List Item
parents_items blocks = each_from (parent_items blocks) 1 (last_inode blocks) ++ each_from (link_items blocks) 1 (last_inode blocks)
