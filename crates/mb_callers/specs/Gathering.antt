-- What gathering makes of a caller's state and of its pages.
use Rattle.std.specs.Prelude.{[], ◌∷◌, ◌++◌, ◌≡◌, ◌≤◌, ◌+◌, Bool, true, Option, Some, length}
use Rattle.mb_kinds.specs.Image.{Image}
use Rattle.mb_iface.specs.Needs.{blocks_of}
use Rattle.mb_iface.specs.declared.replies.Need.{Need}
use Rattle.mb_room.specs.Room.{Roomy}
use Rattle.mb_gate.specs.declared.ulogs.Undo.{Undo}
use Rattle.mb_gate.specs.declared.ulogs.Undo.TheVariants as undo
use Rattle.mb_cache.specs.State.{CacheState, seen}
use Rattle.mb_cache.specs.Kept.{CopyList}
use Rattle.mb_core_spec.specs.Copies.{PagesState, TableCopy}
use Rattle.mb_core_spec.specs.Events.{GivesBack}
use Rattle.mb_core_spec.specs.State.{CallerState}
use Rattle.mb_callers.specs.Pins.{pin_steps}
use Rattle.mb_copies.specs.Reads.{AreRead, numbers, stored}

-- pages with the copies of some blocks more
abbrev pub with_blocks : PagesState → CopyList → PagesState
with_blocks pages reads = record pages { blocks = stored pages.blocks reads }

-- pages with a copy of the tables
abbrev pub with_tables : PagesState → TableCopy → PagesState
with_tables pages now = record pages { tables = Some now }

-- the blocks that are asked for were gathered: read as they are seen, pinned, and kept with the caller and in its pages alike
pub record GathersBlocks {D : Type 0} (told : D → Option Image) (old new : CacheState D) (need : Need) (mine kept : CallerState) (pages got : PagesState) : Type 0 where
  pub reads : CopyList
  pub numbers_are : numbers reads ≡ blocks_of need
  pub are : AreRead (seen told old) old.stamps reads
  pub pins : GivesBack new.pins old.pins (pin_steps reads)
  pub kept_is : kept ≡ record mine { undo = mine.undo ++ pin_steps reads; pages = with_blocks mine.pages reads }
  pub got_is : got ≡ with_blocks pages reads

-- the tables were gathered: block 0 is pinned, and the copy is kept with the caller and in its pages alike
pub record GathersTables {D : Type 0} (old new : CacheState D) (now : TableCopy) (mine kept : CallerState) (pages got : PagesState) : Type 0 where
  pub pins : GivesBack new.pins old.pins (undo.Pinned 0 ∷ [])
  pub kept_is : kept ≡ record mine { undo = mine.undo ++ undo.Pinned 0 ∷ []; pages = with_tables mine.pages now }
  pub got_is : got ≡ with_tables pages now

-- the log of a call that is inside has room for the steps of its entry: a stale copy is answered without memory
abbrev pub HasSteps : Bool → Roomy Undo → Type 0
HasSteps inside log = inside ≡ true → 3 ≤ length log.items + log.spare
