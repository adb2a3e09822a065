-- The blocks that a core keeps from one operation that is done again to the next.
use Rattle.std.specs.Prelude.{◌≡◌, Option, Some}
use Rattle.mb_kinds.specs.Image.{Image}
use Rattle.mb_cache.specs.State.{CacheState, seen}
use Rattle.mb_cache.specs.Kept.{CopyList, shown}
use Rattle.mb_tree.specs.Views.{IsPart}

-- copies of blocks are a part of what is seen
abbrev pub AreSeen : {D : Type 0} → (D → Option Image) → CacheState D → CopyList → Type 0
AreSeen told cache copies = (view : Image) → seen told cache ≡ Some view → IsPart (shown copies) view.at
