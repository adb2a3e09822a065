-- Where changed blocks stand in the list.
use Rattle.std.specs.Prelude.{List, ℕ, ◌≡◌, Some, slice_get}
use Rattle.mb_kinds.specs.Changed.{ChangeList, changed}

-- a changed block stands at a place of the list, counted from 0
pub record StandsAt (changes : ChangeList) (place block : ℕ) : Type 0 where
  pub bytes : List ℕ
  pub here : slice_get changes place ≡ Some (block, bytes)
  pub reads : changed changes block ≡ Some bytes
