-- Where a caller's descriptors and places stand.
use Rattle.std.specs.Prelude.{List, ℕ, ◌≤◌, ◌≡◌, Some, None, slice_get}
use Rattle.std.specs.FinMap as fin
use Rattle.mb_tree.specs.declared.seats.Seat.{Seat}

-- no descriptor from 20 on, and no place of an open file from 17 on
pub record IsInRange (seat : Seat) : Type 0 where
  pub fds : (fd : ℕ) → 20 ≤ fd → fin.get seat.fds fd ≡ None
  pub files : (place : ℕ) → 17 ≤ place → fin.get seat.files place ≡ None

abbrev pub AreInRange : List Seat → Type 0
AreInRange seats = (at : ℕ) (seat : Seat) → slice_get seats at ≡ Some seat → IsInRange seat
