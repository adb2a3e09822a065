use Rattle.std.proofs.Common.{◌≡◌, ◌<◌, ℕ, length, slice_get}
use Rattle.mb_session.proofs.sameness.same_seats.Given as goal

abbrev pub invariant-loop-at : goal.invariant-loop-at
invariant-loop-at l = record {
  same : (place : ℕ) → place < l.at → slice_get l.seats place ≡ slice_get l.others place;
  whole : l.at-end ≡ length l.seats;
  long : length l.seats ≡ length l.others;
}
