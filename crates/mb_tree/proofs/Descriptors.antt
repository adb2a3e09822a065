-- What the lowest free descriptor is: a number of 3 to 19 without an open file.
use Rattle.std.proofs.Common.{◌≡◌, ℕ, zero, suc, ◌+◌, ◌<◌, ◌≤◌, Bool, true, false, not, if◌then◌else◌, None, Some, arith}
use Rattle.std.specs.FinMap as fin
use Rattle.mb_tree.specs.Counting.{first_from}
use Rattle.mb_tree.specs.Plans.{CanMake}
use Rattle.mb_tree.specs.Sessions.{HasDescriptorInRange, free_descriptor}
use Rattle.mb_tree.specs.declared.seats.Seat.{Seat}
use Rattle.mb_tree.specs.declared.seats.SessionChange.{SessionChange}
use Rattle.mb_tree.specs.declared.seats.SessionChange.TheVariants.{Same, Fresh, Twin, Free, Move, Cwd, Mask, Clear}
use Rattle.mb_tree.proofs.Seated.{in_row, none_of, passes}

-- what is found is not below the first number
pub low_end : (p : ℕ → Bool) (low n k : ℕ) → first_from p low n ≡ Some k → low ≤ k
unfolding first_from
low_end p low zero k h = cc
low_end p low (suc n) k h = elim (p low) as (λ b. (if b then Some low else first_from p (low + 1) n) ≡ Some k → low ≤ k) [
  | true ↦ λ s. let at : low ≡ k = cc in omega (arith, at)
  | false ↦ λ s. omega (arith, low_end p (low + 1) n k s)
] h

pub free_above : (seat : Seat) (fd : ℕ) → free_descriptor seat ≡ Some fd → 3 ≤ fd
free_above seat fd h = low_end (λ fd. not (fin.contains_key seat.fds fd)) 3 17 fd h

pub free_within : (seat : Seat) (fd : ℕ) → free_descriptor seat ≡ Some fd → fd < 20
free_within seat fd h = omega (arith, in_row (λ fd. not (fin.contains_key seat.fds fd)) 3 17 fd h)

pub free_unused : (seat : Seat) (fd : ℕ) → free_descriptor seat ≡ Some fd → fin.get seat.fds fd ≡ None
free_unused seat fd h = none_of _ (passes (λ fd. not (fin.contains_key seat.fds fd)) 3 17 fd h)

pub in_range : (seat : Seat) (change : SessionChange) → CanMake seat change → HasDescriptorInRange change
in_range seat Same h = tt
in_range seat (Fresh fd ino how) h = free_within seat fd h
in_range seat (Twin fd to) h = free_within seat to h.0
in_range seat (Free fd) h = tt
in_range seat (Move fd offset) h = tt
in_range seat (Cwd ino) h = tt
in_range seat (Mask mask) h = tt
in_range seat Clear h = tt
