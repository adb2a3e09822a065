-- What is kept of the calls that are read so far, at the beginning.
use Rattle.std.proofs.Common.{[], ℕ, zero, suc, ◌≡◌, false, replicate, refl, arith}
use Rattle.std.specs.Prelude.{slice_index_or}
use Rattle.mb_jobs.specs.Lists.{IsListed}

all_false : (n place : ℕ) → slice_index_or (replicate n false) place false ≡ false
all_false zero place = refl
all_false (suc n) zero = refl
all_false (suc n) (suc place) = all_false n place

pub IsListed-none : IsListed [] 0 (replicate 256 false)
IsListed-none = record { few = omega arith; sum = refl; small = omega arith; marks = λ caller below. all_false 256 caller }
