-- Changed blocks that the view has.
use Rattle.std.proofs.Common.{ℕ, ◌≡◌, Option, Some, None, List, length, take, drop, ◌+◌, ◌-◌, ◌≤◌, arith}
use Rattle.std.proofs.lemmas.List.{length-drop, length-take-le}
use Rattle.std.specs.Option.{option_or}

-- a block that is lacking under changes is lacking
pub lacks : (c s : Option (List ℕ)) → option_or c s ≡ None → s ≡ None
lacks None s e = e
lacks (Some bytes) s e = cc

pub length-take_drop : (b : List ℕ) (n at : ℕ) → at + n ≤ length b → length (take n (drop at b)) ≡ n
length-take_drop b n at fits = (let d : length (drop at b) ≡ length b - at = length-drop at b in length-take-le n (drop at b) (omega (arith, d, fits)))
