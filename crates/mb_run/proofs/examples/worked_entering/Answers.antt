use Rattle.std.proofs.Common.{◌≡◌, ◌<◌, ℕ, arith, refl}
use Rattle.mb_run.proofs.examples.worked_entering.Goals as goal

never : (m n : ℕ) → m < n → m ≡ n → ⊥
never m n less same = omega (arith, less, same)

pub returns : goal.returns
returns c = ((refl, refl, (refl, refl, tt)), (refl, refl, (refl, refl, tt)), (λ begins. never 0 1 (omega arith) begins.0), (λ begins. begins.2))
