-- A worked example of the damage of a fault: two pages are wiped, and then the second one is replaced.
use Rattle.std.proofs.Common.{ℕ, ◌≡◌, List, [], ◌∷◌, refl}
use Rattle.mb_edge.specs.declared.strokes.Stroke.{Stroke}
use Rattle.mb_edge.specs.declared.strokes.Stroke.TheVariants.{Wipe, Page}
use Rattle.mb_edge.specs.Damage.{OpenCounts, damaged, wiped}

strokes : List ℕ → List Stroke
strokes bytes = Wipe 5 ∷ Page 1 bytes ∷ Page 2 bytes ∷ []

pages_worked : (first second bytes : List ℕ) (opens : OpenCounts)
    → damaged (record { pages = (90, first) ∷ (40, second) ∷ []; opens = opens }) (strokes bytes) ≡ record { pages = (90, wiped 5) ∷ (40, bytes) ∷ []; opens = opens }
unfolding strokes
pages_worked first second bytes opens = refl
