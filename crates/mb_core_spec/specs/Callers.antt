-- What holds of each caller, and sums over them.
use Rattle.std.specs.Prelude.{List, [], ◌∷◌, ℕ, ◌+◌, ◌≡◌, Bool, Some, if◌then◌else◌, slice_get}
use Rattle.mb_core_spec.specs.State.{CallerState}

-- something holds of each caller's state
abbrev pub EachCaller : (ℕ → CallerState → Type 0) → List CallerState → Type 0
EachCaller P callers = (caller : ℕ) (mine : CallerState) → slice_get callers caller ≡ Some mine → P caller mine

-- a sum over a list
abbrev pub total : {X : Type 0} → (X → ℕ) → List X → ℕ
total f [] = 0
total f (x ∷ xs) = f x + total f xs

abbrev pub one_if : Bool → ℕ
one_if b = if b then 1 else 0

-- how many calls all callers began
abbrev pub begun : List CallerState → ℕ
begun callers = total (λ (mine : CallerState). mine.begun) callers

-- how many callers are inside
abbrev pub insiders : List CallerState → ℕ
insiders callers = total (λ (mine : CallerState). one_if mine.inside) callers
