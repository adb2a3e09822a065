-- Counts over lists of places.
use Rattle.std.specs.Prelude.{ℕ, ◌+◌, cond, List, [], ◌∷◌}
use denote.RawPtr.{Ptr}
use Rattle.mb_frames.specs.Pointers.{same_ptr}

-- the sum of f over a list
unfoldable pub total : {X : Type 0} → (X → ℕ) → List X → ℕ
total f [] = 0
total f (x ∷ xs) = f x + total f xs

-- how often q stands in the list
unfoldable pub times : Ptr → List Ptr → ℕ
times q [] = 0
times q (p ∷ ps) = cond (same_ptr p q) 1 0 + times q ps
