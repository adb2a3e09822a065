-- How links make rings. A row is a ring's head and the pages after it, by their places.
use Rattle.std.specs.Prelude.{◌≡◌, ℕ, ◌<◌, ◌≤◌, true, false, List, [], ◌∷◌, ◌++◌, length, get_or, IsTrue, ⊤}
use Rattle.std.specs.List.{AllByRecursion}
use denote.RawPtr.{Ptr, null_ptr}
use Rattle.mb_frames.specs.Counts.{total, times}
use Rattle.mb_frames.specs.Cells.{Cell, is_at, next_at, prev_at, head_at}

-- from a on, each link goes to the next of the list, and that one's link back
abbrev pub Linked : (Ptr → Ptr) → (Ptr → Ptr) → Ptr → List Ptr → Type 0
Linked n p a [] = ⊤
Linked n p a (b ∷ bs) = (n a ≡ b) × (p b ≡ a) × Linked n p b bs

-- the row's links lead from its head through its pages and back
abbrev pub Round : (Ptr → Ptr) → (Ptr → Ptr) → List Ptr → Type 0
Round n p [] = ⊥
Round n p (h ∷ ps) = Linked n p h (ps ++ h ∷ [])

-- the row's first node alone is a head
abbrev pub Headed : List Cell → List Ptr → Type 0
Headed cs [] = ⊥
Headed cs (h ∷ ps) = (head_at cs h ≡ true) × AllByRecursion (λ p. head_at cs p ≡ false) ps

abbrev pub first_of : List Ptr → Ptr
first_of [] = null_ptr
first_of (h ∷ ps) = h

-- the cells are linked to rings, and these are their rows
pub record Shaped (cs : List Cell) (rows : List (List Ptr)) : Type 0 where
  pub rounds : (k : ℕ) → k < length rows → Round (next_at cs) (prev_at cs) (get_or rows k [])
  pub headed : (k : ℕ) → k < length rows → Headed cs (get_or rows k [])
  pub apart : (q : Ptr) → total (times q) rows ≤ 1
  pub here : (q : Ptr) → 0 < total (times q) rows → IsTrue (is_at q cs)
  pub bounded : total length rows ≤ length cs
