-- Maps that are filled in the order of their numbers.
use Rattle.std.specs.Prelude.{List, ℕ, ◌+◌, ◌<◌, ◌≤◌, ◌≡◌, Option, None}
use Rattle.std.specs.FinMap as fin
use Rattle.mb_tree.specs.Blocks.{bytes_at}
use Rattle.mb_tree.specs.Maps.{Numbered}

-- the map has the values of the numbers below n, and no other
pub record HasBelow {X : Type 0} (m : Numbered X) (n : ℕ) (value : ℕ → Option X) : Type 0 where
  pub below : (p : ℕ) → p < n → fin.get m p ≡ value p
  pub past : (p : ℕ) → n ≤ p → fin.get m p ≡ None

-- the next parts of a file are those at these addresses
abbrev pub FillsParts : (ℕ → List ℕ) → Numbered (List ℕ) → Numbered (List ℕ) → ℕ → ℕ → (ℕ → ℕ) → Type 0
FillsParts blocks old new number size address = (value : ℕ → Option (List ℕ)) → HasBelow old number value → ((k : ℕ) → k < size → value (number + k) ≡ bytes_at blocks (address k)) → HasBelow new (number + size) value
