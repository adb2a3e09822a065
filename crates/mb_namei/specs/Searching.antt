-- A name searched in a directory (V7 dir(5)).
use Rattle.std.specs.Prelude.{List, ℕ, ◌≡◌, Bool, not, Option, Some, None, position, count_by}
use Rattle.mb_tree.specs.Lookup.{is_used, is_named, number_of}
use Rattle.mb_tree.specs.Views.{over, IsPart}
use Rattle.mb_tree.specs.declared.nodes.PlainSlot.{PlainSlot}
use Rattle.mb_kinds.specs.Changed.{ChangeList, changed}
use Rattle.mb_iface.specs.Needs.{IsNeed}
use Rattle.mb_namei.specs.Directories.{IsDirectoryOn, IsBlockOf}
use Rattle.mb_namei.specs.declared.searches.Sought.{Sought}
use Rattle.mb_namei.specs.declared.searches.Sought.TheVariants as sought
use Rattle.mb_namei.specs.declared.searches.Counted.{Counted}
use Rattle.mb_namei.specs.declared.searches.Counted.TheVariants as counted

-- an empty slot
abbrev pub is_empty : PlainSlot → Bool
is_empty slot = not (is_used slot)

-- what is said of a directory's slots, of whatever blocks a view with changes over it is a part, and asked for of its
-- blocks
abbrev pub OnDirectory : (ℕ → Option (List ℕ)) → ChangeList → ℕ → ℕ → ((ℕ → List ℕ) → List PlainSlot → Type 0) → Type 0
OnDirectory shown changes dir size says = (blocks : ℕ → List ℕ) (slots : List PlainSlot) → IsPart shown blocks
    → IsDirectoryOn (over blocks (changed changes)) dir size slots → says (over blocks (changed changes)) slots

-- the first used slot with the name and its number; else the first empty slot, if there is one
abbrev pub Seeks : (ℕ → Option (List ℕ)) → ChangeList → ℕ → ℕ → List ℕ → Sought → Type 0
Seeks shown changes dir size name (sought.Found at ino) = OnDirectory shown changes dir size (λ blocks slots. (position (is_named name) slots ≡ Some at) × (number_of slots name ≡ Some ino))
Seeks shown changes dir size name (sought.Empty at) = OnDirectory shown changes dir size (λ blocks slots. (number_of slots name ≡ None) × (position is_empty slots ≡ Some at))
Seeks shown changes dir size name sought.Full = OnDirectory shown changes dir size (λ blocks slots. (number_of slots name ≡ None) × (position is_empty slots ≡ None))
Seeks shown changes dir size name (sought.Need need) = IsNeed shown need × OnDirectory shown changes dir size (λ blocks slots. IsBlockOf blocks dir need.first)

-- how many slots are in use
abbrev pub CountsUsed : (ℕ → Option (List ℕ)) → ChangeList → ℕ → ℕ → Counted → Type 0
CountsUsed shown changes dir size (counted.Used count) = OnDirectory shown changes dir size (λ blocks slots. count_by is_used slots ≡ count)
CountsUsed shown changes dir size (counted.Need need) = IsNeed shown need × OnDirectory shown changes dir size (λ blocks slots. IsBlockOf blocks dir need.first)
