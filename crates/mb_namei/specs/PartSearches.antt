-- One part of a directory, gone through after the parts before it.
use Rattle.std.specs.Prelude.{List, ℕ, ◌+◌, ◌*◌, ◌/◌, ◌<◌, ◌≤◌, ◌≡◌, min, Option}
use Rattle.mb_tree.specs.Blocks.{slot_in}
use Rattle.mb_kinds.specs.Changed.{ChangeList}
use Rattle.mb_iface.specs.Needs.{IsNeed}
use Rattle.mb_namei.specs.Directories.{IsBlockOf}
use Rattle.mb_namei.specs.Searching.{OnDirectory}
use Rattle.mb_namei.specs.Slots.{AreUnnamed, IsFirstEmpty, IsFirstNamed, used_below}
use Rattle.mb_namei.specs.declared.searches.PartSought.{PartSought}
use Rattle.mb_namei.specs.declared.searches.PartSought.TheVariants as sought
use Rattle.mb_namei.specs.declared.searches.PartCounted.{PartCounted}
use Rattle.mb_namei.specs.declared.searches.PartCounted.TheVariants as counted

-- the number of slots up to the end of the parts before one
abbrev pub slots_before : ℕ → ℕ → ℕ
slots_before part count = min (32 * part) count

-- the slots before the part have no such name, and this one is the first empty of them
pub record IsPassedBy (blocks : ℕ → List ℕ) (dir part count empty : ℕ) (name : List ℕ) : Type 0 where
  pub unnamed : AreUnnamed (slot_in blocks dir) name (slots_before part count)
  pub first : IsFirstEmpty (slot_in blocks dir) (slots_before part count) count empty

abbrev pub SeeksInPart : (ℕ → Option (List ℕ)) → ChangeList → ℕ → ℕ → ℕ → ℕ → List ℕ → PartSought → Type 0
SeeksInPart shown changes dir part count empty name (sought.Found at ino) = (at < count)
    × ((size : ℕ) → OnDirectory shown changes dir size (λ blocks slots. IsPassedBy blocks dir part count empty name → IsFirstNamed (slot_in blocks dir) name count at ino))
SeeksInPart shown changes dir part count empty name (sought.Unnamed next) = (next ≤ empty)
    × ((size : ℕ) → OnDirectory shown changes dir size (λ blocks slots. IsPassedBy blocks dir part count empty name → IsPassedBy blocks dir (part + 1) count next name))
SeeksInPart shown changes dir part count empty name sought.Hole = (size : ℕ) → count ≡ size / 16 → OnDirectory shown changes dir size (λ blocks slots. ⊥)
SeeksInPart shown changes dir part count empty name (sought.Need need) = IsNeed shown need × ((size : ℕ) → OnDirectory shown changes dir size (λ blocks slots. IsBlockOf blocks dir need.first))

abbrev pub CountsInPart : (ℕ → Option (List ℕ)) → ChangeList → ℕ → ℕ → ℕ → PartCounted → Type 0
CountsInPart shown changes dir part count (counted.Used more) = (more ≤ 32)
    × ((size : ℕ) → OnDirectory shown changes dir size (λ blocks slots. used_below (slot_in blocks dir) (slots_before (part + 1) count) ≡ used_below (slot_in blocks dir) (slots_before part count) + more))
CountsInPart shown changes dir part count counted.Hole = (size : ℕ) → count ≡ size / 16 → OnDirectory shown changes dir size (λ blocks slots. ⊥)
CountsInPart shown changes dir part count (counted.Need need) = IsNeed shown need × ((size : ℕ) → OnDirectory shown changes dir size (λ blocks slots. IsBlockOf blocks dir need.first))
