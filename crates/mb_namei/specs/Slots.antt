-- Slots in a row, gone through from the first.
use Rattle.std.specs.Prelude.{List, ℕ, zero, suc, ◌+◌, ◌<◌, ◌≤◌, ◌≡◌, true, false, cond, take, drop}
use Rattle.std.specs.Int.{w64, from_le_bytes}
use Rattle.mb_tree.specs.Blocks.{slot_of}
use Rattle.mb_tree.specs.Lookup.{is_used, is_named}
use Rattle.mb_tree.specs.declared.nodes.PlainSlot.{PlainSlot}
use Rattle.mb_namei.specs.declared.slots.Glimpse.{Glimpse}
use Rattle.mb_namei.specs.declared.slots.Glimpse.TheVariants as glimpse

-- eight bytes from an offset on as one number
unfoldable pub eight_of : List ℕ → ℕ → ℕ
eight_of bytes at = from_le_bytes w64 (take 8 (drop at bytes))

-- none of the first slots has the name
abbrev pub AreUnnamed : (ℕ → PlainSlot) → List ℕ → ℕ → Type 0
AreUnnamed slot name n = (k : ℕ) → k < n → is_named name (slot k) ≡ false

-- the first empty one of the first slots, or the number of all slots
pub record IsFirstEmpty (slot : ℕ → PlainSlot) (n count empty : ℕ) : Type 0 where
  pub within : empty ≤ count
  pub here : empty < count → is_used (slot empty) ≡ false
  pub before : (k : ℕ) → k < n → k < empty → is_used (slot k) ≡ true

-- the first of the first slots with the name
pub record IsFirstNamed (slot : ℕ → PlainSlot) (name : List ℕ) (count at ino : ℕ) : Type 0 where
  pub within : at < count
  pub here : is_named name (slot at) ≡ true
  pub number : (slot at).ino ≡ ino
  pub before : AreUnnamed slot name at

-- how many of the first slots are in use
abbrev pub used_below : (ℕ → PlainSlot) → ℕ → ℕ
used_below slot zero = 0
used_below slot (suc n) = used_below slot n + cond (is_used (slot n)) 1 0

-- what a block's first slots say of a name
abbrev pub Glimpses : List ℕ → ℕ → List ℕ → Glimpse → Type 0
Glimpses bytes count name (glimpse.Named place ino) = IsFirstNamed (slot_of bytes) name count place ino
Glimpses bytes count name (glimpse.Unnamed empty) = AreUnnamed (slot_of bytes) name count × IsFirstEmpty (slot_of bytes) count count empty

abbrev pub CountsSlots : List ℕ → ℕ → ℕ → Type 0
CountsSlots bytes count used = (used_below (slot_of bytes) count ≡ used) × (used ≤ count)
