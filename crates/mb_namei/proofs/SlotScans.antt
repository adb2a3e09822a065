-- The slots of one block, one further.
use Rattle.std.proofs.Common.{ℕ, ◌≡◌, ◌+◌, Bool, true, false, ◌&&◌, List, refl, ap, ◌∙◌, below_more}
use Rattle.std.specs.Prelude.{bytes_eq}
use Rattle.mb_word.specs.Fields.{slot_name}
use Rattle.mb_tree.specs.Blocks.{slot_of}
use Rattle.mb_tree.specs.Lookup.{is_used}
use Rattle.mb_namei.specs.Slots.{AreUnnamed}

-- a slot with another name, in use or not
pub unnamed_other : (bytes name : List ℕ) (place : ℕ) → bytes_eq (slot_name bytes place) name ≡ false → AreUnnamed (slot_of bytes) name place → AreUnnamed (slot_of bytes) name (place + 1)
unnamed_other bytes name place other before = below_more _ _ before (ap (λ b. is_used (slot_of bytes place) && b) other ∙ and_false (is_used (slot_of bytes place)))
  where
    and_false : (b : Bool) → (b && false) ≡ false
    and_false true = refl
    and_false false = refl
