-- A folded list, operation by operation.
use Rattle.std.proofs.Common.{◌≡◌, ℕ, ◌+◌, ◌≤◌, List, [], ◌∷◌, length, Bool, true, false, if◌then◌else◌, refl, subst, arith}
use Rattle.mb_tree.specs.Effect.{TreeAndOpens}
use Rattle.mb_tree.specs.CarriedOut.{AreCarriedOut, FindFewOpens, IsCarriedOut, PickedOp}
use Rattle.mb_tree.proofs.CarryingOut.{one_end}
use Rattle.mb_folds.specs.Folded.{folded_from, is_merged, merged}
use Rattle.mb_folds.specs.Laws.{FoldedFindsFew, FoldedIsShort, FoldedLeads}
use Rattle.mb_folds.proofs.Merging.{merges}

-- the next operation merged, or behind the last one
abbrev after_next : Bool → PickedOp → PickedOp → List PickedOp → List PickedOp
after_next one last next later = if one then folded_from (merged last next) later else last ∷ folded_from next later

merge_leads : (held mid last : TreeAndOpens) (first next : PickedOp) → is_merged first next ≡ true → IsCarriedOut held first mid → IsCarriedOut mid next last → IsCarriedOut held (merged first next) last
merge_leads held mid last first next h a b = (merges first.op next.op first.pick next.pick h).leads held mid last a b

from_leads : (held last : TreeAndOpens) (first : PickedOp) (later : List PickedOp) → AreCarriedOut held (first ∷ later) last → AreCarriedOut held (folded_from first later) last
from_leads held last first [] h = h
from_leads held last first (next ∷ later) h =
    elim (is_merged first next) as (λ b. is_merged first next ≡ b → AreCarriedOut held (after_next b first next later) last) [
      | false ↦ λ e. (h.0, h.1, from_leads h.0 last next later h.2)
      | true ↦ λ e. from_leads held last (merged first next) later (h.2.0, merge_leads held h.0 h.2.0 first next e h.1 h.2.1, h.2.2)
    ] refl

pub folded_leads : FoldedLeads
folded_leads held last [] h = h
folded_leads held last (first ∷ later) h = from_leads held last first later h

from_finds_few : (most : ℕ) (held last : TreeAndOpens) (first : PickedOp) (later : List PickedOp) → AreCarriedOut held (first ∷ later) last → FindFewOpens most held (first ∷ later) → FindFewOpens most held (folded_from first later)
from_finds_few most held last first [] h few = few
from_finds_few most held last first (next ∷ later) h few =
    elim (is_merged first next) as (λ b. is_merged first next ≡ b → FindFewOpens most held (after_next b first next later)) [
      | false ↦ λ e. (
        few.0,
        λ mid one.
            let is = one_end held h.0 mid first h.1 one in
            from_finds_few most mid last next later (subst (λ (t : TreeAndOpens). AreCarriedOut t (next ∷ later) last) is h.2) (few.1 mid one),
      )
      | true ↦ λ e.
          let leads = merge_leads held h.0 h.2.0 first next e h.1 h.2.1 in
          from_finds_few most held last (merged first next) later (h.2.0, leads, h.2.2)
          (few.0, λ end one. subst (λ (t : TreeAndOpens). FindFewOpens most t later) (one_end held h.2.0 end (merged first next) leads one) ((few.1 h.0 h.1).1 h.2.0 h.2.1))
    ] refl

pub folded_finds_few : FoldedFindsFew
folded_finds_few most held last [] h few = few
folded_finds_few most held last (first ∷ later) h few = from_finds_few most held last first later h few

from_is_short : (first : PickedOp) (later : List PickedOp) → length (folded_from first later) ≤ length later + 1
from_is_short first [] = omega arith
from_is_short first (next ∷ later) = elim (is_merged first next) as (λ b. length (after_next b first next later) ≤ length (next ∷ later) + 1) [
  | false ↦ let rest = from_is_short next later in omega (arith, rest)
  | true ↦ let rest = from_is_short (merged first next) later in omega (arith, rest)
]

pub folded_is_short : FoldedIsShort
folded_is_short [] = omega arith
folded_is_short (first ∷ later) = let some = from_is_short first later in omega (arith, some)
