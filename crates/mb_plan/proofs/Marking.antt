-- The calls of the rules have marks, and where a call has none no rule fires.
use Rattle.std.proofs.Common.{ℕ, ◌+◌, ◌<◌, ◌≤◌, ◌≡◌, ◌&&◌, Bool, true, false, List, [], ◌∷◌, length, get_or, take, set, nat_eq, None, refl, sym, subst, ◌∙◌, inl, inr, arith}
use Rattle.std.specs.List.{find}
use Rattle.std.proofs.lemmas.Bool.{and_parts, cases_Bool, eqb-true, false≢true}
use Rattle.std.proofs.lemmas.Grind.{common_steps}
use Rattle.std.proofs.lemmas.List.{take_all}
use Rattle.std.proofs.lemmas.List.Elements.{All-head, All-more, All-tail, All-weaker}
use Rattle.mb_edge.specs.declared.crossings.Crossing.{Crossing}
use Rattle.mb_plan.specs.declared.rules.Rule.{Rule}
use Rattle.mb_plan.specs.Fires.{is_meant, rule_fires, same_kind}
use Rattle.mb_plan.specs.Marks.{AreMarked, is_marked, slot_of}

-- a mark more takes none away
mark_kept : (marks : List Bool) (slot other : ℕ) → slot < length marks → get_or marks other false ≡ true → get_or (set marks slot true) other false ≡ true
mark_kept marks slot other inside marked = grind (arith, common_steps)

pub marked_more : (rules : List Rule) (marks : List Bool) (i slot : ℕ) (rule : Rule) → i < length rules → slot < length marks → rule ≡ get_or rules i rule → slot ≡ slot_of rule.caller rule.ordinal
    → AreMarked (take i rules) marks → AreMarked (take (i + 1) rules) (set marks slot true)
marked_more rules marks i slot rule within inside here place so_far =
    let Marked = λ (one : Rule). is_marked (set marks slot true) one.caller one.ordinal ≡ true in
    All-more Marked rules i rule within
    (All-weaker (λ (one : Rule). is_marked marks one.caller one.ordinal ≡ true) Marked (λ one marked. mark_kept marks slot (slot_of one.caller one.ordinal) inside marked) (take i rules) so_far)
    (subst Marked here (grind (arith, common_steps)))

pub marked_all : (rules : List Rule) (marks : List Bool) (n : ℕ) → length rules ≤ n → AreMarked (take n rules) marks → AreMarked rules marks
marked_all rules marks n whole so_far = subst (λ (list : List Rule). AreMarked list marks) (take_all n rules whole) so_far

-- a rule that fires is one of the crossing's call, whose mark it has
fires_marked : (rule : Rule) (marks : List Bool) (at : Crossing) → is_marked marks rule.caller rule.ordinal ≡ true → rule_fires rule at ≡ true → is_marked marks at.caller at.ordinal ≡ true
fires_marked rule marks at marked holds =
    let meant = and_parts (is_meant rule at) _ holds in
    let call = and_parts (nat_eq rule.caller at.caller && nat_eq rule.ordinal at.ordinal) (same_kind rule.kind at.kind) meant.0 in
    let parts = and_parts (nat_eq rule.caller at.caller) (nat_eq rule.ordinal at.ordinal) call.0 in
    let caller : rule.caller ≡ at.caller = eqb-true rule.caller at.caller parts.0 in
    let ordinal : rule.ordinal ≡ at.ordinal = eqb-true rule.ordinal at.ordinal parts.1 in
    subst (λ ordinal. is_marked marks at.caller ordinal ≡ true) ordinal (subst (λ caller. is_marked marks caller rule.ordinal ≡ true) caller marked)

pub none_fires : (rules : List Rule) (marks : List Bool) (at : Crossing) → AreMarked rules marks → is_marked marks at.caller at.ordinal ≡ false → None ≡ find (λ (rule : Rule). rule_fires rule at) rules
none_fires [] marks at marked clear = refl
none_fires (rule ∷ more) marks at marked clear =
    let Marked = λ (one : Rule). is_marked marks one.caller one.ordinal ≡ true in
    let rest = none_fires more marks at (All-tail Marked rule more marked) clear in
    elim (cases_Bool (rule_fires rule at)) [
      | inl holds ↦ absurd (false≢true (sym clear ∙ fires_marked rule marks at (All-head Marked rule more marked) holds))
      | inr fails ↦ rw fails rest
    ]
