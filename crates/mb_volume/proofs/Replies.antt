-- Which entry of a caller has a call's ordinal.
use Rattle.std.proofs.Common.{◌≡◌, List, [], ◌∷◌, ◌++◌, ℕ, zero, suc, ◌<◌, Bool, true, false, cond, nat_eq, inl, inr, refl, ap, sym, subst, ◌∙◌, arith, length}
use Rattle.std.proofs.lemmas.Bool.{eq-eqb, eqb-true}
use Rattle.std.proofs.lemmas.List.Elements.{Contains-append_right, Contains-push_cases}
use Rattle.std.specs.List.{AllByRecursion, Contains, filter}
use Rattle.std.specs.Prelude.{slice_index_or}
use Rattle.mb_kinds.specs.Own.{own}
use Rattle.mb_kinds.specs.declared.calls.Call.{Call}
use Rattle.mb_kinds.specs.declared.entries.Entry.{Entry}
use Rattle.mb_kinds.specs.declared.replies.Reply.{Reply}
use Rattle.mb_core_spec.specs.Numbers.{AreInOrder, CanFollow}
use Rattle.mb_run.proofs.Lists.{all_map}
use Rattle.mb_run.specs.Events.{IsReplyOf}
use Rattle.mb_volume.specs.Underway.{AddsEntry, OrdinalsRise, IsReplyIn}

all_at : {X : Type 0} (P : X → Type 0) (xs : List X) (x : X) (k : ℕ) → AllByRecursion P xs → k < length xs → slice_index_or xs k x ≡ x → P x
all_at P [] x k all low is = absurd (omega (arith, low))
all_at P (y ∷ ys) x zero all low is = subst P is all.0
all_at P (y ∷ ys) x (suc k) all low is = all_at P ys x k all.1 (omega (arith, low)) is

pub all_contains : {X : Type 0} (P : X → Type 0) (xs : List X) (x : X) → AllByRecursion P xs → Contains xs x → P x
all_contains P xs x all there = all_at P xs x there.0 all there.1 there.2

pub all_filter : {X : Type 0} (p : X → Bool) (P : X → Type 0) (xs : List X) → AllByRecursion P xs → AllByRecursion P (filter p xs)
all_filter p P [] all = tt
all_filter p P (x ∷ xs) all = elim (p x) as (λ b. AllByRecursion P (cond b (x ∷ filter p xs) (filter p xs))) [ true ↦ (all.0, all_filter p P xs all.1) | false ↦ all_filter p P xs all.1 ]

-- the last of a list
pub all_last : {X : Type 0} (P : X → Type 0) (xs : List X) (x : X) → AllByRecursion P (xs ++ x ∷ []) → P x
all_last P [] x all = all.0
all_last P (y ∷ ys) x all = all_last P ys x all.1

-- a caller's own entries have rising ordinals
rises_after : (history : List Entry) (entry : Entry) (caller : ℕ) → entry.caller ≡ caller → AllByRecursion (λ (next : Entry). CanFollow next.caller next.ordinal next.moment entry) history
    → AllByRecursion (λ (next : Entry). entry.ordinal < next.ordinal) (own history caller)
rises_after [] entry caller mine follow = tt
rises_after (next ∷ later) entry caller mine follow =
    elim (nat_eq next.caller caller) as (λ b. nat_eq next.caller caller ≡ b → AllByRecursion (λ (n : Entry). entry.ordinal < n.ordinal) (cond b (next ∷ own later caller) (own later caller))) [
      | true ↦ λ same. (follow.0.later (eqb-true next.caller caller same ∙ sym mine), rises_after later entry caller mine follow.1)
      | false ↦ λ other. rises_after later entry caller mine follow.1
    ] refl

pub own_rises : (history : List Entry) (caller : ℕ) → AreInOrder history → OrdinalsRise (own history caller)
own_rises [] caller pairs = tt
own_rises (entry ∷ later) caller pairs =
    elim (nat_eq entry.caller caller) as (λ b. nat_eq entry.caller caller ≡ b → OrdinalsRise (cond b (entry ∷ own later caller) (own later caller))) [
      | true ↦ λ same. (rises_after later entry caller (eqb-true entry.caller caller same) pairs.0, own_rises later caller pairs.1)
      | false ↦ λ other. own_rises later caller pairs.1
    ] refl

before_last : (entries : List Entry) (entry : Entry) → OrdinalsRise (entries ++ entry ∷ []) → AllByRecursion (λ (one : Entry). one.ordinal < entry.ordinal) entries
before_last [] entry rises = tt
before_last (one ∷ entries) entry rises = (all_last (λ (next : Entry). one.ordinal < next.ordinal) entries entry rises.0, before_last entries entry rises.1)

-- the entry with the last one's ordinal is that one
pub last_of : (entries : List Entry) (entry one : Entry) → OrdinalsRise (entries ++ entry ∷ []) → Contains (entries ++ entry ∷ []) one → one.ordinal ≡ entry.ordinal → entry ≡ one
last_of entries entry one rises there same = elim (Contains-push_cases entries entry one there) [
  | inl earlier ↦ absurd (omega (arith, same, all_contains (λ (e : Entry). e.ordinal < entry.ordinal) entries one (before_last entries entry rises) earlier))
  | inr is ↦ is
]

-- so the reply of the call is that of the entry that came
pub reply_of : (caller ordinal : ℕ) (call : Call) (from now : List Entry) (answer : Reply) → OrdinalsRise now → (added : AddsEntry caller ordinal call from now) → IsReplyIn now ordinal answer → added.entry.reply ≡ answer
reply_of caller ordinal call from now answer rises added is =
    ap (λ (e : Entry). e.reply) (last_of from added.entry is.entry (subst OrdinalsRise added.whole rises) (subst (λ es. Contains es is.entry) added.whole is.there) (is.ordinal_is ∙ sym added.ordinal_is)) ∙ is.reply_is

-- ---- an entry of a caller in the history is one of its own

pub own_contains : (history : List Entry) (caller : ℕ) → AllByRecursion (λ (e : Entry). e.caller ≡ caller → Contains (own history caller) e) history
own_contains [] caller = tt
own_contains (entry ∷ later) caller =
    elim (nat_eq entry.caller caller) as (λ b. nat_eq entry.caller caller ≡ b → AllByRecursion (λ (e : Entry). e.caller ≡ caller → Contains (cond b (entry ∷ own later caller) (own later caller)) e) (entry ∷ later)) [
      | true ↦ λ same. (
        (λ mine. (0, omega arith, refl)),
        all_map (λ (e : Entry). e.caller ≡ caller → Contains (own later caller) e) (λ (e : Entry). e.caller ≡ caller → Contains (entry ∷ own later caller) e) later
            (λ e there mine. Contains-append_right (entry ∷ []) (own later caller) e (there mine)) (own_contains later caller),
      )
      | false ↦ λ other. ((λ mine. absurd (let wrong : true ≡ false = sym (eq-eqb entry.caller caller mine) ∙ other in cc)), own_contains later caller)
    ] refl

pub own_reply : (history : List Entry) (caller ordinal : ℕ) (answer : Reply) → IsReplyOf history caller ordinal answer → IsReplyIn (own history caller) ordinal answer
own_reply history caller ordinal answer is = record {
  entry = is.entry;
  there = all_contains (λ (e : Entry). e.caller ≡ caller → Contains (own history caller) e) history is.entry (own_contains history caller) is.there is.caller_is;
  ordinal_is = is.ordinal_is;
  reply_is = is.reply_is;
}
