-- A name entered in a list of slots, or a slot emptied, is one late slot put at a place.
use Rattle.std.proofs.Common.{◌≡◌, ◌≢◌, ℕ, zero, suc, ◌+◌, ◌<◌, ◌≤◌, Bool, true, false, not, ◌&&◌, List, [], ◌∷◌, ◌++◌, length, drop, Option, Some, None, option_map, unwrap_or, refl, sym, ap, subst, ◌∙◌, arith, length-append}
use Rattle.std.specs.Prelude.{count_by, slice_get, slice_set, position, find, option_and_then}
use Rattle.std.specs.Str.{bytes_eq}
use Rattle.std.proofs.lemmas.List.{length-set}
use Rattle.std.proofs.lemmas.List.Quantifiers.{position-Some}
use Rattle.std.proofs.lemmas.Option.{get_or_from_slice_get, none-some, slice_get_past, slice_get_within}
use Rattle.std.proofs.lemmas.Slice.Eq.{bytes_eq-Decides}
use Rattle.std.specs.FinMap as fin
use Rattle.mb_tree.specs.Maps.{Numbered}
use Rattle.mb_tree.specs.Inodes.{slots_of}
use Rattle.mb_tree.specs.Lookup.{is_used, is_named, number_of, number_in}
use Rattle.mb_tree.specs.Effect.{entered, emptied}
use Rattle.mb_tree.specs.declared.nodes.Node.{Node}
use Rattle.mb_tree.specs.declared.nodes.Body.TheVariants.{Directory}
use Rattle.mb_tree.specs.declared.nodes.PlainSlot.{PlainSlot}
use Rattle.mb_tree.proofs.SlotLists.{weight, set_here, set_there, push_here, push_there, count_set, count_push, count_drop, found, missed}

-- one slot put at a place after the second, over the slot there or after the last
pub record IsRewritten (old new : List PlainSlot) (at : ℕ) (slot : PlainSlot) : Type 0 where
  pub late : 2 ≤ at
  pub long : 2 ≤ length old
  pub grown : length old ≤ length new
  pub here : slice_get new at ≡ Some slot
  pub there : (k : ℕ) → k ≢ at → slice_get new k ≡ slice_get old k
  pub counts : (p : PlainSlot → Bool) → count_by p new + weight p (slice_get old at) ≡ count_by p old + weight p (Some slot)

pub set_rewritten : (old : List PlainSlot) (at : ℕ) (slot : PlainSlot) → 2 ≤ at → at < length old → IsRewritten old (slice_set old at slot) at slot
set_rewritten old at slot late low = record {
  late = late;
  long = omega arith;
  grown = omega (arith, length-set old at slot);
  here = set_here old at slot low;
  there = set_there old at slot;
  counts = λ p. count_set p old at slot low;
}

pub push_rewritten : (old : List PlainSlot) (slot : PlainSlot) → 2 ≤ length old → IsRewritten old (old ++ slot ∷ []) (length old) slot
push_rewritten old slot long = record {
  late = long;
  long = long;
  grown = omega (arith, length-append old (slot ∷ []));
  here = push_here old slot;
  there = push_there old slot;
  counts = λ p.
      let none : weight p (slice_get old (length old)) ≡ 0 = ap (weight p) (slice_get_past old (length old) (omega arith)) in
      omega (arith, none, count_push p old slot);
}

-- the same where the first two slots or one of them do not count
pub counts_past : (skip : ℕ) (old new : List PlainSlot) (at : ℕ) (slot : PlainSlot) → skip ≤ 2 → IsRewritten old new at slot → (p : PlainSlot → Bool)
    → count_by p (drop skip new) + weight p (slice_get old at) ≡ count_by p (drop skip old) + weight p (Some slot)
counts_past zero old new at slot few h p = h.counts p
counts_past (suc skip) old new at slot few h p =
    let late = h.late in
    let there : weight p (slice_get new skip) ≡ weight p (slice_get old skip) = ap (weight p) (h.there skip (λ e. absurd (omega (arith, e, few, late)))) in
    omega (arith, there, count_drop p skip old, count_drop p skip new, counts_past skip old new at slot (omega arith) h p)

-- a slot that is used
abbrev IsTaken : List PlainSlot → ℕ → Type 0
IsTaken slots at = (slot : PlainSlot) × (slice_get slots at ≡ Some slot) × (is_used slot ≡ true)

unused_at : (slot : PlainSlot) → not (is_used slot) ≡ true → is_used slot ≡ false
unused_at slot h = elim (is_used slot) as (λ b. not b ≡ true → b ≡ false) [ true ↦ λ e. sym e | false ↦ λ e. refl ] h

-- where a name is entered no used slot stood
pub record IsEntered (old : List PlainSlot) (name : List ℕ) (ino : ℕ) : Type 0 where
  pub at : ℕ
  pub rewritten : IsRewritten old (entered name ino old) at (record { ino = ino; name = name })
  pub unused : (slot : PlainSlot) → slice_get old at ≡ Some slot → is_used slot ≡ false

not_taken : (slots : List PlainSlot) (at k : ℕ) → IsTaken slots k → ((slot : PlainSlot) → slice_get slots at ≡ Some slot → is_used slot ≡ false) → at ≢ k
not_taken slots at k taken unused e =
    let no = unused taken.0 (ap (slice_get slots) e ∙ taken.1) in
    let yes = taken.2 in
    cc

pub is_entered : (old : List PlainSlot) (name : List ℕ) (ino : ℕ) → IsTaken old 0 → IsTaken old 1 → IsEntered old name ino
is_entered old name ino first second =
    let slot : PlainSlot = record { ino = ino; name = name } in
    let low = slice_get_within old 1 second.0 second.1 in
    elim (position (λ (other : PlainSlot). not (is_used other)) old) as (λ (o : Option ℕ). position (λ (other : PlainSlot). not (is_used other)) old ≡ o → IsEntered old name ino) [
      | None ↦ λ e.
          let is : old ++ slot ∷ [] ≡ entered name ino old = ap (λ o. unwrap_or (option_map (λ at. slice_set old at slot) o) (old ++ slot ∷ [])) (sym e) in
          record {
            at = length old;
            rewritten = subst (λ new. IsRewritten old new (length old) slot) is (push_rewritten old slot (omega arith));
            unused = λ s has. let none = slice_get_past old (length old) (omega arith) in absurd (none-some s (sym none ∙ has));
          }
      | Some at ↦ λ e.
          let is : slice_set old at slot ≡ entered name ino old = ap (λ o. unwrap_or (option_map (λ at. slice_set old at slot) o) (old ++ slot ∷ [])) (sym e) in
          let by = position-Some (λ (other : PlainSlot). not (is_used other)) old at slot e in
          let unused : (s : PlainSlot) → slice_get old at ≡ Some s → is_used s ≡ false = (λ s has. unused_at s (sym (ap (λ (s : PlainSlot). not (is_used s)) (get_or_from_slice_get old at s slot has)) ∙ by.1)) in
          let not_first : at ≢ 0 = not_taken old at 0 first unused in
          let not_second : at ≢ 1 = not_taken old at 1 second unused in
          record {
            at = at;
            rewritten = subst (λ new. IsRewritten old new at slot) is (set_rewritten old at slot (omega (arith, not_first, not_second)) by.0);
            unused = unused;
          }
    ] refl

-- what a slot with a name is
pub named_slot : (name : List ℕ) (slot : PlainSlot) → is_named name slot ≡ true → (is_used slot ≡ true) × (slot.name ≡ name)
named_slot name slot h = elim (is_used slot) as (λ b. (b && bytes_eq slot.name name) ≡ true → (b ≡ true) × (slot.name ≡ name)) [
  | true ↦ λ e. (refl, (bytes_eq-Decides slot.name name).0 e)
  | false ↦ λ e. absurd (let no : false ≡ true = e in cc)
] h

-- the slot of a name
pub record IsFound (old : List PlainSlot) (name : List ℕ) (ino : ℕ) : Type 0 where
  pub at : ℕ
  pub slot : PlainSlot
  pub has : slice_get old at ≡ Some slot
  pub used : is_used slot ≡ true
  pub named : slot.name ≡ name
  pub leads : slot.ino ≡ ino
  pub is : emptied name old ≡ slice_set old at (record { ino = 0; name = name })

pub is_found : (old : List PlainSlot) (name : List ℕ) (ino : ℕ) → number_of old name ≡ Some ino → IsFound old name ino
is_found old name ino h = elim (find (is_named name) old) as (λ (o : Option PlainSlot). find (is_named name) old ≡ o → option_map (λ (slot : PlainSlot). slot.ino) o ≡ Some ino → IsFound old name ino) [
  | None ↦ λ e wrong. absurd (none-some ino wrong)
  | Some slot ↦ λ e to.
      let by = found (is_named name) old slot e in
      let test = named_slot name slot by.3 in
      record {
        at = by.0;
        slot = slot;
        has = by.2;
        used = test.0;
        named = test.1;
        leads = cc;
        is = ap (λ o. unwrap_or (option_map (λ at. slice_set old at (record { ino = 0; name = name })) o) old) by.1;
      }
] refl h

-- a missing name
pub is_missing : (old : List PlainSlot) (name : List ℕ) (at : ℕ) (slot : PlainSlot) → number_of old name ≡ None → slice_get old at ≡ Some slot → is_used slot ≡ true → name ≢ slot.name
is_missing old name at slot h has used e = elim (find (is_named name) old) as (λ (o : Option PlainSlot). find (is_named name) old ≡ o → option_map (λ (slot : PlainSlot). slot.ino) o ≡ None → ⊥) [
  | None ↦ λ none ok.
      let fails = missed (is_named name) old at slot none has in
      let passes : is_named name slot ≡ true = ap (λ b. b && bytes_eq slot.name name) used ∙ (bytes_eq-Decides slot.name name).1 (sym e) in
      cc
  | Some other ↦ λ some wrong. absurd (none-some other.ino (sym wrong))
] refl h

-- the numbers of a directory's names
pub number_by : (nodes : Numbered Node) (dir : ℕ) (name : List ℕ) (node : Node) (slots : List PlainSlot) → fin.get nodes dir ≡ Some node → node.body ≡ Directory slots → number_in nodes dir name ≡ number_of slots name
number_by nodes dir name node slots has body =
    ap (λ (o : Option Node). option_and_then (λ slots. number_of slots name) (option_and_then (λ (node : Node). slots_of node.body) o)) has
    ∙ ap (λ b. option_and_then (λ slots. number_of slots name) (slots_of b)) body
