-- Rules 10 to 12 of a directory's slots are what a sound tree asks of them.
use Rattle.std.proofs.Common.{◌≡◌, ◌≢◌, inl, inr, ℕ, zero, suc, ◌+◌, ◌*◌, ◌/◌, ◌%◌, ◌<◌, ◌≤◌, List, Bool, true, false, not, ◌&&◌, ◌||◌, nat_eq, nat_le, length, map, take, drop, unwrap_or, Option, Some, None, slice_get, refl, sym, ap, subst, ◌∙◌, arith}
use Rattle.std.specs.Prelude.{bytes_eq}
use Rattle.std.specs.FinMap as fin
use Rattle.std.specs.List.{range_with_len}
use Rattle.std.proofs.lemmas.Bool.{cases_lt, cases_eq}
use Rattle.std.proofs.lemmas.Bool.Decides.{nat_tests}
use Rattle.std.proofs.lemmas.List.{length-take-le, length-drop, length-replicate}
use Rattle.std.proofs.lemmas.Option.{same_Some}
use Rattle.std.proofs.lemmas.Slice.Eq.{bytes_eq-Decides}
use Rattle.mb_kinds.specs.Image.{zeros}
use Rattle.mb_tree.specs.Blocks.{part_in, part_bytes, slot_in}
use Rattle.mb_tree.specs.Counting.{any_from}
use Rattle.mb_tree.specs.Effect.{dot, dot_dot}
use Rattle.mb_tree.specs.Lookup.{is_used, is_named}
use Rattle.mb_tree.specs.Rows.{is_dots}
use Rattle.mb_tree.specs.Trees.{AreSlots, IsName, IsThere, IsUsedAt}
use Rattle.mb_tree.specs.Volume.{last_inode}
use Rattle.mb_tree.specs.declared.nodes.Node.{Node}
use Rattle.mb_tree.specs.declared.nodes.PlainSlot.{PlainSlot}
use Rattle.mb_tree.specs.declared.trees.Tree.{Tree}
use Rattle.mb_blocks.proofs.PartBytes.{held_part}
use Rattle.mb_rules.specs.Files.{mode_at}
use Rattle.mb_rules.specs.Slots.{has_dots, leads_there, is_named_once}
use Rattle.mb_rules.proofs.Walks.{both}
use Rattle.mb_scan_laws.proofs.Modes.{HasNodes, node_used, none_free}
use Rattle.mb_scan_laws.proofs.NameTests.{name_test, name_tests, test_name}
use Rattle.mb_scan_laws.proofs.RowsOf.{row_at, row_has}
use Rattle.mb_scan_laws.proofs.ShownTrees.{all_missed, none_found, not_true_false}

-- ---- inodes in use

module _ (blocks : ℕ → List ℕ) (tree : Tree) (nodes : HasNodes blocks tree) where
  there_by : (ino : ℕ) (o : Option Node) → fin.get tree.nodes ino ≡ o → ino ≤ tree.last → nat_eq (mode_at blocks ino) 0 ≡ false → IsThere tree.nodes ino
  there_by ino None e low used = absurd (let free : nat_eq (mode_at blocks ino) 0 ≡ true = ap (λ m. nat_eq m 0) (none_free blocks tree nodes ino low e) in cc)
  there_by ino (Some node) e low used = record { node = node; has = e }

  pub there_from : (ino : ℕ) → ino ≤ last_inode blocks → nat_eq (mode_at blocks ino) 0 ≡ false → IsThere tree.nodes ino
  there_from ino low used = there_by ino (fin.get tree.nodes ino) refl (let l = nodes.last in omega (arith, low, l)) used

  pub there_to : (ino : ℕ) → IsThere tree.nodes ino → (ino ≤ last_inode blocks) × (nat_eq (mode_at blocks ino) 0 ≡ false)
  there_to ino there =
      let r = (nodes.numbers ino there.node there.has).1 in
      let l = nodes.last in
      (omega (arith, r, l), node_used blocks tree nodes ino there.node there.has)

-- ---- a slot's name has 14 bytes

name_full : (bytes : List ℕ) (place : ℕ) → length bytes ≡ 512 → place < 32 → length (take 14 (drop (16 * place + 2) bytes)) ≡ 14
name_full bytes place full low =
    let rest = length-drop (16 * place + 2) bytes in
    length-take-le 14 (drop (16 * place + 2) bytes) (omega (arith, rest, full, low))

part_full : (blocks : ℕ → List ℕ) → ((block : ℕ) → length (blocks block) ≡ 512) → (ino part : ℕ) (o : Option (List ℕ)) → part_in blocks ino part ≡ o → length (unwrap_or o zeros) ≡ 512
unfolding zeros
part_full blocks bytes ino part None e = length-replicate {A = ℕ} 512 0
part_full blocks bytes ino part (Some was) e = (let held = held_part blocks ino part was e in ap length (sym held.2) ∙ bytes _)

pub slot_full : (blocks : ℕ → List ℕ) → ((block : ℕ) → length (blocks block) ≡ 512) → (ino at : ℕ) → length (slot_in blocks ino at).name ≡ 14
slot_full blocks bytes ino at =
    name_full (part_bytes blocks ino (at / 32)) (at % 32) (part_full blocks bytes ino (at / 32) (part_in blocks ino (at / 32)) refl) (omega arith)

-- ---- one slot

same_name : (a b : List ℕ) → bytes_eq a b ≡ true → a ≡ b
same_name a b t = (bytes_eq-Decides a b).0 t

name_same : (a b : List ℕ) → a ≡ b → bytes_eq a b ≡ true
name_same a b e = (bytes_eq-Decides a b).1 e

slot_is : (s : PlainSlot) (ino : ℕ) (name : List ℕ) → s.ino ≡ ino → s.name ≡ name → s ≡ record { ino = ino; name = name }
slot_is s ino name e g = λ j. record { ino = e j; name = g j }

unused_or : (u b : Bool) → u ≡ true → (not u || b) ≡ true → b ≡ true
unused_or u b t h = subst (λ v. (not v || b) ≡ true) t h

or_unused : (u b : Bool) → (u ≡ true → b ≡ true) → (not u || b) ≡ true
or_unused true b h = h refl
or_unused false b h = refl

pub and_both : (a b : Bool) → a ≡ true → b ≡ true → (a && b) ≡ true
and_both a b one two = ap (λ x. x && b) one ∙ two

pub not_is : (b : Bool) → b ≡ false → not b ≡ true
not_is b f = ap not f

use_ino : (s : PlainSlot) → is_used s ≡ true → s.ino ≢ 0
use_ino s t e = (let wrong : is_used s ≡ false = ap (λ n. not (nat_eq n 0)) e in cc)

ino_use : (s : PlainSlot) → s.ino ≢ 0 → is_used s ≡ true
ino_use s some = (let f : nat_eq s.ino 0 ≡ false = grind (arith, nat_tests) in ap not f)

-- rules 10 to 12 of the slots below a number
pub record KeepsSlots (blocks : ℕ → List ℕ) (ino n : ℕ) : Type 0 where
  pub dots : (at : ℕ) → at < n → has_dots ino at (slot_in blocks ino at) ≡ true
  pub leads : (at : ℕ) → at < n → leads_there blocks (slot_in blocks ino at) ≡ true
  pub named : (at : ℕ) → at < n → is_named_once blocks ino at (slot_in blocks ino at) ≡ true

module _ (blocks : ℕ → List ℕ) (tree : Tree) (nodes : HasNodes blocks tree) (bytes : (block : ℕ) → length (blocks block) ≡ 512) (ino : ℕ) (slots : List PlainSlot)
    (row : slots ≡ map (slot_in blocks ino) (range_with_len 0 (length slots))) (two : 2 ≤ length slots) where
  abbrev f : ℕ → PlainSlot
  f = slot_in blocks ino

  get_is : (at : ℕ) → at < length slots → slice_get slots at ≡ Some (f at)
  get_is at low = ap (λ xs. slice_get xs at) row ∙ row_has f 0 (length slots) at low ∙ ap (λ k. Some (f k)) (let e : 0 + at ≡ at = omega arith in e)

  got : (at : ℕ) (slot : PlainSlot) → slice_get slots at ≡ Some slot → (at < length slots) × (f at ≡ slot)
  got at slot h =
      let found = row_at f 0 (length slots) at slot (sym (ap (λ xs. slice_get xs at) row) ∙ h) in
      (found.below, ap f (let e : at ≡ 0 + at = omega arith in e) ∙ found.is)

  abbrev earlier : ℕ → ℕ → Bool
  earlier at k = is_named (f at).name (f k)

  module _ (keeps : KeepsSlots blocks ino (length slots)) where
    used_at : (at : ℕ) (slot : PlainSlot) → IsUsedAt slots at slot → (at < length slots) × (f at ≡ slot) × (is_used (f at) ≡ true)
    used_at at slot u = (let g = got at slot u.has in (g.0, g.1, ap is_used g.1 ∙ u.used))

    late_dots : (at : ℕ) → at < length slots → 2 ≤ at → is_used (f at) ≡ true → is_dots (f at).name ≡ false
    late_dots zero low late t = absurd (omega (arith, late))
    late_dots (suc zero) low late t = absurd (omega (arith, late))
    late_dots (suc (suc k)) low late t = not_true_false (is_dots (f (suc (suc k))).name) (unused_or (is_used (f (suc (suc k)))) (not (is_dots (f (suc (suc k))).name)) t (keeps.dots (suc (suc k)) low))

    leads_at : (at : ℕ) → at < length slots → is_used (f at) ≡ true → ((f at).ino ≢ 1) × IsThere tree.nodes (f at).ino
    leads_at at low t =
        let i : ℕ = (f at).ino in
        let all = unused_or (is_used (f at)) (not (nat_eq i 1) && nat_le i (last_inode blocks) && not (nat_eq (mode_at blocks i) 0)) t (keeps.leads at low) in
        let one = both (not (nat_eq i 1) && nat_le i (last_inode blocks)) (not (nat_eq (mode_at blocks i) 0)) all in
        let two_tests = both (not (nat_eq i 1)) (nat_le i (last_inode blocks)) one.0 in
        let off = not_true_false (nat_eq i 1) two_tests.0 in
        let le = two_tests.1 in (
          λ e. (let is : nat_eq i 1 ≡ true = ap (λ n. nat_eq n 1) e in cc),
          there_from blocks tree nodes i (grind (arith, nat_tests)) (not_true_false (nat_eq (mode_at blocks i) 0) one.1),
        )

    named_at : (at : ℕ) → at < length slots → is_used (f at) ≡ true → (name_test (f at).name ≡ true) × (any_from (earlier at) 0 at ≡ false)
    named_at at low t =
        let all = unused_or (is_used (f at)) (name_test (f at).name && not (any_from (earlier at) 0 at)) t (keeps.named at low) in
        let one = both (name_test (f at).name) (not (any_from (earlier at) 0 at)) all in
        (one.0, not_true_false (any_from (earlier at) 0 at) one.1)

    twice : (at other : ℕ) → other < length slots → at < other → is_used (f at) ≡ true → is_used (f other) ≡ true → (f at).name ≡ (f other).name → ⊥
    twice at other low less t s e =
        let none = all_missed (earlier other) 0 other at (named_at other low s).1 (omega arith) (omega (arith, less)) in
        let is : earlier other at ≡ true = and_both (is_used (f at)) (bytes_eq (f at).name (f other).name) t (name_same (f at).name (f other).name e) in
        cc

    pub are_slots : AreSlots tree.nodes ino slots
    are_slots =
        let first = both (bytes_eq (f 0).name dot) (nat_eq (f 0).ino ino) (keeps.dots 0 (omega (arith, two))) in
        let second = both (bytes_eq (f 1).name dot_dot) (is_used (f 1)) (keeps.dots 1 (omega (arith, two))) in
        let own : (f 0).ino ≡ ino = (let t = first.1 in grind (arith, nat_tests)) in
        record {
          first = get_is 0 (omega (arith, two)) ∙ ap Some (slot_is (f 0) ino dot own (same_name (f 0).name dot first.0));
          parent = (f 1).ino;
          second = get_is 1 (omega (arith, two)) ∙ ap Some (slot_is (f 1) (f 1).ino dot_dot refl (same_name (f 1).name dot_dot second.0));
          upward = use_ino (f 1) second.1;
          no_dots = λ at slot late u. (let g = used_at at slot u in subst (λ s. is_dots s.name ≡ false) g.1 (late_dots at g.0 late g.2));
          leads = λ at slot u. (let g = used_at at slot u in subst (λ s. (s.ino ≢ 1) × IsThere tree.nodes s.ino) g.1 (leads_at at g.0 g.2));
          names = λ at slot u. (let g = used_at at slot u in subst (λ s. IsName s.name) g.1 (test_name (f at).name (slot_full blocks bytes ino at) (named_at at g.0 g.2).0));
          distinct = λ at other slot twin u v e.
              (let g = used_at at slot u in
              let h = used_at other twin v in
              let same : (f at).name ≡ (f other).name = ap (λ s. s.name) g.1 ∙ e ∙ sym (ap (λ s. s.name) h.1) in
              elim (cases_eq at other) [
                | inl is ↦ is
                | inr apart ↦ absurd (elim (cases_lt at other) [
                  | inl less ↦ twice at other h.0 less g.2 h.2 same
                  | inr more ↦ twice other at g.0 (omega (arith, more, apart)) h.2 g.2 (sym same)
                ])
              ]);
        }

  module _ (are : AreSlots tree.nodes ino slots) where
    used_slot : (at : ℕ) → at < length slots → is_used (f at) ≡ true → IsUsedAt slots at (f at)
    used_slot at low t = record { has = get_is at low; used = t }

    dots_hold : (at : ℕ) → at < length slots → has_dots ino at (f at) ≡ true
    dots_hold zero low =
        let is : f 0 ≡ record { ino = ino; name = dot } = same_Some (f 0) (record { ino = ino; name = dot }) (sym (get_is 0 low) ∙ are.first) in
        let own : nat_eq (f 0).ino ino ≡ true = (let e : (f 0).ino ≡ ino = ap (λ s. s.ino) is in grind (arith, nat_tests)) in
        and_both (bytes_eq (f 0).name dot) (nat_eq (f 0).ino ino) (name_same (f 0).name dot (ap (λ s. s.name) is)) own
    dots_hold (suc zero) low =
        let is : f 1 ≡ record { ino = are.parent; name = dot_dot } = same_Some (f 1) (record { ino = are.parent; name = dot_dot }) (sym (get_is 1 low) ∙ are.second) in
        and_both (bytes_eq (f 1).name dot_dot) (is_used (f 1)) (name_same (f 1).name dot_dot (ap (λ s. s.name) is)) (ino_use (f 1) (λ e. are.upward (sym (ap (λ s. s.ino) is) ∙ e)))
    dots_hold (suc (suc k)) low =
        or_unused (is_used (f (suc (suc k)))) (not (is_dots (f (suc (suc k))).name)) (λ t. not_is (is_dots (f (suc (suc k))).name) (are.no_dots (suc (suc k)) (f (suc (suc k))) (omega arith) (used_slot (suc (suc k)) low t)))

    leads_hold : (at : ℕ) → at < length slots → leads_there blocks (f at) ≡ true
    leads_hold at low =
        let i : ℕ = (f at).ino in
        or_unused (is_used (f at)) (not (nat_eq i 1) && nat_le i (last_inode blocks) && not (nat_eq (mode_at blocks i) 0)) (λ t.
        (let leads = are.leads at (f at) (used_slot at low t) in
        let there = there_to blocks tree nodes i leads.1 in
        let below = there.0 in
        let apart : i ≢ 1 = leads.0 in
        let le : nat_le i (last_inode blocks) ≡ true = grind (arith, nat_tests) in
        let off : nat_eq i 1 ≡ false = grind (arith, nat_tests) in
        and_both (not (nat_eq i 1) && nat_le i (last_inode blocks)) (not (nat_eq (mode_at blocks i) 0)) (and_both (not (nat_eq i 1)) (nat_le i (last_inode blocks)) (not_is _ off) le) (not_is _ there.1)))

    no_earlier : (at k : ℕ) → at < length slots → k < at → is_used (f at) ≡ true → (b : Bool) → earlier at k ≡ b → b ≡ false
    no_earlier at k low less t true e = absurd (
        let parts = both (is_used (f k)) (bytes_eq (f k).name (f at).name) e in
        let is = are.distinct k at (f k) (f at) (used_slot k (omega (arith, low, less)) parts.0) (used_slot at low t) (same_name (f k).name (f at).name parts.1) in
        omega (arith, is, less))
    no_earlier at k low less t false e = refl

    named_hold : (at : ℕ) → at < length slots → is_named_once blocks ino at (f at) ≡ true
    named_hold at low =
        or_unused (is_used (f at)) (name_test (f at).name && not (any_from (earlier at) 0 at)) (λ t.
        and_both (name_test (f at).name) (not (any_from (earlier at) 0 at)) (name_tests (f at).name (are.names at (f at) (used_slot at low t)))
        (not_is _ (none_found (earlier at) 0 at (λ k from below. no_earlier at k low (omega (arith, below)) t (earlier at k) refl))))

    pub keeps_slots : KeepsSlots blocks ino (length slots)
    keeps_slots = record { dots = dots_hold; leads = leads_hold; named = named_hold }
