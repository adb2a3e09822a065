-- What is counted of slots, with one slot more.
use Rattle.std.proofs.Common.{◌≡◌, ◌≢◌, inl, inr, ℕ, suc, ◌+◌, ◌<◌, ◌≤◌, List, [], Bool, true, false, ◌&&◌, nat_le, min, Some, slice_get, slice_set, slice_index_or, length, count_by, drop, replicate, refl, sym, ap, subst, ◌∙◌, arith}
use Rattle.std.proofs.lemmas.Bool.Decides.{nat_tests, eqb_tells}
use Rattle.std.proofs.Math.Seq.{drop-nil}
use Rattle.std.proofs.lemmas.List.{get_or-replicate, length-replicate}
use Rattle.std.proofs.lemmas.Option.{same_Some, slice_get_within, slice_get-get_or}
use Rattle.mb_tree.specs.Blocks.{slot_in}
use Rattle.mb_tree.specs.Counting.{sum_below}
use Rattle.mb_tree.specs.Inodes.{is_directory}
use Rattle.mb_tree.specs.Trees.{leads_to}
use Rattle.mb_tree.specs.declared.nodes.PlainSlot.{PlainSlot}
use Rattle.mb_tree.proofs.SlotLists.{set_here, set_there}
use Rattle.mb_rules.specs.Files.{mode_at}
use Rattle.mb_rules.specs.Slots.{slots_at}
use Rattle.mb_check.specs.declared.tallies.Late.{Late}
use Rattle.mb_check.specs.declared.tallies.Late.TheVariants.{Never, Once, Often}
use Rattle.mb_check.specs.declared.tallies.Tally.{Tally}
use Rattle.mb_check.specs.Tallies.{one_if, slots_to, slots_so_far, HoldsLate, before, itself, IsLate, KeepsTally, KeepsTallies, IsPassed, below, within, KeepsParents, late_more, tally_more}

pub late_same : (late : Late) (c d : ℕ) (H J : ℕ → Type 0) → c ≡ d → ((h : ℕ) → H h → J h) → IsLate late c H → IsLate late d J
late_same Never c d H J e on h = sym e ∙ h
late_same (Once dir) c d H J e on h = (sym e ∙ h.0, on dir h.1)
late_same Often c d H J e on h = subst (λ n. 2 ≤ n) e h

late_step : (late : Late) (c d dir : ℕ) (H J : ℕ → Type 0) → d ≡ c + 1 → ((h : ℕ) → H h → J h) → J dir → IsLate late c H → IsLate (late_more late dir) d J
late_step Never c d dir H J e on here h = ((let z : c ≡ 0 = h in omega (arith, e, z)), here)
late_step (Once other) c d dir H J e on here h = (let one = h.0 in omega (arith, e, one))
late_step Often c d dir H J e on here h = (let two : 2 ≤ c = h in omega (arith, e, two))

-- a late slot, and one that is not
and_late : (skip at : ℕ) (b : Bool) → skip ≤ at → (nat_le skip at && b) ≡ b
and_late skip at b late = (let t : nat_le skip at ≡ true = grind (arith, nat_tests) in ap (λ x. x && b) t)

and_early : (skip at : ℕ) (b : Bool) → at < skip → (nat_le skip at && b) ≡ false
and_early skip at b early = (let t : nat_le skip at ≡ false = grind (arith, nat_tests) in ap (λ x. x && b) t)

and_none : (a b : Bool) → b ≡ false → (a && b) ≡ false
and_none true b e = e
and_none false b e = refl

module _ (blocks : ℕ → List ℕ) (dir at : ℕ) where
  abbrev counts_here : ℕ → ℕ → Bool
  counts_here skip ino = nat_le skip at && leads_to ino (slot_in blocks dir at)

  pub to_step : (skip ino : ℕ) → slots_to skip blocks ino dir (at + 1) ≡ one_if (counts_here skip ino) + slots_to skip blocks ino dir at
  unfolding sum_below
  to_step skip ino = (let e : at + 1 ≡ suc at = omega arith in ap (slots_to skip blocks ino dir) e)

  same_to : (skip ino : ℕ) → counts_here skip ino ≡ false → slots_to skip blocks ino dir (at + 1) ≡ slots_to skip blocks ino dir at
  same_to skip ino none = (let e = to_step skip ino in let z : one_if (counts_here skip ino) ≡ 0 = ap one_if none in omega (arith, e, z))

  more_to : (skip ino : ℕ) → counts_here skip ino ≡ true → slots_to skip blocks ino dir (at + 1) ≡ 1 + slots_to skip blocks ino dir at
  more_to skip ino one = (let e = to_step skip ino in let z : one_if (counts_here skip ino) ≡ 1 = ap one_if one in omega (arith, e, z))

  same_far : (skip ino : ℕ) → counts_here skip ino ≡ false → slots_so_far skip blocks ino dir at ≡ slots_so_far skip blocks ino dir (at + 1)
  same_far skip ino none = (let e = same_to skip ino none in omega (arith, e))

  more_far : (skip ino : ℕ) → counts_here skip ino ≡ true → slots_so_far skip blocks ino dir (at + 1) ≡ slots_so_far skip blocks ino dir at + 1
  more_far skip ino one = (let e = more_to skip ino one in omega (arith, e))

  holds_on : (ino : ℕ) (holder : ℕ) → HoldsLate blocks ino dir at holder → HoldsLate blocks ino dir (at + 1) holder
  holds_on ino holder (before low some) = before low some
  holds_on ino holder (itself is some) = itself is (let e = to_step 2 ino in omega (arith, e, some))

  module _ (ino : ℕ) (tally : Tally) (keeps : KeepsTally blocks dir at ino tally) where
    keeps_other : leads_to ino (slot_in blocks dir at) ≡ false → KeepsTally blocks dir (at + 1) ino tally
    keeps_other away = record {
      all = keeps.all ∙ ap (λ n. min n 65535) (same_far 0 ino (and_none (nat_le 0 at) _ away));
      late = late_same tally.late _ _ (HoldsLate blocks ino dir at) (HoldsLate blocks ino dir (at + 1)) (same_far 2 ino (and_none (nat_le 2 at) _ away)) (holds_on ino) keeps.late;
    }

    module _ (here : leads_to ino (slot_in blocks dir at) ≡ true) where
      all_more : min (tally.all + 1) 65535 ≡ min (slots_so_far 0 blocks ino dir (at + 1)) 65535
      all_more = (let was = keeps.all in let e = more_far 0 ino (and_late 0 at _ (omega arith) ∙ here) in omega (arith, was, e))

      keeps_early : at < 2 → KeepsTally blocks dir (at + 1) ino (tally_more tally dir false)
      keeps_early early = record {
        all = all_more;
        late = late_same tally.late _ _ (HoldsLate blocks ino dir at) (HoldsLate blocks ino dir (at + 1)) (same_far 2 ino (and_early 2 at _ early)) (holds_on ino) keeps.late;
      }

      keeps_late : 2 ≤ at → KeepsTally blocks dir (at + 1) ino (tally_more tally dir true)
      keeps_late late =
          let one = and_late 2 at _ late ∙ here in
          record {
            all = all_more;
            late = late_step tally.late _ _ dir (HoldsLate blocks ino dir at) (HoldsLate blocks ino dir (at + 1)) (more_far 2 ino one) (holds_on ino) (itself refl (let e = more_to 2 ino one in omega (arith, e))) keeps.late;
          }

      keeps_by : (late : Bool) → nat_le 2 at ≡ late → KeepsTally blocks dir (at + 1) ino (tally_more tally dir late)
      keeps_by true e = keeps_late (grind (arith, nat_tests))
      keeps_by false e = keeps_early (grind (arith, nat_tests))

  leads_is : (ino number : ℕ) → number ≡ (slot_in blocks dir at).ino → number ≡ ino → leads_to ino (slot_in blocks dir at) ≡ true
  leads_is ino number slot is = (let e = sym slot ∙ is in grind (arith, nat_tests))

  leads_not : (ino number : ℕ) → number ≡ (slot_in blocks dir at).ino → number ≢ ino → leads_to ino (slot_in blocks dir at) ≡ false
  leads_not ino number slot off = (let e : (slot_in blocks dir at).ino ≢ ino = λ same. off (slot ∙ same) in grind (arith, nat_tests))

  module _ (number : ℕ) (slot : number ≡ (slot_in blocks dir at).ino) (tallies : List Tally) (keeps : KeepsTallies blocks dir at tallies) where
    pub tallies_past : length tallies ≤ number → KeepsTallies blocks dir (at + 1) tallies
    tallies_past past ino tally has = keeps_other ino tally (keeps ino tally has)
        (leads_not ino number slot (λ is. (let low = slice_get_within tallies ino tally has in absurd (omega (arith, low, past, is)))))

    pub tallies_set : (fill more : Tally) → number < length tallies → more ≡ tally_more (slice_index_or tallies number fill) dir (nat_le 2 at) → KeepsTallies blocks dir (at + 1) (slice_set tallies number more)
    tallies_set fill more inside made ino tally has =
        elim (eqb_tells ino number) [
          | inl here ↦ (
              let one : Tally = slice_index_or tallies number fill in
              let same : ino ≡ number = here.1 in
              let has_more : tally_more one dir (nat_le 2 at) ≡ tally = sym made ∙ same_Some more tally (sym (set_here tallies number more inside) ∙ ap (slice_get (slice_set tallies number more)) (sym same) ∙ has) in
              let was : slice_get tallies ino ≡ Some one = ap (slice_get tallies) same ∙ slice_get-get_or tallies number fill inside in
              subst (KeepsTally blocks dir (at + 1) ino) has_more (keeps_by ino one (keeps ino one was) (leads_is ino number slot (sym same)) (nat_le 2 at) refl))
          | inr apart ↦ keeps_other ino tally (keeps ino tally (sym (set_there tallies number more ino apart.1) ∙ has)) (leads_not ino number slot (λ is. apart.1 (sym is)))
        ]

-- ---- parents

passed_less : (dir at d : ℕ) → at ≢ 1 → IsPassed dir (at + 1) d → IsPassed dir at d
passed_less dir at d off (below low) = below low
passed_less dir at d off (within is two) = within is (omega (arith, off, two))

passed_other : (dir at d : ℕ) → d ≢ dir → IsPassed dir (at + 1) d → IsPassed dir at d
passed_other dir at d off (below low) = below low
passed_other dir at d off (within is two) = absurd (off is)

module _ (blocks : ℕ → List ℕ) (dir at : ℕ) (parents : List ℕ) (keeps : KeepsParents blocks dir at parents) where
  pub parents_same : at ≢ 1 → KeepsParents blocks dir (at + 1) parents
  parents_same off d up passed directory has = keeps d up (passed_less dir at d off passed) directory has

  pub parents_past : length parents ≤ dir → KeepsParents blocks dir (at + 1) parents
  parents_past past d up passed directory has =
      keeps d up (passed_other dir at d (λ is. (let low = slice_get_within parents d up has in absurd (omega (arith, low, past, is)))) passed) directory has

  pub parents_set : (number place : ℕ) → number ≡ (slot_in blocks dir at).ino → at ≡ 1 → place ≡ dir → place < length parents → KeepsParents blocks dir (at + 1) (slice_set parents place number)
  parents_set number place slot second stands inside d up passed directory has =
      elim (eqb_tells d place) [
        | inl here ↦ (
            let same : d ≡ place = here.1 in
            let is : number ≡ up = same_Some number up (sym (set_here parents place number inside) ∙ ap (slice_get (slice_set parents place number)) (sym same) ∙ has) in
            sym is ∙ slot ∙ ap (λ k. (slot_in blocks dir k).ino) second ∙ ap (λ k. (slot_in blocks k 1).ino) (sym (same ∙ stands)))
        | inr apart ↦ keeps d up (passed_other dir at d (λ e. apart.1 (e ∙ sym stands)) passed) directory (sym (set_there parents place number d apart.1) ∙ has)
      ]

-- ---- before the first directory

none_at_zero : (blocks : ℕ → List ℕ) → slots_at blocks 0 ≡ []
unfolding slots_at
none_at_zero blocks = refl

drop_none : (skip : ℕ) (p : PlainSlot → Bool) → count_by p (drop skip []) ≡ 0
drop_none skip p = ap (count_by p) (drop-nil skip)

none_counted : (skip : ℕ) (blocks : ℕ → List ℕ) (ino : ℕ) → slots_so_far skip blocks ino 1 0 ≡ 0
unfolding sum_below
none_counted skip blocks ino = (let e : count_by (leads_to ino) (drop skip (slots_at blocks 0)) ≡ 0 = ap (λ slots. count_by (leads_to ino) (drop skip slots)) (none_at_zero blocks) ∙ drop_none skip (leads_to ino) in omega (arith, e))

abbrev pub no_tally : Tally
no_tally = record { all = 0; late = Never }

same_fill : {X : Type 0} (n k : ℕ) (x y : X) → slice_get (replicate n x) k ≡ Some y → x ≡ y
same_fill {X} n k x y has =
    let low = slice_get_within (replicate n x) k y has in
    let size : length (replicate n x) ≡ n = length-replicate n x in
    same_Some x y (sym (slice_get-get_or (replicate n x) k x low ∙ ap (λ (z : X). Some z) (get_or-replicate n k x x (omega (arith, low, size)))) ∙ has)

pub tallies_none : (blocks : ℕ → List ℕ) (n : ℕ) → KeepsTallies blocks 1 0 (replicate n no_tally)
tallies_none blocks n ino tally has = subst (KeepsTally blocks 1 0 ino) (same_fill n ino no_tally tally has) (record {
  all = (let e = none_counted 0 blocks ino in omega (arith, e));
  late = none_counted 2 blocks ino;
})

none_passed : (d : ℕ) → IsPassed 1 0 d → d ≡ 0
none_passed d (below low) = omega (arith, low)
none_passed d (within is two) = absurd (omega (arith, two))

pub parents_none : (blocks : ℕ → List ℕ) (parents : List ℕ) → KeepsParents blocks 1 0 parents
parents_none blocks parents d up passed directory has = absurd (let t : is_directory (mode_at blocks 0) ≡ true = subst (λ k. is_directory (mode_at blocks k) ≡ true) (none_passed d passed) directory in cc)
