-- The walk of one slot, by its tests, and the names that are known after it.
use Rattle.std.proofs.Common.{◌≡◌, ℕ, zero, suc, ◌+◌, ◌*◌, ◌/◌, ◌%◌, ◌<◌, List, [], ◌∷◌, Bool, true, false, not, ◌||◌, ◌&&◌, nat_eq, slice_index, Some, is_some, if◌then◌else◌, Result, Ok, Err, refl, sym, ap, ◌∙◌, arith}
use Rattle.std.specs.List.{list_any}
use Rattle.mb_tree.specs.Blocks.{part_address, part_bytes, slot_in, slot_of}
use Rattle.mb_tree.specs.Counting.{any_from, first_from}
use Rattle.mb_tree.specs.Lookup.{is_named, is_used, slash}
use Rattle.mb_tree.specs.declared.nodes.PlainSlot.{PlainSlot}
use Rattle.mb_layout.specs.SlotEntry.{slot_at}
use Rattle.mb_layout.specs.declared.slots.Slot.{Slot}
use Rattle.mb_rules.specs.declared.findings.Finding.{Finding}
use Rattle.mb_rules.specs.Items.{Item, Holds, walked}
use Rattle.mb_rules.specs.Slots.{has_dots, is_named_once, is_padded, leads_there, slot_items}
use Rattle.mb_check_files.specs.declared.stops.Stop.{Stop}
use Rattle.mb_check_files.specs.declared.stops.Stop.TheVariants.{Broken, Device, NoMemory}
use Rattle.mb_check.specs.declared.names.NameSet.{NameSet}
use Rattle.mb_check.specs.NameSets.{has_name}
use Rattle.mb_check.specs.SlotTests.{KnowsNames, Tests}

abbrev three : ℕ → Bool → Bool → Bool → List Item
three block a b c = Holds a block 11 ∷ Holds b block 10 ∷ Holds c block 12 ∷ []

module _ (block : ℕ) (met : List ℕ) where
  dots_stop : (b c : Bool) → walked met (three block false b c) ≡ Err (record { block = block; rule = 11 })
  unfolding walked
  dots_stop b c = refl

  leads_stop : (c : Bool) → walked met (three block true false c) ≡ Err (record { block = block; rule = 10 })
  unfolding walked
  leads_stop c = refl

  named_stop : walked met (three block true true false) ≡ Err (record { block = block; rule = 12 })
  unfolding walked
  named_stop = refl

  all_hold : walked met (three block true true true) ≡ Ok met
  unfolding walked
  all_hold = refl

module _ (blocks : ℕ → List ℕ) (ino at : ℕ) (found : PlainSlot) (block : ℕ) (here : found ≡ slot_in blocks ino at) (there : block ≡ part_address blocks ino (at / 32)) (met : List ℕ) where
  by_three : (answer : Result (List ℕ) Finding) (a b c : Bool) → has_dots ino at found ≡ a → leads_there blocks found ≡ b → is_named_once blocks ino at found ≡ c → walked met (three block a b c) ≡ answer → walked met (slot_items blocks ino at) ≡ answer
  by_three answer a b c x y z h =
      ap (λ (s : PlainSlot). walked met (three (part_address blocks ino (at / 32)) (has_dots ino at s) (leads_there blocks s) (is_named_once blocks ino at s))) (sym here)
      ∙ ap (λ n. walked met (three n (has_dots ino at found) (leads_there blocks found) (is_named_once blocks ino at found))) (sym there)
      ∙ ap (λ t. walked met (three block t (leads_there blocks found) (is_named_once blocks ino at found))) x
      ∙ ap (λ t. walked met (three block a t (is_named_once blocks ino at found))) y
      ∙ ap (λ t. walked met (three block a b t)) z ∙ h

  pub dots_fail : has_dots ino at found ≡ false → walked met (slot_items blocks ino at) ≡ Err (record { block = block; rule = 11 })
  dots_fail x = by_three (Err (record { block = block; rule = 11 })) false (leads_there blocks found) (is_named_once blocks ino at found) x refl refl (dots_stop block met (leads_there blocks found) (is_named_once blocks ino at found))

  pub leads_fail : has_dots ino at found ≡ true → leads_there blocks found ≡ false → walked met (slot_items blocks ino at) ≡ Err (record { block = block; rule = 10 })
  leads_fail x y = by_three (Err (record { block = block; rule = 10 })) true false (is_named_once blocks ino at found) x y refl (leads_stop block met (is_named_once blocks ino at found))

  pub named_fail : has_dots ino at found ≡ true → leads_there blocks found ≡ true → is_named_once blocks ino at found ≡ false → walked met (slot_items blocks ino at) ≡ Err (record { block = block; rule = 12 })
  named_fail x y z = by_three (Err (record { block = block; rule = 12 })) true true false x y z (named_stop block met)

  pub slot_passes : has_dots ino at found ≡ true → leads_there blocks found ≡ true → is_named_once blocks ino at found ≡ true → walked met (slot_items blocks ino at) ≡ Ok met
  slot_passes x y z = by_three (Ok met) true true true x y z (all_hold block met)

-- rule 12 by the names that are known
pub once_by_names : (blocks : ℕ → List ℕ) (ino at : ℕ) (found : PlainSlot) (names : NameSet) → KnowsNames blocks ino at names
    → (not (is_used found) || not (nat_eq (slice_index found.name 0) 0) && not (list_any (nat_eq slash) found.name) && is_padded found.name && not (has_name names found.name)) ≡ is_named_once blocks ino at found
once_by_names blocks ino at found names knows =
    ap (λ b. not (is_used found) || not (nat_eq (slice_index found.name 0) 0) && not (list_any (nat_eq slash) found.name) && is_padded found.name && not b) (knows found.name)

any_step : (passes : ℕ → Bool) (low n : ℕ) → any_from passes low (suc n) ≡ (passes low || any_from passes (low + 1) n)
unfolding first_from
any_step passes low n = elim (passes low) as (λ b. is_some (if b then Some low else first_from passes (low + 1) n) ≡ (b || any_from passes (low + 1) n)) [ true ↦ refl | false ↦ refl ]

or_assoc : (a b c : Bool) → (a || (b || c)) ≡ ((a || b) || c)
or_assoc true b c = refl
or_assoc false b c = refl

or_false : (a : Bool) → (a || false) ≡ a
or_false true = refl
or_false false = refl

or_comm : (a b : Bool) → (a || b) ≡ (b || a)
or_comm true true = refl
or_comm true false = refl
or_comm false true = refl
or_comm false false = refl

any_none : (passes : ℕ → Bool) (low : ℕ) → any_from passes low 0 ≡ false
unfolding first_from
any_none passes low = refl

pub any_last : (passes : ℕ → Bool) (low n : ℕ) → any_from passes low (suc n) ≡ (any_from passes low n || passes (low + n))
any_last passes low zero = any_step passes low zero ∙ ap (λ b. passes low || b) (any_none passes (low + 1)) ∙ or_false (passes low) ∙ (let e : low ≡ low + 0 = omega arith in ap passes e) ∙ sym (ap (λ b. b || passes (low + 0)) (any_none passes low))
any_last passes low (suc n) =
    any_step passes low (suc n) ∙ ap (λ b. passes low || b) (any_last passes (low + 1) n) ∙ or_assoc (passes low) (any_from passes (low + 1) n) (passes (low + 1 + n))
    ∙ ap (λ b. b || passes (low + 1 + n)) (sym (any_step passes low n)) ∙ (let e : low + 1 + n ≡ low + suc n = omega arith in ap (λ k. any_from passes low (suc n) || passes k) e)

pub knows_more : (blocks : ℕ → List ℕ) (ino at : ℕ) (found : PlainSlot) (old new : NameSet) → found ≡ slot_in blocks ino at → KnowsNames blocks ino at old
    → ((other : List ℕ) → has_name new other ≡ (is_named other found || has_name old other)) → KnowsNames blocks ino (at + 1) new
knows_more blocks ino at found old new here knows added name =
    added name ∙ ap (λ b. is_named name found || b) (knows name) ∙ or_comm (is_named name found) (any_from (λ earlier. is_named name (slot_in blocks ino earlier)) 0 at)
    ∙ ap (λ (s : PlainSlot). any_from (λ earlier. is_named name (slot_in blocks ino earlier)) 0 at || is_named name s) here
    ∙ (let e : at ≡ 0 + at = omega arith in ap (λ k. any_from (λ earlier. is_named name (slot_in blocks ino earlier)) 0 at || is_named name (slot_in blocks ino k)) e)
    ∙ sym (any_last (λ earlier. is_named name (slot_in blocks ino earlier)) 0 at)
    ∙ (let e : suc at ≡ at + 1 = omega arith in ap (any_from (λ earlier. is_named name (slot_in blocks ino earlier)) 0) e)

-- a slot of a part that was read
pub slot_read : (blocks : ℕ → List ℕ) (ino part place : ℕ) (block : List ℕ) → place < 32 → block ≡ part_bytes blocks ino part → slot_of block place ≡ slot_in blocks ino (32 * part + place)
slot_read blocks ino part place block low same =
    ap (λ (b : List ℕ). slot_of b place) same
    ∙ (let e : part ≡ (32 * part + place) / 32 = omega arith in ap (λ p. slot_of (part_bytes blocks ino p) place) e)
    ∙ (let e : place ≡ (32 * part + place) % 32 = omega arith in ap (slot_of (part_bytes blocks ino ((32 * part + place) / 32))) e)

pub tests_on : (stop : Stop) (met : List ℕ) (items all : List Item) → ((broken : Finding) → walked met items ≡ Err broken → walked met all ≡ Err broken) → Tests (Err stop) met items → Tests (Err stop) met all
tests_on (Broken broken) met items all on h = on broken h
tests_on Device met items all on h = tt
tests_on NoMemory met items all on h = tt

abbrev pub plain : Slot → PlainSlot
plain entry = record { ino = entry.ino; name = entry.name }

pub plain_read : (blocks : ℕ → List ℕ) (ino part place wide : ℕ) (block : List ℕ) (entry : Slot) → place < 32 → wide ≡ place → block ≡ part_bytes blocks ino part → entry ≡ slot_at block place
    → plain entry ≡ slot_in blocks ino (32 * part + wide)
plain_read blocks ino part place wide block entry low same_place same is =
    ap (λ (s : Slot). plain s) is ∙ slot_read blocks ino part place block low same ∙ ap (λ k. slot_in blocks ino (32 * part + k)) (sym same_place)

pub number_read : (blocks : ℕ → List ℕ) (ino part place wide number : ℕ) → place < 32 → wide ≡ place → number ≡ part_address blocks ino part → number ≡ part_address blocks ino ((32 * part + wide) / 32)
number_read blocks ino part place wide number low same_place there = there ∙ (let e : part ≡ (32 * part + wide) / 32 = omega (arith, low, same_place) in ap (part_address blocks ino) e)
