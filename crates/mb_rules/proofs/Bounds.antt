-- The bound on the lists of a chain is none: as no address is met twice, more lists would change no finding.
use Rattle.std.proofs.Common.{◌≡◌, ℕ, zero, suc, ◌+◌, ◌-◌, ◌<◌, ◌≤◌, List, [], ◌∷◌, ◌++◌, nat_eq, nat_le, length, refl, sym, ap, subst, ◌∙◌, arith, length-append}
use Rattle.std.specs.List.{IsDistinct}
use Rattle.std.proofs.lemmas.Map.Steps.{length-le_from_distinct_below}
use Rattle.mb_word.specs.Fields.{isize_of, fsize_of, chain_count}
use Rattle.mb_tree.specs.Blocks.{first_list, list_in}
use Rattle.mb_tree.specs.Chain.{Listed}
use Rattle.mb_tree.specs.Volume.{IsOpenToFiles}
use Rattle.mb_rules.specs.Items.{Item, Holds, Held, walked, each_from}
use Rattle.mb_rules.specs.FreeChain.{is_open, free_items, next_items, list_items}
use Rattle.mb_rules.specs.FreeChainLaws.{BoundSuffices}
use Rattle.mb_rules.specs.TreeOf.{upper}
use Rattle.mb_rules.proofs.Walks.{hold_each, walk_holds, walk_once, walk_alike}
use Rattle.mb_rules.proofs.Chains.{met_upper, open_is, upper_open, below_append, AreBelow, lists_of}
use Rattle.mb_rules.proofs.FreeChains.{none_once}

module _ (blocks : ℕ → List ℕ) (low : 3 ≤ isize_of (blocks 1)) (more : ℕ) where
  -- so many lists are as good as more
  abbrev Suffices : ℕ → Type 0
  Suffices lists = (holder : ℕ) (it : Listed) (met : List ℕ) → IsDistinct nat_eq met → AreBelow blocks low met → fsize_of (blocks 1) < lists + length met
      → walked met (list_items blocks (lists + more) holder it) ≡ walked met (list_items blocks lists holder it)

  suffices_next : (lists : ℕ) → Suffices lists → (holder count z : ℕ) (met : List ℕ) → IsDistinct nat_eq met → AreBelow blocks low met → fsize_of (blocks 1) < suc lists + length met
      → walked met (next_items blocks (lists_of blocks low (lists + more)) holder count z) ≡ walked met (next_items blocks (lists_of blocks low lists) holder count z)
  suffices_next lists deeper holder zero z met once below room = refl
  suffices_next lists deeper holder (suc count) zero met once below room = refl
  suffices_next lists deeper holder (suc count) (suc before) met once below room =
      let front : List Item = Holds (is_open blocks (suc before)) holder 4 ∷ Held (suc before) ∷ Holds (nat_le (chain_count (blocks (suc before))) 50) (suc before) 3 ∷ [] in
      walk_alike met front _ _ (λ after passed.
      let held = walk_holds met front after passed in
      let apart = subst (IsDistinct nat_eq) held.1 (walk_once met front after passed once) in
      let within : IsOpenToFiles blocks (suc before) = open_is blocks low (suc before) held.0.0 in
      let bound = subst (AreBelow blocks low) held.1 (below_append blocks low (suc before ∷ []) met (within, tt) below) in
      let longer : suc (length met) ≡ length after = ap length held.1 in
      deeper (suc before) (list_in blocks (suc before)) after apart bound (omega arith))

  suffices_list : (lists : ℕ) → Suffices lists → Suffices (suc lists)
  unfolding list_items
  suffices_list lists deeper holder it met once below room =
      let items : ℕ → List Item = λ place. free_items blocks holder (it.entry place) in
      let next : suc lists + more ≡ suc (lists + more) = omega arith in
      rw next (walk_alike met (each_from items 1 (it.count - 1)) _ _ (λ after passed.
      let held = walk_holds met (each_from items 1 (it.count - 1)) after passed in
      let apart = subst (IsDistinct nat_eq) held.1 (walk_once met (each_from items 1 (it.count - 1)) after passed once) in
      let whole : upper it.entry (it.count - 1) ++ met ≡ after = sym (met_upper blocks holder it.entry (it.count - 1) met) ∙ held.1 in
      let within = upper_open blocks low it.entry (it.count - 1) (λ place a b. open_is blocks low (it.entry place) (hold_each items 1 (it.count - 1) held.0 place a b).0) in
      let bound = subst (AreBelow blocks low) whole (below_append blocks low (upper it.entry (it.count - 1)) met within below) in
      let longer : length (upper it.entry (it.count - 1)) + length met ≡ length after = sym (length-append (upper it.entry (it.count - 1)) met) ∙ ap length whole in
      suffices_next lists deeper holder it.count (it.entry 0) after apart bound (omega arith)))

  suffices : (lists : ℕ) → Suffices lists
  suffices zero holder it met once below room =
      let bound : length met ≤ fsize_of (blocks 1) = length-le_from_distinct_below met (fsize_of (blocks 1)) once below in
      absurd (omega arith)
  suffices (suc lists) holder it met once below room = suffices_list lists (suffices lists) holder it met once below room

pub bound_suffices : BoundSuffices
bound_suffices blocks more low = suffices blocks low more (fsize_of (blocks 1) + 1) 1 (first_list blocks) [] none_once (λ q wrong. absurd (cc)) (omega arith)
