use Rattle.std.proofs.Common.{ℕ, List, ◌≡◌, Ok}
use Rattle.mb_word.specs.Fields.{index_entry}
use Rattle.mb_rules.specs.Items.{each_from, walked}
use Rattle.mb_rules.specs.Files.{address_items}
use Rattle.mb_check_files.specs.Passes.{Stands, AreBounds}
use Rattle.mb_check_files.specs.PartLists.{Notes, Extends, IsPaid}
use Rattle.mb_check_files.proofs.addresses.single.Given as goal

-- the places so far were gone through, and their parts were noted
abbrev pub invariant-loop-place : goal.invariant-loop-place
invariant-loop-place g l = record {
  walk : (blocks : ℕ → List ℕ) (list : List ℕ) → AreBounds blocks l.bounds → Stands l.initial.met list
      → (after : List ℕ) × (walked list (each_from (λ place. address_items blocks 0 l.address (index_entry l.block place)) 0 l.place) ≡ Ok after) × Stands l.met after;
  notes : Notes l.initial.parts l.parts (index_entry l.block) l.place;
  kept : Extends l.initial.parts.addresses.items l.parts.addresses.items;
  few : IsPaid l.initial.parts l.parts l.initial.met l.met;
}
