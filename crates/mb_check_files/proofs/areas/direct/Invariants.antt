use Rattle.std.proofs.Common.{ℕ, List, ◌≡◌, Ok}
use Rattle.mb_layout.specs.Inode.{address_in}
use Rattle.mb_rules.specs.Items.{each_from, walked}
use Rattle.mb_rules.specs.Files.{address_items}
use Rattle.mb_check_files.specs.Passes.{Stands, AreBounds}
use Rattle.mb_check_files.specs.PartLists.{Notes, Extends, IsPaid}
use Rattle.mb_check_files.proofs.areas.direct.Given as goal

-- the places so far were gone through, and their parts were noted
abbrev pub invariant-loop-place : goal.invariant-loop-place
invariant-loop-place l = record {
  walk : (blocks : ℕ → List ℕ) (list : List ℕ) → AreBounds blocks l.bounds → Stands l.fn.met list
      → (after : List ℕ) × (walked list (each_from (λ place. address_items blocks 0 l.holder (address_in l.inode place)) 0 l.place) ≡ Ok after) × Stands l.met after;
  notes : Notes l.fn.parts l.parts (address_in l.inode) l.place;
  kept : Extends l.fn.parts.addresses.items l.parts.addresses.items;
  few : IsPaid l.fn.parts l.parts l.fn.met l.met;
}
