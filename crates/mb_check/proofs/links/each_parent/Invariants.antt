use Rattle.std.proofs.Common.{ℕ, List, ◌≡◌, Ok}
use Rattle.mb_tree.specs.Volume.{last_inode}
use Rattle.mb_rules.specs.Items.{each_from, walked}
use Rattle.mb_rules.specs.Parents.{parent_items}
use Rattle.mb_check.specs.Directories.{KeepsAll}
use Rattle.mb_check.specs.ParentTests.{KnowsLinks}
use Rattle.mb_check.proofs.links.each_parent.Given as goal

-- the inodes so far pass
abbrev pub invariant-loop-before : goal.invariant-loop-before
invariant-loop-before l = (blocks : ℕ → List ℕ) (met : List ℕ) → KeepsAll blocks l.table → KnowsLinks blocks l.counts l.reached → l.last ≡ last_inode blocks → walked met (each_from (parent_items blocks) 1 l.before) ≡ Ok met
