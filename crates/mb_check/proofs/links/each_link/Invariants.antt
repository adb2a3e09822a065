use Rattle.std.proofs.Common.{ℕ, List, ◌≡◌, ◌+◌, Ok}
use Rattle.mb_tree.specs.Volume.{last_inode}
use Rattle.mb_rules.specs.Items.{each_from, walked}
use Rattle.mb_rules.specs.Parents.{link_items}
use Rattle.mb_check.specs.Directories.{KeepsAll}
use Rattle.mb_check.specs.Tallies.{KeepsCounts}
use Rattle.mb_check.proofs.links.each_link.Given as goal

-- the inodes so far pass
abbrev pub invariant-loop-before : goal.invariant-loop-before
invariant-loop-before l = (blocks : ℕ → List ℕ) (met : List ℕ) → KeepsAll blocks l.table → KeepsCounts blocks (last_inode blocks + 1) 0 l.counts → l.last ≡ last_inode blocks → walked met (each_from (link_items blocks) 1 l.before) ≡ Ok met
