use Rattle.std.proofs.Common.{◌≡◌, drop}
use Rattle.mb_tree.specs.Lookup.{components}
use Rattle.mb_namei.proofs.components.without_slashes.Given as goal

abbrev pub invariant-loop-i : goal.invariant-loop-i
invariant-loop-i l = components (drop l.i l.path) ≡ components l.path
