use Rattle.std.specs.Prelude.{◌≡◌, None}
use Rattle.mb_kinds.specs.Changed.{changed}
use Rattle.mb_gathering.proofs.views.without.Given as goal

abbrev pub invariant-loop-place : goal.invariant-loop-place
invariant-loop-place l = changed l.view.blocks l.lacking ≡ None
