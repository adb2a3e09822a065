use Rattle.mb_kinds.specs.Changed.{changed}
use Rattle.mb_gathering.specs.Growing.{ShowsAllOf, IsFrom}
use Rattle.mb_gathering.proofs.views.gather.Given as goal

abbrev pub invariant-loop-block : goal.invariant-loop-block
invariant-loop-block l = record { grows : ShowsAllOf (changed l.fn.view.blocks) (changed l.view.blocks); from : IsFrom (changed l.disk.blocks) (changed l.fn.view.blocks) (changed l.view.blocks) }

abbrev pub invariant-loop-at : goal.invariant-loop-at
invariant-loop-at l = record { grows : ShowsAllOf (changed l.fn.view.blocks) (changed l.view.blocks); from : IsFrom (changed l.disk.blocks) (changed l.fn.view.blocks) (changed l.view.blocks) }
