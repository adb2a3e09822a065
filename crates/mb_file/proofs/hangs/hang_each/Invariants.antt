use Rattle.mb_file.proofs.Hanging.{HasHung}
use Rattle.mb_file.proofs.hangs.hang_each.Given as goal

abbrev pub invariant-loop-at : goal.invariant-loop-at
invariant-loop-at l = HasHung l.fn.first l.first l.blocks l.held l.at
