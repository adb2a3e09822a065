use Rattle.std.specs.FinMap as fin
use Rattle.mb_tree.specs.Sessions.{counts}
use Rattle.mb_tree.specs.Effect.{is_lost, release}
use Rattle.mb_tree.proofs.Released.{AreDropped}
use Rattle.mb_tree.proofs.effects.less_open.Given as goal

abbrev pub invariant-loop-ino : goal.invariant-loop-ino
invariant-loop-ino l = AreDropped l.tree.nodes (λ ino. is_lost (release (counts l.seats) l.inos) ino (fin.get l.tree.nodes ino)) l.inos l.nodes l.ino-index
