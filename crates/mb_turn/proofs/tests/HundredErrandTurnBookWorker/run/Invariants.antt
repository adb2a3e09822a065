-- So many entries were added, each by this pass.
use Rattle.std.proofs.Common.{◌≡◌, ◌+◌, ◌≤◌, length}
use Rattle.mb_turn.specs.Passes.{IsIdle, mine}
use Rattle.mb_turn.proofs.tests.HundredErrandTurnBookWorker.run.Given as goal

abbrev pub invariant-loop-ordinal : goal.invariant-loop-ordinal
invariant-loop-ordinal g l = record {
  idle : IsIdle l.shared.table l.pass;
  caller : l.pass.caller ≡ l.initial.pass.caller;
  added : l.added + 1 ≤ l.ordinal;
  mine : length (mine (λ book. book.entries) l.pass) ≡ length (mine (λ book. book.entries) l.initial.pass) + l.added;
}
