use Rattle.mb_print.proofs.Remaining.{Goes}
use Rattle.mb_print.proofs.transcripts.lines_of.Given as goal

abbrev pub invariant-entries : goal.invariant-entries
invariant-entries l = Goes l.callers l.calls l.history l.places l.index l.out.items
