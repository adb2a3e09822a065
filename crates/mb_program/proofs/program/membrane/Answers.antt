use Rattle.std.proofs.Common.{sym}
use Rattle.mb_commands.specs.Words.{command_of}
use Rattle.mb_program.proofs.Words.{of_threads, threads_read}
use Rattle.mb_program.proofs.program.membrane.Goals as goal

pub returns-then-asks_threads-clause-ended : goal.returns-then-asks_threads-clause-ended
returns-then-asks_threads-clause-ended g c = record {
  outcome = c.decide_by_threads-outcome.result.outcome;
  is = of_threads g.D.Disk.told g.D.Disk.faults (command_of c.args.words.now) (g.S.Source.left c.args.job.now) (g.S.Source.left c.decide_by_threads-outcome.new.job) c.args.disk c.decide_by_threads-outcome.result.held c.decide_by_threads-outcome.result.outcome
      (sym c.if-asks_threads.ensures) c.decide_by_threads-outcome.ensures.comes;
  printed = c.print-status.ensures.printed;
}

pub returns-then-asks_threads-clause-unread : goal.returns-then-asks_threads-clause-unread
returns-then-asks_threads-clause-unread g c = λ unread. absurd (threads_read (command_of c.args.words.now) (sym c.if-asks_threads.ensures) unread)
