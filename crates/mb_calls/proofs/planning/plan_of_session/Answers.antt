use Rattle.std.proofs.Common.{rules}
use Rattle.mb_calls.specs.Halts.Scope.{lacking}
use Rattle.mb_calls.specs.Halts.Scope.{around}
use Rattle.mb_calls.proofs.planning.plan_of_session.Goals as goal

pub returns-in-Close-clause-wants : goal.returns-in-Close-clause-wants
returns-in-Close-clause-wants g c = (c.unasked.ensures.follows _ c.close_row.ensures.row).need (lacking _)

pub returns-in-Write-clause-wants : goal.returns-in-Write-clause-wants
returns-in-Write-clause-wants g c = (c.unasked-in-Write.ensures.follows _ c.write_row.ensures.row).need (lacking _)

pub returns-in-Dup-clause-wants : goal.returns-in-Dup-clause-wants
returns-in-Dup-clause-wants g c = (c.unasked-in-Dup.ensures.follows _ c.dup_row.ensures.row).need (lacking _)

pub returns-in-Exit-clause-wants : goal.returns-in-Exit-clause-wants
returns-in-Exit-clause-wants g c = (c.unasked-in-Exit.ensures.follows _ c.exit_row.ensures.row).need (lacking _)

pub returns-in-Read-clause-says : goal.returns-in-Read-clause-says
returns-in-Read-clause-says g c = λ image tree others over. rw c.in-Read.is (c.read_row.ensures.says image tree over)

pub returns-in-Fstat-clause-says : goal.returns-in-Fstat-clause-says
returns-in-Fstat-clause-says g c = λ image tree others over. rw c.in-Fstat.is (c.fstat_row.ensures.says image tree over)

pub returns-in-Lseek-clause-says : goal.returns-in-Lseek-clause-says
returns-in-Lseek-clause-says g c = λ image tree others over. rw c.in-Lseek.is (let h = c.lseek_row.ensures.says image tree over in search (rules, h))

pub returns-in-Close-clause-near : goal.returns-in-Close-clause-near
returns-in-Close-clause-near g c = λ image tree over. (c.unasked.ensures.follows _ c.close_row.ensures.row).need (around image tree c.args.seat.now c.args.call.now)

pub returns-in-Write-clause-near : goal.returns-in-Write-clause-near
returns-in-Write-clause-near g c = λ image tree over. (c.unasked-in-Write.ensures.follows _ c.write_row.ensures.row).need (around image tree c.args.seat.now c.args.call.now)

pub returns-in-Dup-clause-near : goal.returns-in-Dup-clause-near
returns-in-Dup-clause-near g c = λ image tree over. (c.unasked-in-Dup.ensures.follows _ c.dup_row.ensures.row).need (around image tree c.args.seat.now c.args.call.now)

pub returns-in-Exit-clause-near : goal.returns-in-Exit-clause-near
returns-in-Exit-clause-near g c = λ image tree over. (c.unasked-in-Exit.ensures.follows _ c.exit_row.ensures.row).need (around image tree c.args.seat.now c.args.call.now)

pub returns-in-Read-clause-near : goal.returns-in-Read-clause-near
returns-in-Read-clause-near g c = λ image tree over. c.read_row.ensures.near image tree c.args.call.now over

pub returns-in-Fstat-clause-near : goal.returns-in-Fstat-clause-near
returns-in-Fstat-clause-near g c = λ image tree over. c.fstat_row.ensures.near image tree c.args.call.now over

pub returns-in-Lseek-clause-near : goal.returns-in-Lseek-clause-near
returns-in-Lseek-clause-near g c = λ image tree over. c.lseek_row.ensures.near image tree c.args.call.now over
