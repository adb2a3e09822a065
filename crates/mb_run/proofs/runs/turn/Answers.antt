use Rattle.mb_run.proofs.RunningOut.{shut_again, shut_ended, shut_stopped}
use Rattle.mb_run.proofs.runs.turn.Goals as goal

pub returns-in-Ended-recover-clause-turns : goal.returns-in-Ended-recover-clause-turns
returns-in-Ended-recover-clause-turns g c = shut_ended _ _ _ _ _ _ _ _ c.in-Shut.ensures.did (rw c.step.ensures.test at c.in-Ended-recover.ensures.recovers)

pub returns-in-NoMemory-recover-clause-turns : goal.returns-in-NoMemory-recover-clause-turns
returns-in-NoMemory-recover-clause-turns g c = shut_stopped _ _ _ _ _ _ _ _ c.in-Shut.ensures.did (rw c.step.ensures.test at c.in-NoMemory-recover.ensures.recovers)

pub returns-in-Back-recover-clause-turns : goal.returns-in-Back-recover-clause-turns
returns-in-Back-recover-clause-turns g c = shut_again _ _ _ _ _ _ _ _ c.in-Shut.ensures.did (rw c.step.ensures.test at c.in-Back-recover.ensures.recovers)
