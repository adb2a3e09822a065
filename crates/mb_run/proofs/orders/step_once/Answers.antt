use Rattle.mb_run.proofs.Moving.{did_move}
use Rattle.mb_run.proofs.GivingUp.{may_give_up}
use Rattle.mb_run.specs.declared.progress.Went.TheVariants as went
use Rattle.mb_run.proofs.Starting.{back_goes, busy_goes, ended_goes, on_goes, shut_goes}
use Rattle.mb_run.proofs.orders.step_once.Goals as goal

pub returns-in-Ended-clause-moved : goal.returns-in-Ended-clause-moved
returns-in-Ended-clause-moved g c = did_move _ _ _ _ _ _ went.Ended c.in-Ended.ensures.did

pub returns-in-On-clause-moved : goal.returns-in-On-clause-moved
returns-in-On-clause-moved g c = did_move _ _ _ _ _ _ went.On c.in-On.ensures.did

pub returns-in-Back-clause-moved : goal.returns-in-Back-clause-moved
returns-in-Back-clause-moved g c = did_move _ _ _ _ _ _ went.Back c.in-Back.ensures.did

pub returns-in-Shut-clause-moved : goal.returns-in-Shut-clause-moved
returns-in-Shut-clause-moved g c = did_move _ _ _ _ _ _ went.Shut c.in-Shut.ensures.did

pub returns-in-Busy-clause-moved : goal.returns-in-Busy-clause-moved
returns-in-Busy-clause-moved g c = did_move _ _ _ _ _ _ (went.Busy c.in-Busy.field-0) c.in-Busy.ensures.did

pub give_up-requires : goal.give_up-requires
give_up-requires g c = may_give_up _ _ _ _ _ _ _ _ c.requires c.in-NoMemory.ensures.did.nears c.in-NoMemory.ensures.did.goes.1 c.step.ensures.right

pub returns-in-Ended-clause-begins : goal.returns-in-Ended-clause-begins
returns-in-Ended-clause-begins g c = λ so. c.in-Ended.ensures.begins ended_goes

pub returns-in-On-clause-begins : goal.returns-in-On-clause-begins
returns-in-On-clause-begins g c = λ so. c.in-On.ensures.begins on_goes

pub returns-in-Back-clause-begins : goal.returns-in-Back-clause-begins
returns-in-Back-clause-begins g c = λ so. c.in-Back.ensures.begins back_goes

pub returns-in-Shut-clause-begins : goal.returns-in-Shut-clause-begins
returns-in-Shut-clause-begins g c = λ so. c.in-Shut.ensures.begins shut_goes

pub returns-in-Busy-clause-begins : goal.returns-in-Busy-clause-begins
returns-in-Busy-clause-begins g c = λ so. c.in-Busy.ensures.begins (busy_goes c.in-Busy.field-0)

pub returns-in-Ended-clause-calm : goal.returns-in-Ended-clause-calm
returns-in-Ended-clause-calm g c = λ so. c.in-Ended.ensures.calm ended_goes

pub returns-in-On-clause-calm : goal.returns-in-On-clause-calm
returns-in-On-clause-calm g c = λ so. c.in-On.ensures.calm on_goes

pub returns-in-Back-clause-calm : goal.returns-in-Back-clause-calm
returns-in-Back-clause-calm g c = λ so. c.in-Back.ensures.calm back_goes

pub returns-in-Shut-clause-calm : goal.returns-in-Shut-clause-calm
returns-in-Shut-clause-calm g c = λ so. c.in-Shut.ensures.calm shut_goes

pub returns-in-Busy-clause-calm : goal.returns-in-Busy-clause-calm
returns-in-Busy-clause-calm g c = λ so. c.in-Busy.ensures.calm (busy_goes c.in-Busy.field-0)
