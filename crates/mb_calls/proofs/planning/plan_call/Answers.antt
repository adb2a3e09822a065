use Rattle.mb_calls.proofs.planning.plan_call.Goals as goal

pub returns-in-Open-clause-says : goal.returns-in-Open-clause-says
returns-in-Open-clause-says g c = λ image tree others over alike. c.plan_of_inode.ensures.says image tree others over

pub returns-in_default-clause-says : goal.returns-in_default-clause-says
returns-in_default-clause-says g c = λ image tree others over alike. c.plan_of_session.ensures.says image tree others over
