use Rattle.mb_core_state.proofs.Enterings.{on_ok_all, waits_on}
use Rattle.mb_core_state.proofs.fields.Fields.wait.Goals as goal

pub returns-then-flies-clause-ok : goal.returns-then-flies-clause-ok
returns-then-flies-clause-ok g c = on_ok_all c.wait_on.result _ (λ mine here. waits_on c.args.self.now c.wait_on.new.self c.args.caller mine c.args.call.now (c.flies.ensures.flies c.if-flies.true mine here) c.wait_on.ensures.same)
