use Rattle.mb_core_state.proofs.Enterings.{twice_of}
use Rattle.mb_core_state.proofs.fields.Fields.own_faults.Goals as goal

pub returns : goal.returns
returns g c = λ mine given here. twice_of _ c.args.self.now c.args.caller c.ordinal-ordinal.result _ c.own_faults.result c.self.view_is (c.ordinal-ordinal.ensures mine given here) c.own_faults.ensures
