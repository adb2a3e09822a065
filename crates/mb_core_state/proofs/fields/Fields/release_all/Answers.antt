use Rattle.mb_core_state.proofs.Enterings.{if_ok}
use Rattle.mb_core_state.proofs.Redoings.{nameless_acts}
use Rattle.mb_core_state.proofs.fields.Fields.release_all.Goals as goal

pub returns-clause-ok : goal.returns-clause-ok
returns-clause-ok g c = if_ok c.act_seen.result _ _ (λ changes acts.
    nameless_acts g.D.Disk.told _ c.args.self.now _ c.args.nameless c.in_ok-opens.opens changes c.self.view_is c.as_slice.ensures c.in_ok-opens.ensures acts) c.act_seen.ensures.ok
