use Rattle.std.proofs.Common.{◌∙◌, ap, slice_set}
use Rattle.mb_core_state.proofs.Enterings.{on_err_all, same_callers}
use Rattle.mb_core_state.proofs.Gatherings.{put_back}
use Rattle.mb_core_state.proofs.fields.Fields.go_in_new.Goals as goal

pub returns-in_err-begin_inside-clause-err : goal.returns-in_err-begin_inside-clause-err
returns-in_err-begin_inside-clause-err g c = on_err_all c.from_residual.result _
    (same_callers _ _ _ (ap (slice_set c.self.inside.callers c.args.caller) c.in_err-begin_inside.ensures.err ∙ put_back c.self.inside.callers c.args.caller _ c.get_mut.ensures.here) c.self.view_is)
