use Rattle.std.proofs.Common.{◌∙◌, ap, slice_set}
use Rattle.mb_core_state.proofs.Enterings.{on_err_all, same_callers}
use Rattle.mb_core_state.proofs.Gatherings.{put_back}
use Rattle.mb_core_state.proofs.fields.Fields.go_in_again.Goals as goal

pub returns-in_err-go_in-clause-err : goal.returns-in_err-go_in-clause-err
returns-in_err-go_in-clause-err g c = on_err_all c.from_residual.result _
    (same_callers _ _ _ (ap (slice_set c.self.inside.callers c.args.caller) c.in_err-go_in.ensures.err ∙ put_back c.self.inside.callers c.args.caller _ c.get_mut.ensures.here) c.self.view_is)
