use Rattle.std.proofs.Common.{◌∙◌, ap, slice_set}
use Rattle.mb_core_state.proofs.Gatherings.{on_err, put_back}
use Rattle.mb_core_state.proofs.fields.Fields.gather_for.Goals as goal

pub returns-clause-err : goal.returns-clause-err
returns-clause-err g c = on_err c.gather-gathered.result _ _ (λ kept. (
  ap (slice_set c.self.inside.callers c.args.caller) kept.0 ∙ put_back c.self.inside.callers c.args.caller _ c.get_mut.ensures.here ∙ ap (λ core. core.callers) c.self.view_is,
  kept.1,
  kept.2 ∙ ap (λ core. core.cache.pins) c.self.view_is,
)) c.gather-gathered.ensures.err
