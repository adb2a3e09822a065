use Rattle.std.proofs.Common.{◌∙◌, ap, slice_get}
use Rattle.mb_core_state.proofs.Redoings.{on_ok, redoing_after}
use Rattle.mb_core_state.proofs.fields.Fields.put_again.Goals as goal

pub returns-clause-ok : goal.returns-clause-ok
returns-clause-ok g c = on_ok c.install_again.result _ _ (λ done logged at.
    redoing_after c.args.self.now c.reserve_redo.new.self c.install_again.new.self logged c.args.changes.now c.args.done c.reserve_redo.ensures.same
    (done logged (ap (λ core. slice_get core.journal.oplog c.args.done) c.reserve_redo.ensures.same ∙ at))) c.install_again.ensures.ok

pub returns-clause-disk : goal.returns-clause-disk
returns-clause-disk g c = c.install_again.ensures.disk ∙ ap (λ core. core.cache.disk) c.reserve_redo.ensures.same
