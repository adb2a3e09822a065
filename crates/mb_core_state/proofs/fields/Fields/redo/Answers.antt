use Rattle.std.proofs.Common.{◌∙◌, ap, slice_get}
use Rattle.mb_core_state.proofs.Redoings.{replayed}
use Rattle.mb_core_state.proofs.fields.Fields.redo.Goals as goal

pub returns-clause-ok : goal.returns-clause-ok
returns-clause-ok g c = λ logged at.
    replayed g.D.Disk.told c.args.self.now c.act_again.new.self c.put_again.new.self c.args.done logged c.in_ok-changes.changes c.act_again.ensures.rest c.put_again.ensures.disk c.in_ok-put_again.ensures.are
    (c.in_ok-changes.ensures.ok logged at) (c.in_ok-put_again.ensures.ok logged (ap (λ core. slice_get core.journal.oplog c.args.done) c.act_again.ensures.rest ∙ at))
