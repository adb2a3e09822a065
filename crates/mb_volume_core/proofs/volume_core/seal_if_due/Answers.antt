use Rattle.std.proofs.Common.{sym, ◌∙◌}
use Rattle.mb_volume_core.proofs.Sealing.{seals_after}
use Rattle.mb_volume_core.proofs.volume_core.seal_if_due.Goals as goal

pub returns-in-Ok-clause-seals : goal.returns-in-Ok-clause-seals
returns-in-Ok-clause-seals g c = seals_after c.args.core.now c.seal.new.self c.args.finished.now c.args.call.now c.in-Logged.is (sym c.is_due.ensures ∙ c.if-is_due.true) (c.requires.runs c.in-Logged.is) c.in-Ok.ensures.ok.0
