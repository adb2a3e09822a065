use Rattle.std.proofs.Common.{inl, refl}
use Rattle.mb_run.proofs.Asked.{none_at_end, seals_at_end}
use Rattle.mb_run.proofs.Ending.{cut_short, flushed_keeps, keeps_then, settled}
use Rattle.mb_run.proofs.settles.settle_core.Goals as goal

pub returns-clause-settled : goal.returns-clause-settled
returns-clause-settled g c = λ so. settled _ _ _ _ _ c.recover_calmly.ensures.keeps (c.in-Clean.ensures.over refl) c.recover_calmly.ensures.right (c.if-not-seal_now.ensures.sealed refl) c.flush_all.ensures.flushed so

pub returns-in-Device-clause-seals : goal.returns-in-Device-clause-seals
returns-in-Device-clause-seals g c = λ goes. none_at_end (g.C.EventCore.sight c.args.core.now) (g.C.EventCore.sight c.recover_calmly.new.core) c.recover_calmly.ensures.seals

pub returns-clause-seals : goal.returns-clause-seals
returns-clause-seals g c = λ goes. seals_at_end (g.C.EventCore.sight c.args.core.now) (g.C.EventCore.sight c.recover_calmly.new.core) (g.C.EventCore.sight c.seal_now.new.core) (g.C.EventCore.sight c.flush_all.new.core) c.flush_all.result c.recover_calmly.ensures.seals (c.if-not-seal_now.ensures.sealed refl) c.flush_all.ensures.flushed

pub returns-in-Device-clause-cut : goal.returns-in-Device-clause-cut
returns-in-Device-clause-cut g c = λ so. inl (c.in-Device.ensures.broken refl)

pub returns-clause-cut : goal.returns-clause-cut
returns-clause-cut g c = λ so. cut_short _ _ _ _ (c.in-Clean.ensures.over refl) c.recover_calmly.ensures.right (c.if-not-seal_now.ensures.sealed refl) c.flush_all.ensures.flushed so

pub returns-then-not-seal_now-clause-keeps : goal.returns-then-not-seal_now-clause-keeps
returns-then-not-seal_now-clause-keeps g c = keeps_then _ _ _ c.recover_calmly.ensures.keeps c.seal_now.ensures.keeps

pub returns-clause-keeps : goal.returns-clause-keeps
returns-clause-keeps g c = keeps_then _ _ _ (keeps_then _ _ _ c.recover_calmly.ensures.keeps c.seal_now.ensures.keeps) (flushed_keeps _ _ _ c.flush_all.ensures.flushed)
