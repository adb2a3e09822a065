use Rattle.std.proofs.Common.{refl}
use Rattle.mb_core_order.proofs.Rights.{right_logs}
use Rattle.mb_core_order.proofs.Conditions.{inside_ticket}
use Rattle.mb_core_order.proofs.laws.call_is_logged.Goals as goal

pub returns : goal.returns
returns g c = λ core new at mine flight ticket ready room r may.
    let w = may.within in let t = inside_ticket g.D.Disk.told g.D.Disk.faults core r at mine flight ticket w in let f = may.finished in
    right_logs g.D.Disk.told g.D.Disk.faults core r at mine w.here flight w.flies may.unanswered ticket w.held w.inside t.ordinal t.caller_is may.runs may.floor new.cache.pins may.back room (may.marks, may.records) may.entries new ready f.plain refl
    may.rises may.tables may.once may.moves f.pages f.kept f.given f.ready_for f.fresh f.kept_is f.tables_fresh may.installs
