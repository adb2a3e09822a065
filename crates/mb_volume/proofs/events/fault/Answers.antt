use Rattle.std.proofs.Common.{ap, refl, ◌∙◌}
use Rattle.mb_edge.specs.declared.crossings.Crossings.{Crossings}
use Rattle.mb_volume.specs.declared.attempt.Attempt.{Attempt}
use Rattle.mb_volume.proofs.Faulted.{comes_faulted, moves_faults, struck_here, ticket_of}
use Rattle.mb_volume.proofs.Rising.{after_fault}
use Rattle.mb_volume.proofs.Marking.{passed_struck}
use Rattle.mb_volume.proofs.events.fault.Goals as goal

pub fault-requires-clause-ticket : goal.fault-requires-clause-ticket
fault-requires-clause-ticket g c = ticket_of _ _ _ (g.C.EventCore.sight c.args.core.now) _ c.requires.on.2 _ c.requires.holds

pub fault-requires-clause-struck : goal.fault-requires-clause-struck
fault-requires-clause-struck g c = struck_here _ _ _ (g.C.EventCore.sight c.args.core.now) _ c.requires.on.2 _ c.requires.holds _ _ _ _ c.requires.met

pub returns-clause-comes : goal.returns-clause-comes
returns-clause-comes g c = record {
  goes = λ from u. rw c.back.ensures (comes_faulted _ _ _ _ _ u _ c.requires.holds _ _ _ c.requires.met _ _ c.fault.ensures.faults);
  marks = rw c.back.ensures (record { passes = λ asked. passed_struck _ _ c.args.attempt.now c.args.ticket.now _ _ _ c.args.passed.now c.requires.holds c.requires.on.2.stands c.fault.ensures.faults asked; crosses = refl });
  same = ap (λ (a : Attempt). a.crossings.caller) c.back.ensures ∙ ap (λ (crossings : Crossings). crossings.caller) c.requires.met.passed_is;
  moves = moves_faults _ _ _ _ _ c.requires.on.2 _ c.requires.holds _ _ _ _ c.requires.met _ _ c.fault.ensures.faults;
}

pub returns-clause-rises : goal.returns-clause-rises
returns-clause-rises g c = after_fault _ _ _ c.args.ticket.now _ _ _ c.fault.ensures.faults
