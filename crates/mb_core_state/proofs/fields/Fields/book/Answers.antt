use Rattle.mb_core_state.proofs.Held.{some_flight}
use Rattle.mb_core_state.proofs.fields.Fields.book.Goals as goal

pub log-requires : goal.log-requires
log-requires g c = let asked = rw (← c.self.view_is) at c.requires.flight in record {
  flight = some_flight c.self.inside.callers c.args.ticket.caller asked.0 _ asked.1 c.get_mut.ensures.here asked.2;
  pins = λ block. (rw (← c.self.view_is) at c.requires.pins) _ block c.get_mut.ensures.here;
}
