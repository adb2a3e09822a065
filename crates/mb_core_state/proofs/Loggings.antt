-- A call that is logged in two parts: what the cache and the tables become, and its entry.
use Rattle.std.proofs.Common.{◌≡◌, ◌∙◌, ℕ, Option, sym, ap, subst}
use Rattle.mb_kinds.specs.declared.entries.Entry.{Entry}
use Rattle.mb_kinds.specs.declared.entries.Flight.{Flight}
use Rattle.mb_kinds.specs.declared.faults.Ticket.{Ticket}
use Rattle.mb_kinds.specs.declared.replies.Reply.{Reply}
use Rattle.mb_tree.specs.Sessions.{with_change}
use Rattle.mb_tree.specs.declared.operations.FsOp.{FsOp}
use Rattle.mb_cache.specs.Stamps.{Stamps}
use Rattle.mb_core_spec.specs.Events.{GivesBack, entry_for, logging, with_room}
use Rattle.mb_core_spec.specs.State.{CallerState, CoreState}
use Rattle.mb_core_spec.specs.declared.ready.Ready.{Ready}
use Rattle.mb_core_state.specs.Finishing.{IsLogged, booking, putting}

module _ {F D : Type 0} (old mid new : CoreState F D) (caller : ℕ) (mine : CallerState) (flight : Flight) (ticket : Ticket) (ready : Ready) where
  -- what the core is, with nothing read off it but room and pins
  abbrev exactly : CoreState F D
  exactly = with_room (booking (putting old caller ready.op ready.pick ready.changes ready.session) caller mine flight ticket ready.op (entry_for caller flight ready.pick ready.reply) ready.reply new.cache.pins) new

  -- the core's event reads the cache and the tables off the new core
  abbrev as_event : CoreState F D → CoreState F D
  as_event core = with_room (record (logging old new caller mine flight ticket ready) {
    cache = record old.cache { current = core.cache.current; stamps = core.cache.stamps; pins = new.cache.pins };
    tables = record old.tables { sessions = with_change old.tables.sessions caller ready.session; opens = core.tables.opens; stamp = core.tables.stamp };
  }) new

  pub logged_after : (entry : Entry) (parts : Option FsOp × Reply) → mid ≡ with_room (putting old caller ready.op ready.pick ready.changes ready.session) mid
      → new ≡ with_room (booking mid caller mine flight ticket parts.0 entry parts.1 new.cache.pins) new → entry ≡ entry_for caller flight ready.pick ready.reply → parts ≡ (ready.op, ready.reply)
      → GivesBack mid.cache.pins new.cache.pins mine.undo → IsLogged old new caller mine flight ticket ready
  logged_after entry parts put booked is_entry is_parts back =
      let exact : new ≡ exactly =
      booked
      ∙ ap (λ (core : CoreState F D). with_room (booking core caller mine flight ticket parts.0 entry parts.1 new.cache.pins) new) put
      ∙ ap (λ (e : Entry). with_room (booking (with_room (putting old caller ready.op ready.pick ready.changes ready.session) mid) caller mine flight ticket parts.0 e parts.1 new.cache.pins) new) is_entry
      ∙ ap (λ (p : Option FsOp × Reply). with_room (booking (with_room (putting old caller ready.op ready.pick ready.changes ready.session) mid) caller mine flight ticket p.0 (entry_for caller flight ready.pick ready.reply) p.1 new.cache.pins) new) is_parts in
      record {
        event = exact ∙ sym (ap as_event exact);
        back = subst (λ (pins : Stamps). GivesBack pins new.cache.pins mine.undo) (ap (λ (core : CoreState F D). core.cache.pins) put) back;
        current = ap (λ (core : CoreState F D). core.cache.current) exact;
        stamps = ap (λ (core : CoreState F D). core.cache.stamps) exact;
        tables = ap (λ (core : CoreState F D). core.tables) exact;
      }
