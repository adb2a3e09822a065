-- A call that leaves, quits, or is struck: the core is in order after it.
use Rattle.std.proofs.Common.{List, ℕ, ◌≤◌, ◌≡◌, Option, Some, slice_get, sym, subst, arith}
use Rattle.mb_kinds.specs.Image.{Image}
use Rattle.mb_kinds.specs.declared.faults.Kind.{Kind}
use Rattle.mb_kinds.specs.declared.faults.Ticket.{Ticket}
use Rattle.mb_edge.specs.declared.strokes.Stroke.{Stroke}
use Rattle.mb_journal.specs.Room.{LeavesFault}
use Rattle.mb_core_spec.specs.Events.{GivesBack, Leaves, ended, leaving, roomy, with_room}
use Rattle.mb_core_spec.specs.Recovery.{striking}
use Rattle.mb_core_spec.specs.Right.{Right}
use Rattle.mb_core_spec.specs.State.{CallerState, CoreState, JournalRoom}
use Rattle.mb_core_order.proofs.Rights.{right_strikes}
use Rattle.mb_core_order.proofs.RightsOfCalls.{right_ends, right_leaves}
use Rattle.mb_core_state.specs.Answers.{IsPresent, Leaving, Strikes}
use Rattle.mb_core_state.specs.declared.answers.Fault.{Fault}
use Rattle.mb_core_state.specs.declared.answers.Fault.TheVariants as fault
use Rattle.mb_core_state.specs.declared.answers.Left.{Left}
use Rattle.mb_core_state.specs.declared.answers.Left.TheVariants as left
use Rattle.mb_core_events.specs.Callings.{CallHasEntry, HasOpenCall, HoldsTicket}
use Rattle.mb_core_events.proofs.Kept.{carries}
use Rattle.mb_core_events.proofs.Knowing.{is_declared, marks_now, runs_now, some_insider, ticket_is, within}

module _ {F D : Type 0} (told : D → Option Image) (faults : D → ℕ) (core : CoreState F D) (r : Right told faults core) where
  -- a present ticket has its mark and its record
  pub has_fault_room : (ticket : Ticket) → HoldsTicket core ticket → IsPresent core ticket → (1 ≤ core.journal.room.records) × (1 ≤ core.journal.room.trail)
  has_fault_room ticket of present = let marks = marks_now told faults core r ticket of present in let t = marks.0 in (marks.1, omega (arith, t))

  pub left_right : (new : CoreState F D) (ticket : Ticket) (answer : Left) → CallHasEntry core ticket → ((mine : CallerState) → slice_get core.callers ticket.caller ≡ Some mine → Leaving core new ticket mine answer)
      → Leaves core.journal.room new.journal.room 1 0 → Right told faults new
  left_right new ticket (left.Skip was now) has by room = subst (Right told faults) (sym (by has.0.mine has.0.here).same) r
  left_right new ticket (left.Left reply) has by room =
      let of = has.0 in
      let its = by of.mine of.here in
      let t = ticket_is told faults core r ticket of in
      let w = within told faults core r ticket of its.0 in
      carries told faults (leaving core ticket.caller of.mine ticket new.cache.pins) new its.2
      (right_leaves told faults core r ticket.caller of.mine of.here of.flight of.flies ticket of.held w.inside t.ordinal t.caller_is new.cache.pins its.3 new.journal.room room (runs_now told faults core r ticket of its.0) has.1)

  pub quit_right : (new : CoreState F D) (caller : ℕ) → HasOpenCall core caller
      → ((mine : CallerState) → slice_get core.callers caller ≡ Some mine → (new ≡ with_room (ended core caller mine new.cache.pins) new) × GivesBack core.cache.pins new.cache.pins mine.undo)
      → new.journal.room ≡ core.journal.room → Right told faults new
  quit_right new caller has by same =
      let of = has.0 in
      let its = by of.mine of.here in
      carries told faults (ended core caller of.mine new.cache.pins) new its.0
      (subst (λ (room : JournalRoom). Right told faults (roomy (ended core caller of.mine new.cache.pins) room)) (sym same) (right_ends told faults core r caller of.mine of.here new.cache.pins its.1))

  pub struck_right : (new : CoreState F D) (ticket : Ticket) (kind : Kind) (nth : ℕ) (strokes : List Stroke) (answer : Fault) → HoldsTicket core ticket → Strikes core new ticket kind nth strokes answer
      → LeavesFault core.journal.room new.journal.room → Right told faults new
  struck_right new ticket kind nth strokes (fault.Skip was now) of by room = subst (Right told faults) (sym by.same) r
  struck_right new ticket kind nth strokes (fault.Struck number) of by room =
      carries told faults (striking core ticket kind nth strokes) new by.2
      (right_strikes told faults core r ticket kind nth strokes new.journal.room (is_declared told faults core r ticket.caller of.mine of.here) room.history (runs_now told faults core r ticket of by.0)
      (some_insider told faults core r ticket of by.0) room.trail)
