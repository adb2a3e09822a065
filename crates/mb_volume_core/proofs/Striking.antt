-- A call is struck.
use Rattle.std.proofs.Common.{◌≡◌, ◌∙◌, List, ℕ, ◌+◌, length, slice_get, refl, ap, sym, subst}
use Rattle.mb_kinds.specs.declared.faults.Kind.{Kind}
use Rattle.mb_kinds.specs.declared.faults.Ticket.{Ticket}
use Rattle.mb_edge.specs.declared.strokes.Stroke.{Stroke}
use Rattle.mb_core_spec.specs.Events.{with_room}
use Rattle.mb_core_spec.specs.Recovery.{striking}
use Rattle.mb_core_spec.specs.State.{CoreState}
use Rattle.mb_core_spec.specs.declared.steps.Step.TheVariants as step
use Rattle.mb_core_state.specs.Answers.{Strikes}
use Rattle.mb_core_state.specs.declared.answers.Fault.{Fault}
use Rattle.mb_core_state.specs.declared.answers.Fault.TheVariants as fault
use Rattle.mb_core_events.specs.Callings.{HoldsTicket}
use Rattle.mb_run.specs.CoreSight.{sight_of}
use Rattle.mb_run.specs.Events.{FaultsWith, StrikesCall}
use Rattle.mb_run.specs.Sights.{IsTicketOf}
use Rattle.mb_volume_core.proofs.Origins.{origin_of}
use Rattle.mb_volume_core.proofs.Staying.{keeps_log, marks_one, seated}

pub holds_ticket : {F D : Type 0} (core : CoreState F D) (ticket : Ticket) → IsTicketOf ((sight_of core).seats ticket.caller) ticket → HoldsTicket core ticket
holds_ticket core ticket has =
    let its = seated (slice_get core.callers ticket.caller) has.0 has.1 in
    record { mine = its.0; here = its.1; flight = has.0; flies = its.2; held = has.2 }

module _ {F D : Type 0} (core new : CoreState F D) (ticket : Ticket) (kind : Kind) (nth : ℕ) (strokes : List Stroke) where
  strikes_at : StrikesCall (sight_of core) (sight_of (with_room (striking core ticket kind nth strokes) new)) ticket kind nth
  strikes_at = record {
    config = refl;
    records = refl;
    stage = refl;
    incarnation = refl;
    seats = λ other. refl;
    counts = record { history = refl; begun = refl; open_calls = refl };
    log = keeps_log core (with_room (striking core ticket kind nth strokes) new) refl refl
        (marks_one core.journal.trail (with_room (striking core ticket kind nth strokes) new).journal.trail (step.Struck (length core.journal.records + 1)) refl refl);
    floor = refl;
  }

  pub faults_by : (answer : Fault) → Strikes core new ticket kind nth strokes answer → FaultsWith (sight_of core) (sight_of new) ticket kind nth answer
  faults_by (fault.Skip was now) by = ((λ same. by.other (by.mine_is ∙ same ∙ sym by.now_is)), ap (λ (c : CoreState F D). sight_of c) by.same)
  faults_by (fault.Struck number) by = (by.0, subst (λ (c : CoreState F D). StrikesCall (sight_of core) (sight_of c) ticket kind nth) (sym by.2) strikes_at)

  pub fault_origin : (answer : Fault) → Strikes core new ticket kind nth strokes answer → origin_of new ≡ origin_of core
  fault_origin (fault.Skip was now) by = ap (λ (c : CoreState F D). origin_of c) by.same
  fault_origin (fault.Struck number) by = ap (λ (c : CoreState F D). origin_of c) by.2
