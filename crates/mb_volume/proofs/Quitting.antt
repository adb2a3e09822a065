-- A call that met want of memory is given up, in one hold of the turn.
use Rattle.std.proofs.Common.{◌≡◌, List, ℕ, ◌<◌, refl, ap, sym, subst, ◌∙◌, Option, None, Some, slice_get}
use Rattle.std.specs.Prelude.{IsSome}
use Rattle.mb_core_events.specs.Callings.{HasOpenCall}
use Rattle.mb_core_spec.specs.Events.{ended, with_room}
use Rattle.mb_core_spec.specs.State.{CallerState, CoreState}
use Rattle.mb_kinds.specs.Own.{own}
use Rattle.mb_kinds.specs.declared.entries.Entry.{Entry}
use Rattle.mb_kinds.specs.declared.entries.Stand.{Stand}
use Rattle.mb_run.specs.CoreSight.{seat_of, sight_of}
use Rattle.mb_run.specs.Events.{Quits}
use Rattle.mb_run.specs.Sights.{IsWaiting, SightSeat, Sight}
use Rattle.mb_run.proofs.Amiss.{quits_amiss}
use Rattle.mb_turn.specs.Passes.{Begins}
use Rattle.mb_volume_core.proofs.Leaving.{gone, has_open_call, quit_origin, quits_by}
use Rattle.mb_volume_core.proofs.Origins.{origin_of}
use Rattle.mb_volume_core.proofs.Staying.{seat_now}
use Rattle.mb_volume.specs.Parts.{MovesPart, Part, part_of, stand_in}
use Rattle.mb_volume.specs.Underway.{IsLeftOff}
use Rattle.mb_volume.proofs.Changing.{is_declared, moves_stays, stands_declared}
use Rattle.mb_volume.proofs.Entered.{struck_still}
use Rattle.mb_volume.proofs.Holding.{taken_part}

some_of : (stand : Option Stand) (count : ℕ) → Begins stand count → IsSome stand
some_of None count begins = absurd begins
some_of (Some stand) count begins = refl

-- what a pass tells of its caller
pub declared_by : (sight : Sight) (caller count : ℕ) → Begins (stand_in sight caller) count → caller < sight.config.callers
declared_by sight caller count begins = is_declared sight caller (some_of (stand_in sight caller) count begins)

pub begun_by : (sight : Sight) (caller count : ℕ) → Begins (stand_in sight caller) count → (sight.seats caller).begun ≡ count
begun_by sight caller count begins = subst (λ (o : Option Stand). Begins o count) (stands_declared sight caller (declared_by sight caller count begins)) begins

module _ {F D : Type 0} (saw now : CoreState F D) (caller mine begun ordinal : ℕ) (same : mine ≡ caller) (begins : Begins (stand_in (sight_of saw) caller) begun) (last : begun ≡ ordinal) (began : origin_of now ≡ origin_of saw)
    (entries : own (sight_of now).history caller ≡ own (sight_of saw).history caller) (stand : stand_in (sight_of now) caller ≡ stand_in (sight_of saw) caller)
    (waits : (part_of (sight_of saw) caller).seat.begun ≡ ordinal → IsWaiting (part_of (sight_of saw) caller).seat) where
  number : (part_of (sight_of saw) caller).seat.begun ≡ ordinal
  number = begun_by (sight_of saw) caller begun begins ∙ last

  part : part_of (sight_of now) mine ≡ part_of (sight_of saw) caller
  part = taken_part saw now now caller mine same (declared_by (sight_of saw) caller begun begins) began entries stand

  pub quit_open : HasOpenCall now mine
  quit_open = has_open_call now mine (subst (λ (p : Part). IsWaiting p.seat) (sym part) (waits number))

  module _ (new : CoreState F D) (event : (state : CallerState) → slice_get now.callers mine ≡ Some state → new ≡ with_room (ended now mine state new.cache.pins) new) where
    made : new ≡ with_room (ended now mine quit_open.0.mine new.cache.pins) new
    made = event quit_open.0.mine quit_open.0.here

    quits : Quits mine (sight_of now) (sight_of new)
    quits = quits_by now mine quit_open.0.mine quit_open.0.here new made

    pub quit_from : origin_of new ≡ origin_of now
    quit_from = quit_origin now mine quit_open.0.mine quit_open.0.here new made

    pub quit_moves : MovesPart mine (sight_of now) (sight_of new)
    quit_moves = moves_stays mine (sight_of now) (sight_of new) quits.stays quits.history (quits_amiss mine (sight_of now) (sight_of new) quits)

    begun_still : ((sight_of new).seats mine).begun ≡ ((sight_of now).seats mine).begun
    begun_still =
        let ends : CoreState F D = with_room (ended now mine quit_open.0.mine new.cache.pins) new in
        ap (λ (c : CoreState F D). ((sight_of c).seats mine).begun) made
        ∙ ap (λ (s : SightSeat). s.begun) (seat_now now ends mine (gone quit_open.0.mine) refl quit_open.0.mine quit_open.0.here)
        ∙ sym (ap (λ (o : Option CallerState). (seat_of o).begun) quit_open.0.here)

    off : IsLeftOff ordinal (part_of (sight_of now) mine) (part_of (sight_of new) mine)
    off = record {
      entries = ap (λ (h : List Entry). own h mine) quits.history;
      struck = struck_still mine (sight_of now) (sight_of new) quits.stays.records;
      config = quits.stays.config;
      begun = begun_still;
      free = λ is. quits.mine;
      still = λ other. absurd (other (ap (λ (p : Part). p.seat.begun) part ∙ number));
    }

    pub left_off : IsLeftOff ordinal (part_of (sight_of saw) caller) (part_of (sight_of new) caller)
    left_off = subst (λ (p : Part). IsLeftOff ordinal p (part_of (sight_of new) caller)) part (subst (λ n. IsLeftOff ordinal (part_of (sight_of now) mine) (part_of (sight_of new) n)) same off)
