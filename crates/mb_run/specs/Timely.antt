-- What comes in time while one thread runs the calls: checkpoints, and the end of the answers that a copy is stale.
use Rattle.std.specs.Prelude.{ℕ, ◌+◌, ◌<◌, ◌≤◌, ◌≡◌, ◌⊎◌, false, Some}
use Rattle.mb_core_spec.specs.declared.stages.Stage.TheVariants as stage
use Rattle.mb_kinds.specs.declared.entries.Flight.{Flight}
use Rattle.mb_kinds.specs.declared.faults.Ticket.{Ticket}
use Rattle.mb_run.specs.Sights.{Sight, late_in, omitted_in, undue_in}
use Rattle.mb_run.specs.Stales.{stales_beyond, stales_since}

-- a call that is inside was told since it entered that a copy is stale at most as often as is counted
pub record IsToldNow (sight : Sight) (caller : ℕ) (ticket : Ticket) : Type 0 where
  pub present : ticket.incarnation ≡ sight.incarnation
  pub runs : sight.stage ≡ stage.Running
  pub few : stales_since caller sight.trail ≤ sight.stales caller

-- so is each call in flight without an entry whose ticket is of the present incarnation
abbrev pub CountsStales : Sight → Type 0
CountsStales sight = (caller : ℕ) (flight : Flight) (ticket : Ticket) → (sight.seats caller).flight ≡ Some flight → flight.ticket ≡ Some ticket
    → flight.answered ≡ false → (ticket.incarnation < sight.incarnation) ⊎ IsToldNow sight caller ticket

-- none is told so more than four times
pub record TellsFew (old new : Sight) : Type 0 where
  pub counts : CountsStales new
  pub few : (caller : ℕ) → stales_beyond caller new.trail ≤ stales_beyond caller old.trail

-- at most so many checkpoints were taken where none was due, each sync(2) has one right behind, no call is told a fifth time
-- that a copy is stale, and none gets another answer behind the failed volume's
pub record IsTimely (asked : ℕ) (old new : Sight) : Type 0 where
  pub undue : undue_in new ≤ undue_in old + asked
  pub prompt : omitted_in new ≤ omitted_in old
  pub told : CountsStales old → TellsFew old new
  pub late : late_in new ≤ late_in old
