-- Which fault points a call passed on its way, by where it stands, and what the fault injector's count of faults says of them.
use Rattle.std.specs.Prelude.{ℕ, ◌+◌, ◌-◌, ◌^◌, ◌≤◌, ◌≡◌, ◌≢◌, min, nat_eq, ◌&&◌, not, Bool, true, false, Option, IfSome}
use Rattle.mb_core_spec.specs.Copies.{no_pages}
use Rattle.mb_edge.specs.declared.crossings.Crossing.{Crossing}
use Rattle.mb_edge.specs.declared.crossings.Crossings.{Crossings}
use Rattle.mb_kinds.specs.declared.entries.Flight.{Flight}
use Rattle.mb_kinds.specs.declared.faults.Kind.{Kind}
use Rattle.mb_kinds.specs.declared.faults.Kind.TheVariants.{Enter, Gather, Finish, Leave}
use Rattle.mb_run.specs.Pages.{has}
use Rattle.mb_run.specs.Served.{counted}
use Rattle.mb_run.specs.Sights.{SightSeat, Sight, one_if}
use Rattle.mb_run.specs.Seals.{is_plain}
use Rattle.mb_run.specs.Tallies.{count_of, is_logged}
use Rattle.mb_run.specs.declared.runner.At.{At}
use Rattle.mb_run.specs.declared.runner.At.TheVariants as at
use Rattle.mb_volume.specs.Called.{TakesFirsts, first_of_kind, is_on_way}
use Rattle.mb_volume.specs.Underway.{FlightHasEntry}
use Rattle.mb_volume.specs.declared.attempt.Attempt.{Attempt}
use Rattle.mb_volume.specs.declared.events.Came.{Came}
use Rattle.mb_volume.specs.declared.events.Came.TheVariants as came
use Rattle.mb_volume.specs.declared.events.Event.{Event}
use Rattle.mb_volume.specs.declared.events.Event.TheVariants as event

-- ---- by where the call stands

-- a call inside was where it entered; where it gathered, if it has the tables; and where it finishes, if that was asked
pub record IsPastEnter (attempt : Attempt) : Type 0 where
  pub enters : count_of attempt.crossings Enter ≢ 0
  pub gathers : has attempt.pages 0 ≡ true → count_of attempt.crossings Gather ≢ 0
  pub finishes : attempt.asked ≡ true → count_of attempt.crossings Finish ≢ 0

-- the fault points of a call that has its entry, before it leaves
pub record HasFinished (crossings : Crossings) : Type 0 where
  pub enters : count_of crossings Enter ≢ 0
  pub gathers : count_of crossings Gather ≢ 0
  pub finishes : count_of crossings Finish ≢ 0

-- it was at a fault point of each kind on its way
pub record IsPastLeave (crossings : Crossings) : Type 0 where
  pub finished : HasFinished crossings
  pub leaves : count_of crossings Leave ≢ 0

-- a call that is outside with its entry was where it leaves
abbrev pub HasPassedAt : Option Flight → Attempt → At → Type 0
HasPassedAt flight attempt at.Outside = FlightHasEntry flight → IsPastLeave attempt.crossings
HasPassedAt flight attempt (at.Inside ticket) = IsPastEnter attempt
HasPassedAt flight attempt (at.Logged ticket) = HasFinished attempt.crossings

abbrev pub HasPassed : Option Flight → Attempt → Type 0
HasPassed flight attempt = HasPassedAt flight attempt attempt.at

-- ---- one event

-- the fault injector was asked where the event comes; a call that is struck with its entry is struck where it leaves
abbrev pub IsAskedFor : Event → Attempt → Type 0
IsAskedFor (event.Gather ticket need) attempt = count_of attempt.crossings Gather ≢ 0
IsAskedFor (event.Finish ticket ready) attempt = count_of attempt.crossings Finish ≢ 0
IsAskedFor (event.Leave ticket) attempt = count_of attempt.crossings Leave ≢ 0
IsAskedFor (event.Fault ticket crossing passed) attempt = is_logged attempt.at ≡ 1 → IsPastLeave passed
IsAskedFor _ attempt = Unit {0}

abbrev pub PassedBy : SightSeat → Attempt → Came → Type 0
PassedBy seat attempt (came.Answered answer) = is_plain answer ≡ true → IsPastLeave attempt.crossings
PassedBy seat attempt came.NoMemory = Unit {0}
PassedBy seat attempt _ = HasPassed seat.flight attempt

-- a call that went in has nothing yet, and was not asked there
abbrev pub EnteredBy : SightSeat → Attempt → Came → Type 0
EnteredBy seat attempt (came.Inside ticket) = (attempt.pages ≡ no_pages) × (attempt.asked ≡ false)
EnteredBy seat attempt came = PassedBy seat attempt came

abbrev pub PassesPoints : Event → SightSeat → SightSeat → Attempt → Attempt → Came → Type 0
PassesPoints event.Enter old new before now came = HasPassed old.flight before → EnteredBy new now came
PassesPoints (event.Fault ticket crossing passed) old new before now came = IsAskedFor (event.Fault ticket crossing passed) before → PassedBy new now came
PassesPoints event old new before now came = IsAskedFor event before → HasPassed old.flight before → PassedBy new now came

-- no fault point on the call's way was counted
pub record KeepsOwn (before now : Crossings) : Type 0 where
  pub caller : now.caller ≡ before.caller
  pub ordinal : now.ordinal ≡ before.ordinal
  pub counts : (kind : Kind) → is_on_way kind ≡ true → count_of now kind ≡ count_of before kind

-- the call goes on, or has a plain reply
abbrev pub IsCalm : Came → Type 0
IsCalm (came.Answered answer) = is_plain answer ≡ true
IsCalm came.NoMemory = ⊥
IsCalm _ = Unit {0}

-- what an event counts: the fault point where the call was struck, and those of a recovery
abbrev pub Crosses : Event → Crossings → Crossings → Came → Type 0
Crosses (event.Fault ticket crossing passed) before now came = now ≡ passed
Crosses event.Recover before now came = IsCalm came → KeepsOwn before now
Crosses _ before now came = now ≡ before

-- what an event does to the fault points that its call passed; `was` and `is` are the seats of its caller
pub record MarksPoints (event : Event) (was is : SightSeat) (before now : Attempt) (came : Came) : Type 0 where
  pub passes : PassesPoints event was is before now came
  pub crosses : Crosses event before.crossings now.crossings came

-- the same by sights of a core
abbrev pub MarksSeen : Event → Sight → Sight → Attempt → Attempt → Came → Type 0
MarksSeen event old new before now came = MarksPoints event (old.seats before.crossings.caller) (new.seats before.crossings.caller) before now came

-- ---- since the call began, when the count of faults was `first`

-- the test holds of the first fault point of a kind, and the call passed one
abbrev pub met_if : (Crossing → Bool) → ℕ → ℕ → Crossings → Kind → ℕ
met_if fires caller ordinal crossings kind = one_if (not (nat_eq (count_of crossings kind) 0) && fires (first_of_kind caller ordinal kind))

-- at how many of the first ones that it passed on its way the test holds
abbrev pub firsts_met : (Crossing → Bool) → ℕ → ℕ → Crossings → ℕ
firsts_met fires caller ordinal crossings =
    met_if fires caller ordinal crossings Enter + met_if fires caller ordinal crossings Gather
    + met_if fires caller ordinal crossings Finish + met_if fires caller ordinal crossings Leave

-- the count rose by one at least for each of them
pub record HasHeard (test : Option (Crossing → Bool)) (caller ordinal first now : ℕ) (crossings : Crossings) : Type 0 where
  pub caller_is : crossings.caller ≡ caller
  pub ordinal_is : crossings.ordinal ≡ ordinal
  pub later : first ≤ now
  pub taken : IfSome test (λ fires. min (first + firsts_met fires caller ordinal crossings) (2 ^ 64 - 1) ≤ now)

pub record IsHeard (test : Option (Crossing → Bool)) (caller ordinal first now : ℕ) (seat : SightSeat) (attempt : Attempt) : Type 0 where
  pub heard : HasHeard test caller ordinal first now attempt.crossings
  pub passed : HasPassed seat.flight attempt

abbrev pub HeardBy : Option (Crossing → Bool) → ℕ → ℕ → ℕ → ℕ → SightSeat → Attempt → Came → Type 0
HeardBy test caller ordinal first now seat attempt (came.Answered answer) = is_plain answer ≡ true → TakesFirsts test caller ordinal first now
HeardBy test caller ordinal first now seat attempt came.NoMemory = Unit {0}
HeardBy test caller ordinal first now seat attempt _ = IsHeard test caller ordinal first now seat attempt

-- a step of a call: `before` and `now` are the counts of faults, `was` and `is` the seats of its caller
abbrev pub Hears : Option (Crossing → Bool) → ℕ → ℕ → SightSeat → SightSeat → Attempt → Attempt → Came → Type 0
Hears test before now was is old new came = (caller ordinal first : ℕ) → IsHeard test caller ordinal first before was old → HeardBy test caller ordinal first now is new came

-- the fault injector was asked at the next fault point of a kind, and the call goes on
abbrev pub HearsAt : Option (Crossing → Bool) → ℕ → ℕ → Crossings → Kind → Type 0
HearsAt test before now crossings kind = (caller ordinal first : ℕ) → HasHeard test caller ordinal first before crossings → HasHeard test caller ordinal first now (counted crossings kind)

-- it was asked there, and the call is struck
abbrev pub HearsFault : Option (Crossing → Bool) → ℕ → ℕ → SightSeat → Attempt → Attempt → Kind → Came → Type 0
HearsFault test before now is old new kind came = (caller ordinal first : ℕ) → HasHeard test caller ordinal first before old.crossings → (is_logged old.at ≡ 1 → IsPastLeave (counted old.crossings kind))
    → HeardBy test caller ordinal first now is new came
