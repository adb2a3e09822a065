-- A caller that acts alone, as in list order: at which fault points its call was, and what the fault records tell of them.
use Rattle.std.specs.Prelude.{ℕ, ◌+◌, ◌<◌, ◌≤◌, ◌≡◌, ◌≢◌, ◌⊎◌, List, [], ◌∷◌, length, slice_get, slice_index, Bool, true, false, Option, Some}
use Rattle.std.specs.List.{AllByRecursion}
use Rattle.mb_core_spec.specs.Copies.{PagesState, no_pages}
use Rattle.mb_core_spec.specs.declared.stages.Stage.{Stage}
use Rattle.mb_core_spec.specs.declared.stages.Stage.TheVariants as stage
use Rattle.mb_edge.specs.Crossings.{place_of}
use Rattle.mb_edge.specs.declared.crossings.Crossing.{Crossing}
use Rattle.mb_edge.specs.declared.crossings.Crossings.{Crossings}
use Rattle.mb_kinds.specs.declared.entries.Entry.{Entry}
use Rattle.mb_kinds.specs.declared.faults.FaultRecord.{FaultRecord}
use Rattle.mb_kinds.specs.declared.faults.Kind.{Kind}
use Rattle.mb_kinds.specs.declared.faults.Kind.TheVariants.{Enter, Gather, Finish, Leave, Remount}
use Rattle.mb_kinds.specs.declared.faults.Ticket.{Ticket}
use Rattle.mb_run.specs.Pages.{has}
use Rattle.mb_run.specs.Recovering.{awaits_remount}
use Rattle.mb_run.specs.Runs.{AreNear, EntryTakesFaults, TakesUpTo, has_device, is_owed, recoveries_of, strikes_inside, strikes_of}
use Rattle.mb_run.specs.Sights.{Sight, one_if}
use Rattle.mb_run.specs.declared.progress.Went.{Went}
use Rattle.mb_run.specs.declared.progress.Went.TheVariants as went
use Rattle.mb_run.specs.declared.runner.At.{At}
use Rattle.mb_run.specs.declared.runner.At.TheVariants as at
use Rattle.mb_run.specs.declared.runner.Runner.{Runner}

-- how often a call was at fault points of a kind
abbrev pub count_of : Crossings → Kind → ℕ
count_of crossings kind = slice_index crossings.counts (place_of kind)

-- ---- where a call stands

abbrev pub is_in : At → ℕ
is_in at.Outside = 0
is_in _ = 1

abbrev pub is_logged : At → ℕ
is_logged (at.Logged ticket) = 1
is_logged _ = 0

-- it entered once more than it was struck before it had its entry, where it is inside or has that; and finished once more than it
-- was struck there, where it is about to have it
abbrev pub has_entered : Bool → At → ℕ
has_entered true stand = 1
has_entered false stand = is_in stand

abbrev pub has_finished : Bool → At → ℕ
has_finished true stand = 1
has_finished false stand = is_logged stand

-- its ticket is of the present incarnation, and what it gathered is as it is seen; the volume runs
abbrev pub IsUpToDate : Sight → ℕ → At → Type 0
IsUpToDate sight caller at.Outside = Unit {0}
IsUpToDate sight caller (at.Inside ticket) = (ticket.incarnation ≡ sight.incarnation) × (sight.fresh caller ≡ true)
IsUpToDate sight caller (at.Logged ticket) = (ticket.incarnation ≡ sight.incarnation) × (sight.stage ≡ stage.Running)

-- how many fault points a call passed at least: it entered once for each fault before it had its entry, and gathered and finished
-- once for each that came then or later; so many times more since the last one. Two such faults end it
pub record HasPassedAtLeast (records : List FaultRecord) (crossings : Crossings) (entered gathered finished : ℕ) : Type 0 where
  pub twice : strikes_inside records crossings.caller crossings.ordinal + entered ≤ 2
  pub enters : strikes_inside records crossings.caller crossings.ordinal + entered ≤ count_of crossings Enter
  pub gathers : strikes_of records crossings.caller crossings.ordinal Gather + strikes_of records crossings.caller crossings.ordinal Finish + gathered ≤ count_of crossings Gather
  pub finishes : strikes_of records crossings.caller crossings.ordinal Finish + finished ≤ count_of crossings Finish

-- which fault points it passed: a call inside gathered where it has the tables, one that has its entry finished, and one that is
-- outside with its entry was struck where it left
abbrev pub HasPassedPoints : List FaultRecord → Crossings → PagesState → Bool → At → Type 0
HasPassedPoints records crossings pages false at.Outside = HasPassedAtLeast records crossings 0 0 0 × (count_of crossings Leave ≡ 0)
HasPassedPoints records crossings pages true at.Outside = HasPassedAtLeast records crossings 1 1 1 × (count_of crossings Leave ≢ 0)
HasPassedPoints records crossings pages answered (at.Inside ticket) = HasPassedAtLeast records crossings 1 (one_if (has pages 0)) 0 × (count_of crossings Leave ≡ 0)
HasPassedPoints records crossings pages answered (at.Logged ticket) = HasPassedAtLeast records crossings 1 1 1 × (count_of crossings Leave ≡ 0)

-- the file system was started anew after each fault but the last one, and after that too, where the call has its entry; else it is
-- to be started anew, or the volume failed
abbrev pub IsRestarted : List FaultRecord → Crossings → Stage → Bool → Type 0
IsRestarted records crossings now answered =
    (recoveries_of records crossings.caller crossings.ordinal ≤ count_of crossings Remount)
    ⊎ ((answered ≡ false) × (recoveries_of records crossings.caller crossings.ordinal ≤ count_of crossings Remount + 1) × ((awaits_remount now ≡ true) ⊎ (now ≡ stage.Failed)))

-- an entry is the call's own, or of an earlier call, which took its faults
abbrev pub IsPast : Option (Crossing → Bool) → List FaultRecord → Crossings → Bool → Entry → Type 0
IsPast test records crossings answered entry =
    ((entry.caller ≡ crossings.caller) × (entry.ordinal ≡ crossings.ordinal) × (answered ≡ true))
    ⊎ ((entry.caller ≡ crossings.caller → entry.ordinal < crossings.ordinal) × EntryTakesFaults test records entry)

-- of the records, and whether the disk ended a call
pub record AreTallied (records : List FaultRecord) (history : List Entry) : Type 0 where
  pub near : AreNear (has_device history) [] records
  pub positive : AllByRecursion (λ (fault : FaultRecord). 1 ≤ fault.nth) records

-- a call under way, which stands there or is on its way there
pub record IsTallied (test : Option (Crossing → Bool)) (sight : Sight) (runner : Runner) (stand : At) : Type 0 where
  pub asked : runner.asked ≡ false
  pub present : IsUpToDate sight runner.crossings.caller stand
  pub records : AreTallied sight.records sight.history
  pub enters : count_of runner.crossings Enter ≤ strikes_inside sight.records runner.crossings.caller runner.crossings.ordinal + has_entered runner.answered stand
  pub finishes : count_of runner.crossings Finish ≤ strikes_of sight.records runner.crossings.caller runner.crossings.ordinal Finish + has_finished runner.answered stand
  pub remounts : count_of runner.crossings Remount + one_if (awaits_remount sight.stage) ≤ length sight.records
  -- it runs its own recoveries, and one that was in progress before
  pub own_remounts : runner.answered ≡ false → count_of runner.crossings Remount + one_if (awaits_remount sight.stage)
      ≤ recoveries_of sight.records runner.crossings.caller runner.crossings.ordinal + one_if (is_owed sight.records (has_device sight.history))
  pub owed : runner.answered ≡ true → awaits_remount sight.stage ≡ true → is_owed sight.records (has_device sight.history) ≡ true
  pub passed : HasPassedPoints sight.records runner.crossings runner.pages runner.answered stand
  pub taken : (kind : Kind) → TakesUpTo test sight.records runner.crossings.caller runner.crossings.ordinal kind (count_of runner.crossings kind)
  pub restarted : IsRestarted sight.records runner.crossings sight.stage runner.answered
  pub entries : AllByRecursion (IsPast test sight.records runner.crossings runner.answered) sight.history

-- ---- between two calls

-- a caller before a call, whose entries are of earlier ones
pub record IsRested (history : List Entry) (runner : Runner) : Type 0 where
  pub asked : runner.asked ≡ false
  pub outside : runner.at ≡ at.Outside
  pub lacks : runner.answered ≡ false
  pub counts : runner.crossings.counts ≡ 0 ∷ 0 ∷ 0 ∷ 0 ∷ 0 ∷ 0 ∷ []
  pub earlier : AllByRecursion (λ (entry : Entry). entry.caller ≡ runner.crossings.caller → entry.ordinal < runner.crossings.ordinal) history

-- every call that has its entry took its faults
pub record HasTallied (test : Option (Crossing → Bool)) (sight : Sight) : Type 0 where
  pub records : AreTallied sight.records sight.history
  pub remounts : one_if (awaits_remount sight.stage) ≤ length sight.records
  pub owed : awaits_remount sight.stage ≡ true → is_owed sight.records (has_device sight.history) ≡ true
  pub taken : AllByRecursion (EntryTakesFaults test sight.records) sight.history

pub record AreRested (test : Option (Crossing → Bool)) (sight : Sight) (runners : List Runner) : Type 0 where
  pub tallied : HasTallied test sight
  pub rested : (caller : ℕ) (runner : Runner) → slice_get runners caller ≡ Some runner → IsRested sight.history runner

-- ---- steps

-- a call that entered just now, and was not asked yet
pub record IsEntering (test : Option (Crossing → Bool)) (sight : Sight) (runner : Runner) (ticket : Ticket) : Type 0 where
  pub tallied : IsTallied test sight runner at.Outside
  pub present : ticket.incarnation ≡ sight.incarnation
  pub fresh : sight.fresh runner.crossings.caller ≡ true
  pub lacks : runner.answered ≡ false
  pub empty : runner.pages ≡ no_pages
  pub once : strikes_inside sight.records runner.crossings.caller runner.crossings.ordinal ≤ 1

-- a call that was asked where it finishes
pub record IsFinishing (test : Option (Crossing → Bool)) (sight : Sight) (runner : Runner) (ticket : Ticket) : Type 0 where
  pub tallied : IsTallied test sight runner (at.Logged ticket)
  pub fresh : sight.fresh runner.crossings.caller ≡ true

abbrev pub IsBetween : Option (Crossing → Bool) → Sight → Runner → Type 0
IsBetween test sight runner = HasTallied test sight × IsRested sight.history runner

-- what a step leaves of that
abbrev pub TalliedBy : Option (Crossing → Bool) → Sight → Runner → Went → Type 0
TalliedBy test sight now went.Ended = IsBetween test sight now
TalliedBy test sight now went.On = IsTallied test sight now now.at
TalliedBy test sight now went.Back = IsTallied test sight now now.at
TalliedBy test sight now went.Shut = IsTallied test sight now now.at
TalliedBy test sight now _ = Unit {0}

abbrev pub Tallies : Option (Crossing → Bool) → Sight → Sight → Runner → Runner → Went → Type 0
Tallies test old new before now came = IsTallied test old before before.at → TalliedBy test new now came
