-- A call that met want of memory and is ended without an entry.
use Rattle.std.proofs.Common.{◌≡◌, List, ℕ, ◌<◌, false, refl, ap, sym, subst, ◌∙◌, arith, Option, None, Some, length, get_or, slice_set, get_or-set_same}
use Rattle.std.proofs.Math.ListN.{length-set}
use Rattle.mb_edge.specs.declared.crossings.Crossing.{Crossing}
use Rattle.mb_jobs.specs.declared.jobs.JobCall.{JobCall}
use Rattle.mb_kinds.specs.declared.calls.Call.{Call}
use Rattle.mb_kinds.specs.declared.entries.Flight.{Flight}
use Rattle.mb_run.specs.Served.{IsAtBy, IsMarked, IsServedSoFar, MayGiveUp, MayStep, Nears, Turns, AllUnderWay, calls_of}
use Rattle.mb_run.specs.declared.progress.StepEnd.TheVariants as turn
use Rattle.mb_run.proofs.Going.{IsTurning}
use Rattle.mb_run.proofs.Everybody.{got, put_underway}
use Rattle.mb_run.specs.Sights.{IsOrderlyInSight, IsWaiting, Sight}
use Rattle.mb_run.specs.declared.runner.Runner.{Runner}
use Rattle.std.proofs.Common.{Bool}

pub waits_by : (list made : List Call) (done begun : ℕ) (answered : Bool) (flight : Option Flight) → done < begun → answered ≡ false → IsAtBy list made done begun flight → IsMarked answered flight
    → (found : Flight) × (flight ≡ Some found) × (found.answered ≡ false)
waits_by list made done begun answered None more lacks at marked = absurd (omega (arith, more, at.0))
waits_by list made done begun answered (Some flight) more lacks at marked = (flight, refl, marked ∙ lacks)

-- it was begun, so it is in flight without an entry
pub given_waits : (sight : Sight) (runner : Runner) → MayGiveUp sight runner → runner.done < (sight.seats runner.crossings.caller).begun → IsWaiting (sight.seats runner.crossings.caller)
given_waits sight runner may more =
    waits_by may.list _ runner.done (sight.seats runner.crossings.caller).begun runner.answered (sight.seats runner.crossings.caller).flight more may.lacks may.served.calls may.served.marked

pub may_give_up : (calls : List JobCall) (test other : Option (Crossing → Bool)) (old new : Sight) (before now : Runner) (call : Call) → MayStep calls test old before call → Nears calls other old new before now → now.answered ≡ false → IsOrderlyInSight new → MayGiveUp new now
may_give_up calls test other old new before now call may nears lacks right = record {
  list = calls_of calls before.crossings.caller;
  served = subst (λ n. IsServedSoFar (calls_of calls before.crossings.caller) new n now) (sym nears.same) nears.served;
  within = rw (nears.same, nears.acts.config) may.within;
  lacks = lacks;
  right = right;
}

-- the same of one caller among all
pub turn_gives_up : (calls : List JobCall) (test : Option (Crossing → Bool)) (old new : Sight) (runners : List Runner) (caller : ℕ) (d now e : Runner) → AllUnderWay calls test old runners → caller < length runners
    → Turns calls test old new (get_or runners caller d) now turn.NoMemory → IsOrderlyInSight new → MayGiveUp new (get_or (slice_set runners caller now) caller e)
turn_gives_up calls test old new runners caller d now e underway low turns right =
    let on : AllUnderWay calls test new (slice_set runners caller now) = put_underway calls test old new runners caller d now underway low turns.nears right in
    let size : length (slice_set runners caller now) ≡ length runners = length-set runners caller now in
    let there : caller < length (slice_set runners caller now) = omega (arith, size, low) in
    let served = on.served caller (get_or (slice_set runners caller now) caller e) (got (slice_set runners caller now) caller e there) in
    record {
      list = calls_of calls caller;
      served = subst (λ n. IsServedSoFar (calls_of calls caller) new n (get_or (slice_set runners caller now) caller e)) (sym served.caller_is) served;
      within = omega (arith, served.caller_is, on.callers, there);
      lacks = ap (λ (r : Runner). r.answered) (get_or-set_same runners caller now e low) ∙ turns.goes.1;
      right = right;
    }

-- the same where it was not told what comes next
pub turning_gives_up : (calls : List JobCall) (test : Option (Crossing → Bool)) (old new : Sight) (before now : Runner) (call : Call) → IsTurning calls test old new before now call → now.answered ≡ false → MayGiveUp new now
turning_gives_up calls test old new before now call turning lacks = record {
  list = calls_of calls now.crossings.caller;
  served = turning.may.served;
  within = turning.may.within;
  lacks = lacks;
  right = turning.may.right;
}
