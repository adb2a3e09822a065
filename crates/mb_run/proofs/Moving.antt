-- Steps of one caller as an order has them.
use Rattle.std.proofs.Common.{◌≡◌, ◌≢◌, List, ℕ, ◌+◌, ◌<◌, ◌≤◌, Bool, true, false, inl, inr, refl, ap, sym, subst, ◌∙◌, arith, Option, None, Some, length, get_or, slice_get, slice_set}
use Rattle.mb_edge.specs.declared.crossings.Crossing.{Crossing}
use Rattle.mb_jobs.specs.declared.jobs.JobCall.{JobCall}
use Rattle.mb_kinds.specs.declared.calls.Call.{Call}
use Rattle.mb_run.specs.Orders.{AnswersGrow, IsWhole, MayLook, MayLookAt, Moved, MovesCall, done_at, done_by}
use Rattle.mb_run.specs.Served.{Did, IsStanding, MayStep, AllUnderWay}
use Rattle.mb_run.specs.Sights.{IsOrderlyInSight, Sight}
use Rattle.mb_run.specs.declared.progress.Went.{Went}
use Rattle.mb_run.specs.declared.progress.Went.TheVariants as went
use Rattle.mb_run.specs.declared.runner.At.{At}
use Rattle.mb_run.specs.declared.runner.At.TheVariants as at
use Rattle.mb_run.specs.declared.runner.Runner.{Runner}
use Rattle.mb_run.proofs.Balance.{marked_here}
use Rattle.mb_run.proofs.Counting.{same_or_not}
use Rattle.mb_run.proofs.Everybody.{got, put_here, put_there, put_underway}
use Rattle.mb_run.proofs.Firsts.{firsts_same, firsts_then}
use Rattle.mb_run.proofs.Going.{IsTurning, nears_then}
use Rattle.mb_run.proofs.Taking.{takes_acts, takes_same, takes_then}
use Rattle.mb_run.proofs.Timely.{timely_refl, timely_then}
use Rattle.mb_run.proofs.Trails.{lengthens_same, lengthens_then}

-- ---- before a step

look_at : (calls : List JobCall) (test : Option (Crossing → Bool)) (sight : Sight) (runner : Runner) (call : Call) → MayStep calls test sight runner call → (a : At) → IsStanding sight runner.crossings.caller runner.pages a → MayLookAt sight runner a
look_at calls test sight runner call may at.Outside stands = tt
look_at calls test sight runner call may (at.Logged ticket) stands = tt
look_at calls test sight runner call may (at.Inside ticket) stands = (
  subst (λ n. n < sight.config.callers) (sym stands.1.mine) may.within,
  stands.1.tables,
  marked_here runner.answered (sight.seats runner.crossings.caller).flight stands.0.flight stands.0.here stands.0.answered may.served.marked,
)

pub may_look : (calls : List JobCall) (test : Option (Crossing → Bool)) (sight : Sight) (runner : Runner) (call : Call) → MayStep calls test sight runner call → MayLook sight runner
may_look calls test sight runner call may = look_at calls test sight runner call may runner.at may.served.stands

-- ---- after it

pub did_move : (calls : List JobCall) (test : Option (Crossing → Bool)) (old new : Sight) (before now : Runner) (came : Went) → Did calls test old new before now came → MovesCall calls test old new before now
did_move calls test old new before now went.Ended did = record { nears = did.nears; done = inr did.goes.0 }
did_move calls test old new before now went.On did = record { nears = did.nears; done = inl did.goes.0 }
did_move calls test old new before now went.Back did = record { nears = did.nears; done = inl did.goes.0 }
did_move calls test old new before now went.Shut did = record { nears = did.nears; done = inl did.goes.0 }
did_move calls test old new before now (went.Busy holder) did = record { nears = did.nears; done = inl did.goes.0 }
did_move calls test old new before now went.NoMemory did = record { nears = did.nears; done = inl did.goes.0 }

pub turned_move : (calls : List JobCall) (test : Option (Crossing → Bool)) (old mid new : Sight) (before m now : Runner) (call : Call) (came : Went) → IsTurning calls test old mid before m call → Did calls test mid new m now came → MovesCall calls test old new before now
turned_move calls test old mid new before m now call came turning did =
    let moves = did_move calls test mid new m now came did in
    record {
      nears = nears_then calls test old mid new before m now turning.nears moves.nears;
      done = elim moves.done [ inl same ↦ inl (same ∙ turning.done) | inr more ↦ inr (more ∙ ap (λ n. n + 1) turning.done) ];
    }

pub stopped_move : (calls : List JobCall) (test : Option (Crossing → Bool)) (old new : Sight) (before now : Runner) (call : Call) → IsTurning calls test old new before now call → MovesCall calls test old new before now
stopped_move calls test old new before now call turning = record { nears = turning.nears; done = inl turning.done }

-- ---- all callers

pub grows_same : (runners : List Runner) → AnswersGrow runners runners
grows_same runners caller = omega arith

pub grows_then : (a b d : List Runner) → AnswersGrow a b → AnswersGrow b d → AnswersGrow a d
grows_then a b d one two caller = omega (arith, one caller, two caller)

grows_from : (was : Option Runner) (runners : List Runner) (caller other : ℕ) (now : Runner) → slice_get runners other ≡ was → other ≢ caller → done_by was ≤ done_at (slice_set runners caller now) other
grows_from None runners caller other now is apart = omega arith
grows_from (Some found) runners caller other now is apart = let there = ap done_by (put_there runners caller other now found apart is) in omega (arith, there)

pub grows_put : (runners : List Runner) (caller : ℕ) (d now : Runner) → caller < length runners → (get_or runners caller d).done ≤ now.done → AnswersGrow runners (slice_set runners caller now)
grows_put runners caller d now low more other = elim (same_or_not other caller) [
  | inl same ↦ (let was = ap done_by (ap (slice_get runners) same ∙ got runners caller d low) in
      let is = ap done_by (ap (slice_get (slice_set runners caller now)) same ∙ put_here runners caller now low) in omega (arith, was, is, more))
  | inr apart ↦ grows_from (slice_get runners other) runners caller other now refl apart
]

pub moved_whole : (calls : List JobCall) (test : Option (Crossing → Bool)) (old new : Sight) (runners : List Runner) (caller : ℕ) (d now : Runner) → AllUnderWay calls test old runners → caller < length runners
    → MovesCall calls test old new (get_or runners caller d) now → IsOrderlyInSight new → IsWhole calls test 0 old new runners (slice_set runners caller now)
moved_whole calls test old new runners caller d now underway low moves right = record {
  underway = put_underway calls test old new runners caller d now underway low moves.nears right;
  grows = grows_put runners caller d now low (elim moves.done [ inl same ↦ (omega (arith, same)) | inr more ↦ (omega (arith, more)) ]);
  balanced = moves.nears.balanced;
  config = moves.nears.acts.config;
  firsts = moves.nears.acts.firsts;
  later = record { entries = moves.nears.acts.entries; history = moves.nears.acts.grown; trail = moves.nears.acts.trail };
  seals = moves.nears.seals;
  takes = takes_acts (get_or runners caller d).crossings.caller old new moves.nears.acts;
}

pub whole_same : (calls : List JobCall) (test : Option (Crossing → Bool)) (sight : Sight) (runners : List Runner) → AllUnderWay calls test sight runners → IsWhole calls test 0 sight sight runners runners
whole_same calls test sight runners underway = record { underway = underway; grows = grows_same runners; balanced = λ even. even; config = refl; firsts = firsts_same sight; later = lengthens_same sight; seals = timely_refl sight; takes = takes_same sight }

pub whole_then : (calls : List JobCall) (test : Option (Crossing → Bool)) (m n : ℕ) (a b d : Sight) (r s t : List Runner) → IsWhole calls test m a b r s → IsWhole calls test n b d s t → IsWhole calls test (m + n) a d r t
whole_then calls test m n a b d r s t one two = record {
  underway = two.underway;
  grows = grows_then r s t one.grows two.grows;
  balanced = λ even. two.balanced (one.balanced even);
  config = two.config ∙ one.config;
  firsts = firsts_then a b d one.config one.firsts two.firsts;
  later = lengthens_then a b d one.later two.later;
  seals = timely_then a b d m n one.seals two.seals;
  takes = takes_then a b d m n one.takes two.takes;
}

no_yes : false ≡ true → ⊥
no_yes same = cc

pub moved_yes : (calls : List JobCall) (test : Option (Crossing → Bool)) (old new : Sight) (before now : Runner) (result : Bool) → Moved calls test old new before now result → result ≡ true → MovesCall calls test old new before now
moved_yes calls test old new before now true moved so = moved
moved_yes calls test old new before now false moved so = absurd (no_yes so)
