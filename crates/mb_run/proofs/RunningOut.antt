-- The calls that an order left, run to their ends in the order of their indices.
use Rattle.std.proofs.Common.{◌≡◌, List, [], ◌∷◌, ℕ, zero, suc, ◌+◌, ◌<◌, ◌≤◌, Bool, inl, inr, ap, sym, subst, ◌∙◌, arith, Option, None, Some, length, get_or, slice_get, slice_set}
use Rattle.mb_edge.specs.declared.crossings.Crossing.{Crossing}
use Rattle.mb_jobs.specs.declared.jobs.JobCall.{JobCall}
use Rattle.mb_kinds.specs.declared.calls.Call.{Call}
use Rattle.mb_run.specs.Orders.{AnswersGrow, AnswersOneMore, MovesCall, done_by}
use Rattle.mb_run.specs.Served.{Did, HasRun, RunsRecovery, Turns, calls_of, work}
use Rattle.mb_run.specs.Sights.{Sight}
use Rattle.mb_run.specs.declared.progress.StepEnd.TheVariants as turn
use Rattle.mb_run.specs.declared.progress.Went.TheVariants as went
use Rattle.mb_run.specs.declared.runner.Runner.{Runner}
use Rattle.mb_run.proofs.Everybody.{got, put_here}
use Rattle.mb_run.proofs.Going.{nears_then}

-- ---- turns of a caller

pub ended_moves : (calls : List JobCall) (test : Option (Crossing → Bool)) (old new : Sight) (before now : Runner) → Turns calls test old new before now turn.Ended → MovesCall calls test old new before now
ended_moves calls test old new before now turns = record { nears = turns.nears; done = inr turns.goes.0 }

pub again_moves : (calls : List JobCall) (test : Option (Crossing → Bool)) (old new : Sight) (before now : Runner) → Turns calls test old new before now turn.Again → MovesCall calls test old new before now
again_moves calls test old new before now turns = record { nears = turns.nears; done = inl turns.goes.0 }

pub busy_moves : (calls : List JobCall) (test : Option (Crossing → Bool)) (old new : Sight) (before now : Runner) (holder : ℕ) → Turns calls test old new before now (turn.Busy holder) → MovesCall calls test old new before now
busy_moves calls test old new before now holder turns = record { nears = turns.nears; done = inl turns.goes.0 }

pub ran_moves : (calls : List JobCall) (test : Option (Crossing → Bool)) (old new : Sight) (before now : Runner) → HasRun calls test old new before now → MovesCall calls test old new before now
ran_moves calls test old new before now ran = record { nears = ran.nears; done = inr ran.done }

pub ended_answered : (calls : List JobCall) (test : Option (Crossing → Bool)) (old new : Sight) (first runners : List Runner) (caller : ℕ) (d now : Runner) → AnswersGrow first runners → caller < length runners
    → Turns calls test old new (get_or runners caller d) now turn.Ended → AnswersOneMore calls caller first (slice_set runners caller now)
ended_answered calls test old new first runners caller d now grows low turns =
    let was = ap done_by (got runners caller d low) in
    let is = ap done_by (put_here runners caller now low) in
    inl (omega (arith, was, is, grows caller, turns.goes.0))

no_call : (call : Call) → Some call ≡ None → ⊥
no_call call same = cc

pub past_end : (xs : List Call) (i : ℕ) → slice_get xs i ≡ None → length xs ≤ i
past_end [] i none = omega arith
past_end (x ∷ xs) zero none = absurd (no_call x none)
past_end (x ∷ xs) (suc i) none = let less = past_end xs i none in omega (arith, less)

pub none_answered : (calls : List JobCall) (first runners : List Runner) (caller : ℕ) (x : Runner) → caller < length runners → slice_get (calls_of calls caller) (get_or runners caller x).done ≡ None → AnswersOneMore calls caller first runners
none_answered calls first runners caller x low none =
    let is = ap done_by (got runners caller x low) in
    let past = past_end (calls_of calls caller) (get_or runners caller x).done none in
    inr (omega (arith, is, past))

-- ---- a turn with the recovery for which the call waited

pub shut_ended : (calls : List JobCall) (test : Option (Crossing → Bool)) (old mid new : Sight) (before m now : Runner) → Did calls test old mid before m went.Shut → RunsRecovery calls test mid new m now went.Ended → Turns calls test old new before now turn.Ended
shut_ended calls test old mid new before m now did recovers = record {
  nears = nears_then calls test old mid new before m now did.nears recovers.nears;
  goes = (recovers.goes.0 ∙ ap (λ n. n + 1) did.goes.0, ap (λ n. (new.seats n).flight) (sym did.nears.same) ∙ recovers.goes.1);
}

pub shut_stopped : (calls : List JobCall) (test : Option (Crossing → Bool)) (old mid new : Sight) (before m now : Runner) → Did calls test old mid before m went.Shut → RunsRecovery calls test mid new m now went.NoMemory → Turns calls test old new before now turn.NoMemory
shut_stopped calls test old mid new before m now did recovers = record {
  nears = nears_then calls test old mid new before m now did.nears recovers.nears;
  goes = (recovers.goes.0 ∙ did.goes.0, recovers.goes.1);
}

pub shut_again : (calls : List JobCall) (test : Option (Crossing → Bool)) (old mid new : Sight) (before m now : Runner) → Did calls test old mid before m went.Shut → RunsRecovery calls test mid new m now went.Back → Turns calls test old new before now turn.Again
shut_again calls test old mid new before m now did recovers =
    let less : work new before.crossings.caller now < work mid before.crossings.caller m = subst (λ n. work new n now < work mid n m) did.nears.same recovers.goes.1 in
    record {
      nears = nears_then calls test old mid new before m now did.nears recovers.nears;
      goes = (recovers.goes.0 ∙ did.goes.0, omega (arith, less, did.goes.1));
    }
