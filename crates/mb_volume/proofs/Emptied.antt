-- A call whose pages are empty as it enters or leaves is under way as it was.
use Rattle.std.proofs.Common.{◌≡◌, ℕ, Bool, true, false, refl, ap, subst, ◌∙◌, Option}
use Rattle.mb_core_spec.specs.Copies.{PagesState, no_pages}
use Rattle.mb_edge.specs.declared.crossings.Crossing.{Crossing}
use Rattle.mb_edge.specs.declared.crossings.Crossings.{Crossings}
use Rattle.mb_kinds.specs.declared.calls.Call.{Call}
use Rattle.mb_kinds.specs.declared.entries.Flight.{Flight}
use Rattle.mb_run.specs.Sights.{SightSeat, Sight}
use Rattle.mb_run.specs.declared.runner.At.{At}
use Rattle.mb_run.specs.declared.runner.At.TheVariants as at
use Rattle.mb_volume.specs.Attempts.{without_pages}
use Rattle.mb_volume.specs.Coming.{ComesOfEvent}
use Rattle.mb_volume.specs.Parts.{MovesPart, Part, part_of}
use Rattle.mb_volume.specs.Passed.{HasPassedAt, MarksPoints}
use Rattle.mb_volume.specs.Underway.{Goes, GrowsAfter, IsOn, IsCallUnderway, MayCome}
use Rattle.mb_volume.specs.declared.attempt.Attempt.{Attempt}
use Rattle.mb_volume.specs.declared.events.Came.{Came}
use Rattle.mb_volume.specs.declared.events.Event.{Event}
use Rattle.mb_volume.specs.declared.events.Event.TheVariants as event

emptied : (call : Call) (test : Option (Crossing → Bool)) (from now : Part) (attempt : Attempt) → IsCallUnderway call test from now attempt → IsCallUnderway call test from now (record attempt { pages = no_pages })
emptied call test from now attempt u = record {
  config = u.config;
  within = u.within;
  most = u.most;
  ordinal = u.ordinal;
  counts = u.counts;
  begun = u.begun;
  stands = u.stands;
  tables = tt;
  struck = u.struck;
  once = u.once;
}

same_crossings : (e : Event) (attempt : Attempt) → (without_pages e attempt).crossings ≡ attempt.crossings
same_crossings event.Enter attempt = refl
same_crossings (event.Gather ticket need) attempt = refl
same_crossings (event.Finish ticket ready) attempt = refl
same_crossings (event.Leave ticket) attempt = refl
same_crossings (event.Fault ticket crossing passed) attempt = refl
same_crossings event.Recover attempt = refl

pub on_emptied : (e : Event) (call : Call) (parts : ℕ → Part) (attempt : Attempt) → IsOn call (parts attempt.crossings.caller) attempt → IsOn call (parts (without_pages e attempt).crossings.caller) (without_pages e attempt)
on_emptied event.Enter call parts attempt on = (on.0, on.1, emptied call on.0 on.1 (parts attempt.crossings.caller) attempt on.2)
on_emptied (event.Gather ticket need) call parts attempt on = on
on_emptied (event.Finish ticket ready) call parts attempt on = on
on_emptied (event.Leave ticket) call parts attempt on = (on.0, on.1, emptied call on.0 on.1 (parts attempt.crossings.caller) attempt on.2)
on_emptied (event.Fault ticket crossing passed) call parts attempt on = on
on_emptied event.Recover call parts attempt on = on

pub may_emptied : (e : Event) (call : Call) (test : Option (Crossing → Bool)) (struck : Option Crossing) (seats : ℕ → SightSeat) (attempt : Attempt) → MayCome call test struck (seats attempt.crossings.caller) attempt e
    → MayCome call test struck (seats (without_pages e attempt).crossings.caller) (without_pages e attempt) e
may_emptied event.Enter call test struck seats attempt may = may
may_emptied (event.Gather ticket need) call test struck seats attempt may = may
may_emptied (event.Finish ticket ready) call test struck seats attempt may = may
may_emptied (event.Leave ticket) call test struck seats attempt may = may
may_emptied (event.Fault ticket crossing passed) call test struck seats attempt may = may
may_emptied event.Recover call test struck seats attempt may = may

-- what the event came to is said of the call with its pages too
goes_emptied : (e : Event) (call : Call) (test : Option (Crossing → Bool)) (old new : ℕ → Part) (attempt now : Attempt) (answer : Came)
    → Goes call test (old (without_pages e attempt).crossings.caller) (new (without_pages e attempt).crossings.caller) (without_pages e attempt) now answer
    → Goes call test (old attempt.crossings.caller) (new attempt.crossings.caller) attempt now answer
goes_emptied event.Enter call test old new attempt now answer goes = λ from u. goes from (emptied call test from (old attempt.crossings.caller) attempt u)
goes_emptied (event.Gather ticket need) call test old new attempt now answer goes = goes
goes_emptied (event.Finish ticket ready) call test old new attempt now answer goes = goes
goes_emptied (event.Leave ticket) call test old new attempt now answer goes = λ from u. goes from (emptied call test from (old attempt.crossings.caller) attempt u)
goes_emptied (event.Fault ticket crossing passed) call test old new attempt now answer goes = goes
goes_emptied event.Recover call test old new attempt now answer goes = goes

pub grows_emptied : (e : Event) (attempt : Attempt) (now : PagesState) → GrowsAfter e (without_pages e attempt).pages now → GrowsAfter e attempt.pages now
grows_emptied event.Enter attempt now grown = tt
grows_emptied (event.Gather ticket need) attempt now grown = grown
grows_emptied (event.Finish ticket ready) attempt now grown = tt
grows_emptied (event.Leave ticket) attempt now grown = tt
grows_emptied (event.Fault ticket crossing passed) attempt now grown = tt
grows_emptied event.Recover attempt now grown = tt

-- the fault points that it passed are as they were
passed_emptied : (flight : Option Flight) (attempt : Attempt) (a : At) → HasPassedAt flight attempt a → HasPassedAt flight (record attempt { pages = no_pages }) a
passed_emptied flight attempt at.Outside passed = passed
passed_emptied flight attempt (at.Inside ticket) passed = record { enters = passed.enters; gathers = λ there. absurd (let both : false ≡ true = there in cc); finishes = passed.finishes }
passed_emptied flight attempt (at.Logged ticket) passed = passed

marks_emptied : (e : Event) (old new : ℕ → SightSeat) (attempt now : Attempt) (answer : Came) → MarksPoints e (old (without_pages e attempt).crossings.caller) (new (without_pages e attempt).crossings.caller) (without_pages e attempt) now answer
    → MarksPoints e (old attempt.crossings.caller) (new attempt.crossings.caller) attempt now answer
marks_emptied event.Enter old new attempt now answer marks = record { passes = λ passed. marks.passes (passed_emptied (old attempt.crossings.caller).flight attempt attempt.at passed); crosses = marks.crosses }
marks_emptied (event.Gather ticket need) old new attempt now answer marks = marks
marks_emptied (event.Finish ticket ready) old new attempt now answer marks = marks
marks_emptied (event.Leave ticket) old new attempt now answer marks = record { passes = λ asked passed. marks.passes asked (passed_emptied (old attempt.crossings.caller).flight attempt attempt.at passed); crosses = marks.crosses }
marks_emptied (event.Fault ticket crossing passed) old new attempt now answer marks = marks
marks_emptied event.Recover old new attempt now answer marks = marks

-- so of the whole event
pub comes_emptied : (e : Event) (call : Call) (test : Option (Crossing → Bool)) (old new : Sight) (attempt now : Attempt) (answer : Came) → ComesOfEvent call test e old new (without_pages e attempt) now answer
    → ComesOfEvent call test e old new attempt now answer
comes_emptied e call test old new attempt now answer comes =
    let caller = ap (λ (crossings : Crossings). crossings.caller) (same_crossings e attempt) in
    record {
      goes = goes_emptied e call test (part_of old) (part_of new) attempt now answer comes.goes;
      marks = marks_emptied e old.seats new.seats attempt now answer comes.marks;
      same = comes.same ∙ caller;
      moves = subst (λ n. MovesPart n old new) caller comes.moves;
    }
