-- A call with a plain reply was struck once at most before it had its entry.
use Rattle.std.proofs.Common.{◌≡◌, ◌≢◌, List, [], ◌∷◌, ◌++◌, ℕ, ◌+◌, ◌<◌, ◌≤◌, Bool, true, false, ◌&&◌, cond, nat_eq, count_by, inl, inr, refl, ap, sym, ◌∙◌, arith}
use Rattle.std.proofs.lemmas.List.Sums.{sum_by-append}
use Rattle.std.specs.List.{AllByRecursion}
use Rattle.mb_edge.specs.declared.crossings.Crossings.{Crossings}
use Rattle.mb_kinds.specs.declared.entries.Entry.{Entry}
use Rattle.mb_kinds.specs.declared.faults.FaultRecord.{FaultRecord}
use Rattle.mb_kinds.specs.declared.replies.Reply.{Reply}
use Rattle.mb_kinds.specs.declared.replies.Reply.TheVariants as reply
use Rattle.mb_core_spec.specs.declared.stages.Stage.{Stage}
use Rattle.mb_core_spec.specs.declared.stages.Stage.TheVariants as stage
use Rattle.mb_run.specs.Events.{IsAnsweredAt, IsUnplain}
use Rattle.mb_run.specs.Recovering.{IsStruckNext, awaits_remount}
use Rattle.mb_core_spec.specs.Faults.{is_device}
use Rattle.mb_run.specs.Runs.{is_of_running, is_plain, strikes_inside}
use Rattle.mb_run.specs.Served.{IsInsideOnce, IsPastOnce}
use Rattle.mb_run.specs.Sights.{one_if}
use Rattle.mb_run.specs.declared.runner.At.{At}
use Rattle.mb_run.specs.declared.runner.At.TheVariants as at
use Rattle.mb_run.proofs.Counting.{same_or_not}
use Rattle.mb_run.proofs.Lists.{all_map, neq}
use Rattle.mb_run.proofs.Twice.{all_inside, counted, is_inside, is_own_kind}

pub one_most : (b : Bool) → one_if b ≤ 1
one_most true = omega arith
one_most false = omega arith

-- ---- records that count for other calls

pub none_counted : (test : FaultRecord → Bool) (more : List FaultRecord) → AllByRecursion (λ (fault : FaultRecord). test fault ≡ false) more → count_by test more ≡ 0
none_counted test [] all = omega arith
none_counted test (fault ∷ more) all =
    let one = counted test fault more false all.0 in
    let rest = none_counted test more all.1 in
    omega (arith, one, rest)

pub strikes_apart : (records more : List FaultRecord) (caller ordinal : ℕ) → AllByRecursion (λ (fault : FaultRecord). is_inside caller ordinal fault ≡ false) more → strikes_inside (records ++ more) caller ordinal ≡ strikes_inside records caller ordinal
strikes_apart records more caller ordinal others =
    let all = all_inside caller ordinal (records ++ more) in
    let was = all_inside caller ordinal records in
    let both = sum_by-append (λ (f : FaultRecord). cond (is_inside caller ordinal f) 1 0) records more in
    let none = none_counted (is_inside caller ordinal) more others in
    omega (arith, all, was, both, none)

no_and : (a b : Bool) → a ≡ false → (a && b) ≡ false
no_and a b is = rw is refl

and_no : (a b : Bool) → b ≡ false → (a && b) ≡ false
and_no true b is = is
and_no false b is = refl

-- a record of another caller
pub others_fault : (caller ordinal : ℕ) (fault : FaultRecord) → fault.caller ≢ caller → is_inside caller ordinal fault ≡ false
others_fault caller ordinal fault apart = no_and (nat_eq fault.caller caller && nat_eq fault.ordinal ordinal) (is_own_kind fault.kind) (no_and (nat_eq fault.caller caller) (nat_eq fault.ordinal ordinal) (neq fault.caller caller apart))

-- a record of another call, or of a kind that does not count
pub one_apart : (caller ordinal : ℕ) (fault : FaultRecord) → (fault.ordinal ≡ ordinal → is_own_kind fault.kind ≡ false) → is_inside caller ordinal fault ≡ false
one_apart caller ordinal fault other = elim (same_or_not fault.ordinal ordinal) [
  | inl same ↦ and_no (nat_eq fault.caller caller && nat_eq fault.ordinal ordinal) (is_own_kind fault.kind) (other same)
  | inr apart ↦ no_and (nat_eq fault.caller caller && nat_eq fault.ordinal ordinal) (is_own_kind fault.kind) (and_no (nat_eq fault.caller caller) (nat_eq fault.ordinal ordinal) (neq fault.ordinal ordinal apart))
]

-- one of a recovery does not count
pub recovery_apart : (before now : Crossings) (old : Stage) (fault : FaultRecord) → IsStruckNext before now old fault → is_own_kind fault.kind ≡ false
recovery_apart before now old fault next = elim next.point [ inl remount ↦ ap is_own_kind remount.1 | inr replay ↦ ap is_own_kind replay.1 ]

pub unplain_is : (answer : Reply) → IsUnplain answer → is_plain answer ≡ false
unplain_is (reply.Restart first second) is = refl
unplain_is reply.Device is = refl
unplain_is (reply.Failed faults) is = refl
unplain_is (reply.Num number) is = absurd is
unplain_is (reply.Got bytes) is = absurd is
unplain_is (reply.Info stat) is = absurd is
unplain_is (reply.Refused error) is = absurd is

pub restart_runs : (now : Stage) (answer : Reply) → IsUnplain answer → IsAnsweredAt now answer → is_of_running answer ≡ true → now ≡ stage.Running
restart_runs now (reply.Restart first second) is runs of_it = runs
restart_runs now reply.Device is runs of_it = absurd (let no : false ≡ true = of_it in cc)
restart_runs now (reply.Failed faults) is runs of_it = absurd (let no : false ≡ true = of_it in cc)
restart_runs now (reply.Num number) is runs of_it = absurd is
restart_runs now (reply.Got bytes) is runs of_it = absurd is
restart_runs now (reply.Info stat) is runs of_it = absurd is
restart_runs now (reply.Refused error) is runs of_it = absurd is

-- what the file system is started anew for goes on behind the answer where the disk ended the call alone
pub awaits_device : (now : Stage) (answer : Reply) → IsUnplain answer → IsAnsweredAt now answer → awaits_remount now ≡ true → is_device answer ≡ true
awaits_device now (reply.Restart first second) is told awaits = absurd (let no : false ≡ true = ap awaits_remount (sym told) ∙ awaits in cc)
awaits_device now (reply.Failed faults) is told awaits = absurd (let no : false ≡ true = ap awaits_remount (sym told) ∙ awaits in cc)
awaits_device now reply.Device is told awaits = absurd told
awaits_device now (reply.Num number) is told awaits = absurd is
awaits_device now (reply.Got bytes) is told awaits = absurd is
awaits_device now (reply.Info stat) is told awaits = absurd is
awaits_device now (reply.Refused error) is told awaits = absurd is

-- ---- entries so far

module _ (was now : List FaultRecord) (before after : Crossings) (same : after.caller ≡ before.caller) where
  pub past_moves : (had has : Bool) (history : List Entry) → before.ordinal + one_if had ≤ after.ordinal + one_if has
      → ((entry : Entry) → entry.ordinal < before.ordinal + one_if had → entry.caller ≡ before.caller → strikes_inside now entry.caller entry.ordinal ≡ strikes_inside was entry.caller entry.ordinal)
      → AllByRecursion (IsPastOnce was before had) history → AllByRecursion (IsPastOnce now after has) history
  past_moves had has history later strikes all = all_map (IsPastOnce was before had) (IsPastOnce now after has) history (λ entry is mine. (
      let past = is (mine ∙ same) in
      let low = past.0 in (
        omega (arith, low, later),
        λ plain. (let few = past.1 plain in let kept = strikes entry low (mine ∙ same) in omega (arith, few, kept)),
      ))) all

  pub inside_moves : (a : At) → after.ordinal ≡ before.ordinal → strikes_inside now before.caller before.ordinal ≡ strikes_inside was before.caller before.ordinal → IsInsideOnce was before a → IsInsideOnce now after a
  inside_moves at.Outside ordinal kept is = tt
  inside_moves (at.Inside ticket) ordinal kept is = rw (same, ordinal) (omega (arith, kept, is))
  inside_moves (at.Logged ticket) ordinal kept is = tt

-- ---- all callers

-- what holds of each caller's entries holds of all
pub each_caller : (Fact : Entry → Type 0) (history : List Entry) (callers : ℕ) → ((caller : ℕ) → caller < callers → AllByRecursion (λ (entry : Entry). entry.caller ≡ caller → Fact entry) history) → AllByRecursion (λ (entry : Entry). entry.caller < callers → Fact entry) history
each_caller Fact [] callers each = tt
each_caller Fact (entry ∷ history) callers each = (λ low. (each entry.caller low).0 refl, each_caller Fact history callers (λ caller low. (each caller low).1))
