-- What a core in order says of a caller, and what the caller of a call is told.
use Rattle.std.proofs.Common.{◌≡◌, List, [], ◌∷◌, ◌++◌, ℕ, ◌+◌, ◌≤◌, Bool, true, false, cond, nat_eq, length, refl, ap, subst, ◌∙◌, arith, Option}
use Rattle.std.proofs.lemmas.Bool.{eq-eqb, eqb-true}
use Rattle.std.proofs.lemmas.List.Elements.{filter-append}
use Rattle.std.specs.List.{AllByRecursion, filter}
use Rattle.mb_core_spec.specs.Faults.{IsOwn, Says}
use Rattle.mb_core_spec.specs.Flights.{runs}
use Rattle.mb_core_spec.specs.Right.{Right}
use Rattle.mb_core_spec.specs.State.{CoreState, records_of}
use Rattle.mb_core_spec.specs.declared.stages.Stage.{Stage}
use Rattle.mb_core_spec.specs.declared.stages.Stage.TheVariants as stage
use Rattle.mb_edge.specs.declared.crossings.Crossing.{Crossing}
use Rattle.mb_kinds.specs.Image.{Image}
use Rattle.mb_kinds.specs.declared.calls.Call.{Call}
use Rattle.mb_kinds.specs.declared.entries.Entry.{Entry}
use Rattle.mb_kinds.specs.declared.faults.FaultRecord.{FaultRecord}
use Rattle.mb_kinds.specs.declared.faults.Kind.{Kind}
use Rattle.mb_kinds.specs.declared.faults.Kind.TheVariants as kind
use Rattle.mb_kinds.specs.declared.replies.Reply.{Reply}
use Rattle.mb_kinds.specs.declared.replies.Reply.TheVariants as reply
use Rattle.mb_run.proofs.Lists.{all_map, neq}
use Rattle.mb_run.specs.CoreSight.{sight_of}
use Rattle.mb_run.specs.Sights.{Limits}
use Rattle.mb_volume.specs.Called.{AreOfFirst, IsAnsweredWith, SaysOfFaults, SaysOfLimit, is_own, own_faults}
use Rattle.mb_volume.specs.Parts.{Part, part_of}
use Rattle.mb_volume.specs.Underway.{Brings, Comes, HasItsAnswer, IsTold, SaysOfTwice}
use Rattle.mb_volume.specs.declared.attempt.Attempt.{Attempt}
use Rattle.mb_volume.specs.declared.events.Came.{Came}
use Rattle.mb_volume.specs.declared.events.Came.TheVariants as came
use Rattle.mb_volume.proofs.Once.{once_more}
use Rattle.mb_volume.proofs.Pairs.{HasTwo, two_at, two_kept, two_long}
use Rattle.mb_volume.proofs.Replies.{all_filter, all_last, own_rises, reply_of}

-- ---- a core in order

own_kind : (k : Kind) → IsOwn k → is_own k ≡ true
own_kind kind.Enter is = refl
own_kind kind.Gather is = refl
own_kind kind.Finish is = refl
own_kind kind.Leave is = absurd is
own_kind kind.Remount is = absurd is
own_kind kind.Replay is = absurd is

abbrev IsOwnOf : ℕ → ℕ → FaultRecord → Type 0
IsOwnOf caller ordinal fault = (fault.caller ≡ caller) × (fault.ordinal ≡ ordinal) × IsOwn fault.kind

says_twice : (records : List FaultRecord) (limit : ℕ) (now : Stage) (caller : ℕ) (entry : Entry) → entry.caller ≡ caller → (answer : Reply) → Says records limit now entry.caller entry.ordinal answer → SaysOfTwice entry.ordinal (records_of records caller) answer
says_twice records limit now caller entry mine (reply.Num n) says = tt
says_twice records limit now caller entry mine (reply.Got bytes) says = tt
says_twice records limit now caller entry mine (reply.Info stat) says = tt
says_twice records limit now caller entry mine (reply.Refused e) says = tt
says_twice records limit now caller entry mine reply.Device says = tt
says_twice records limit now caller entry mine (reply.Failed faults) says = tt
says_twice records limit now caller entry mine (reply.Restart first second) says =
    let P : FaultRecord → Type 0 = IsOwnOf caller entry.ordinal in
    let two : HasTwo P records =
    two_at P records says.one.place says.other.place says.one.fault says.other.fault (omega (arith, says.rising, says.one.counted, says.other.counted)) says.one.at says.other.at
    (says.one.caller_is ∙ mine, says.one.ordinal_is, says.one.own) (says.other.caller_is ∙ mine, says.other.ordinal_is, says.other.own) in
    let its : HasTwo P (records_of records caller) = two_kept P (λ (r : FaultRecord). nat_eq r.caller caller) records (λ r is. eq-eqb r.caller caller is.0) two in
    let calls : HasTwo P (filter (λ (r : FaultRecord). nat_eq r.ordinal entry.ordinal) (records_of records caller)) = two_kept P (λ (r : FaultRecord). nat_eq r.ordinal entry.ordinal) (records_of records caller) (λ r is. eq-eqb r.ordinal entry.ordinal is.1) its in
    let owns = two_kept P (λ (r : FaultRecord). is_own r.kind) (filter (λ (r : FaultRecord). nat_eq r.ordinal entry.ordinal) (records_of records caller)) (λ r is. own_kind r.kind is.2) calls in
    two_long P (own_faults (filter (λ (r : FaultRecord). nat_eq r.ordinal entry.ordinal) (records_of records caller))) owns

says_limit : (records : List FaultRecord) (limit : ℕ) (now : Stage) (caller ordinal : ℕ) (answer : Reply) → Says records limit now caller ordinal answer → SaysOfLimit limit answer
says_limit records limit now caller ordinal (reply.Num n) says = tt
says_limit records limit now caller ordinal (reply.Got bytes) says = tt
says_limit records limit now caller ordinal (reply.Info stat) says = tt
says_limit records limit now caller ordinal (reply.Refused e) says = tt
says_limit records limit now caller ordinal reply.Device says = tt
says_limit records limit now caller ordinal (reply.Failed faults) says = says.0
says_limit records limit now caller ordinal (reply.Restart first second) says = tt

running_is : (now : Stage) → runs now ≡ true → now ≡ stage.Running
running_is stage.Running is = refl
running_is stage.Struck is = absurd (let wrong : false ≡ true = is in cc)
running_is stage.Again is = absurd (let wrong : false ≡ true = is in cc)
running_is stage.Dropped is = absurd (let wrong : false ≡ true = is in cc)
running_is stage.Remounted is = absurd (let wrong : false ≡ true = is in cc)
running_is (stage.Restored done) is = absurd (let wrong : false ≡ true = is in cc)
running_is stage.Failed is = absurd (let wrong : false ≡ true = is in cc)

pub own_callers : (history : List Entry) (caller : ℕ) → AllByRecursion (λ (e : Entry). e.caller ≡ caller) (filter (λ (e : Entry). nat_eq e.caller caller) history)
own_callers [] caller = tt
own_callers (entry ∷ later) caller =
    elim (nat_eq entry.caller caller) as (λ b. nat_eq entry.caller caller ≡ b → AllByRecursion (λ (e : Entry). e.caller ≡ caller) (cond b (entry ∷ filter (λ (e : Entry). nat_eq e.caller caller) later) (filter (λ (e : Entry). nat_eq e.caller caller) later))) [
      | true ↦ λ same. (eqb-true entry.caller caller same, own_callers later caller)
      | false ↦ λ other. own_callers later caller
    ] refl

all_two : {X : Type 0} (P Q R : X → Type 0) (xs : List X) → ((x : X) → P x → Q x → R x) → AllByRecursion P xs → AllByRecursion Q xs → AllByRecursion R xs
all_two P Q R [] both one other = tt
all_two P Q R (x ∷ xs) both one other = (both x one.0 other.0, all_two P Q R xs both one.1 other.1)

module _ {F D : Type 0} (told : D → Option Image) (faults : D → ℕ) (core : CoreState F D) (r : Right told faults core) where
  pub is_told : (caller : ℕ) → IsTold (part_of (sight_of core) caller)
  is_told caller =
      let says = all_filter (λ (e : Entry). nat_eq e.caller caller) (λ (e : Entry). Says core.journal.records core.config.limit core.stage e.caller e.ordinal e.reply) core.journal.history r.orderly.numbered.says in
      record {
        rises = own_rises core.journal.history caller r.orderly.numbered.pairs;
        limit = all_map (λ (e : Entry). Says core.journal.records core.config.limit core.stage e.caller e.ordinal e.reply) (λ (e : Entry). SaysOfLimit core.config.limit e.reply) (part_of (sight_of core) caller).entries
            (λ e is. says_limit core.journal.records core.config.limit core.stage e.caller e.ordinal e.reply is) says;
        twice = all_two (λ (e : Entry). e.caller ≡ caller) (λ (e : Entry). Says core.journal.records core.config.limit core.stage e.caller e.ordinal e.reply) (λ (e : Entry). SaysOfTwice e.ordinal (records_of core.journal.records caller) e.reply) (part_of (sight_of core) caller).entries
            (λ e mine is. says_twice core.journal.records core.config.limit core.stage caller e mine e.reply is) (own_callers core.journal.history caller) says;
      }

-- ---- what the caller of a call is told

pub no_earlier : (before : List FaultRecord) (ordinal begun : ℕ) → ordinal ≡ begun + 1 → AreOfFirst begun before → filter (λ (fault : FaultRecord). nat_eq fault.ordinal ordinal) before ≡ []
no_earlier [] ordinal begun is early = refl
no_earlier (fault ∷ before) ordinal begun is early =
    ap (λ b. cond b (fault ∷ filter (λ (f : FaultRecord). nat_eq f.ordinal ordinal) before) (filter (λ (f : FaultRecord). nat_eq f.ordinal ordinal) before)) (neq fault.ordinal ordinal (λ same. absurd (omega (arith, early.0, is, same))))
    ∙ no_earlier before ordinal begun is early.1

pub all_kept : (more : List FaultRecord) (ordinal : ℕ) → AllByRecursion (λ (fault : FaultRecord). fault.ordinal ≡ ordinal) more → filter (λ (fault : FaultRecord). nat_eq fault.ordinal ordinal) more ≡ more
all_kept [] ordinal all = refl
all_kept (fault ∷ more) ordinal all =
    ap (λ b. cond b (fault ∷ filter (λ (f : FaultRecord). nat_eq f.ordinal ordinal) more) (filter (λ (f : FaultRecord). nat_eq f.ordinal ordinal) more)) (eq-eqb fault.ordinal ordinal all.0) ∙ ap (λ fs. fault ∷ fs) (all_kept more ordinal all.1)

says_faults : (begun ordinal : ℕ) (before more struck : List FaultRecord) → ordinal ≡ begun + 1 → struck ≡ before ++ more → AllByRecursion (λ (fault : FaultRecord). fault.ordinal ≡ ordinal) more → (answer : Reply)
    → SaysOfTwice ordinal struck answer → SaysOfFaults begun before more answer
says_faults begun ordinal before more struck is whole theirs (reply.Num n) says = tt
says_faults begun ordinal before more struck is whole theirs (reply.Got bytes) says = tt
says_faults begun ordinal before more struck is whole theirs (reply.Info stat) says = tt
says_faults begun ordinal before more struck is whole theirs (reply.Refused e) says = tt
says_faults begun ordinal before more struck is whole theirs reply.Device says = tt
says_faults begun ordinal before more struck is whole theirs (reply.Failed faults) says = tt
says_faults begun ordinal before more struck is whole theirs (reply.Restart first second) says = λ early.
    let kept : filter (λ (fault : FaultRecord). nat_eq fault.ordinal ordinal) struck ≡ more =
    ap (filter (λ (fault : FaultRecord). nat_eq fault.ordinal ordinal)) whole ∙ filter-append (λ (fault : FaultRecord). nat_eq fault.ordinal ordinal) before more
    ∙ ap (λ fs. fs ++ filter (λ (fault : FaultRecord). nat_eq fault.ordinal ordinal) more) (no_earlier before ordinal begun is early) ∙ all_kept more ordinal theirs in
    subst (λ fs. 2 ≤ length (own_faults fs)) kept says

told_answer : (call : Call) (test : Option (Crossing → Bool)) (caller : ℕ) (from now : Part) (answer : Reply) → IsTold now → HasItsAnswer call test caller from now answer → IsAnsweredWith call test caller from now answer
told_answer call test caller from now answer told is =
    let same = reply_of caller (from.seat.begun + 1) call from.entries now.entries answer told.rises is.entry is.reply in
    let twice : SaysOfTwice is.entry.entry.ordinal now.struck is.entry.entry.reply = all_last (λ (e : Entry). SaysOfTwice e.ordinal now.struck e.reply) from.entries is.entry.entry (subst (AllByRecursion (λ (e : Entry). SaysOfTwice e.ordinal now.struck e.reply)) is.entry.whole told.twice) in
    let theirs : AllByRecursion (λ (f : FaultRecord). f.ordinal ≡ from.seat.begun + 1) is.suffers.more =
    all_map (λ (f : FaultRecord). (f.caller ≡ caller) × (f.ordinal ≡ from.seat.begun + 1)) (λ (f : FaultRecord). f.ordinal ≡ from.seat.begun + 1) is.suffers.more (λ f its. its.1) is.suffers.theirs in
    let limit : SaysOfLimit now.config.limit is.entry.entry.reply = all_last (λ (e : Entry). SaysOfLimit now.config.limit e.reply) from.entries is.entry.entry (subst (AllByRecursion (λ (e : Entry). SaysOfLimit now.config.limit e.reply)) is.entry.whole told.limit) in
    let says : SaysOfTwice (from.seat.begun + 1) now.struck answer = subst (λ n. SaysOfTwice n now.struck answer) is.entry.ordinal_is (subst (SaysOfTwice is.entry.entry.ordinal now.struck) same twice) in
    record {
      seat = is.seat;
      entry = is.entry.entry;
      whole = is.entry.whole;
      caller_is = is.entry.caller_is;
      ordinal = is.entry.ordinal_is;
      call_is = is.entry.call_is;
      reply_is = same;
      suffers = is.suffers;
      faults = says_faults from.seat.begun (from.seat.begun + 1) from.struck is.suffers.more now.struck refl is.suffers.whole theirs answer says;
      once = λ plain. once_more (from.seat.begun + 1) from.struck is.suffers.more now.struck is.suffers.whole (all_kept is.suffers.more (from.seat.begun + 1) theirs) (is.once plain);
      limit = subst (λ (l : Limits). SaysOfLimit l.limit answer) is.config (subst (SaysOfLimit now.config.limit) same limit);
    }

pub brings : (call : Call) (test : Option (Crossing → Bool)) (caller : ℕ) (from now : Part) (attempt : Attempt) (answer : Came) → IsTold now → Comes call test caller from now attempt answer → Brings call test caller from now attempt answer
brings call test caller from now attempt (came.Answered reply) told comes = told_answer call test caller from now reply told comes
brings call test caller from now attempt (came.Inside ticket) told comes = comes
brings call test caller from now attempt came.On told comes = comes
brings call test caller from now attempt came.Shut told comes = comes
brings call test caller from now attempt came.Busy told comes = comes
brings call test caller from now attempt came.NoMemory told comes = comes
