-- What a call by a shared volume leaves of its caller's part of the core, as the caller saw it before and as it sees it then.
use Rattle.std.specs.Prelude.{ℕ, ◌+◌, ◌-◌, ◌^◌, ◌≤◌, ◌≡◌, ◌++◌, ◌∷◌, List, [], length, filter, min, nat_eq, Bool, true, false, Option, None, IfSome}
use Rattle.std.specs.List.{AllByRecursion}
use Rattle.mb_edge.specs.declared.crossings.Crossing.{Crossing}
use Rattle.mb_kinds.specs.declared.calls.Call.{Call}
use Rattle.mb_kinds.specs.declared.entries.Entry.{Entry}
use Rattle.mb_kinds.specs.declared.faults.FaultRecord.{FaultRecord}
use Rattle.mb_kinds.specs.declared.faults.Kind.{Kind}
use Rattle.mb_kinds.specs.declared.faults.Kind.TheVariants as kind
use Rattle.mb_kinds.specs.declared.replies.Reply.{Reply}
use Rattle.mb_kinds.specs.declared.replies.Reply.TheVariants as reply
use Rattle.mb_run.specs.Seals.{is_plain}
use Rattle.mb_run.specs.Served.{AreSound}
use Rattle.mb_run.specs.Sights.{one_if}
use Rattle.mb_volume.specs.Parts.{Part}

-- a fault that counts as its call's own
abbrev pub is_own : Kind → Bool
is_own kind.Enter = true
is_own kind.Gather = true
is_own kind.Finish = true
is_own _ = false

abbrev pub own_faults : List FaultRecord → List FaultRecord
own_faults records = filter (λ (fault : FaultRecord). is_own fault.kind) records

-- of a call's faults one at most was its own
abbrev pub MetOnce : ℕ → List FaultRecord → Type 0
MetOnce ordinal struck = length (own_faults (filter (λ (fault : FaultRecord). nat_eq fault.ordinal ordinal) struck)) ≤ 1

-- the records are of the first calls of their caller, so many
abbrev pub AreOfFirst : ℕ → List FaultRecord → Type 0
AreOfFirst begun records = AllByRecursion (λ (fault : FaultRecord). fault.ordinal ≤ begun) records

-- what a reply says of the fault records that came, where those before are of earlier calls
abbrev pub SaysOfFaults : ℕ → List FaultRecord → List FaultRecord → Reply → Type 0
SaysOfFaults begun before more (reply.Restart first second) = AreOfFirst begun before → 2 ≤ length (own_faults more)
SaysOfFaults begun before more _ = Unit {0}

-- and of the limit
abbrev pub SaysOfLimit : ℕ → Reply → Type 0
SaysOfLimit limit (reply.Failed faults) = faults ≡ limit + 1
SaysOfLimit limit _ = Unit {0}

-- the fault records that came are of this call, at crossings where the test holds, no two alike where their numbers tell
pub record Suffers (test : Option (Crossing → Bool)) (caller : ℕ) (old now : Part) : Type 0 where
  pub more : List FaultRecord
  pub whole : now.struck ≡ old.struck ++ more
  pub theirs : AllByRecursion (λ (fault : FaultRecord). (fault.caller ≡ caller) × (fault.ordinal ≡ old.seat.begun + 1)) more
  pub sound : AreSound test more

-- the call was answered with that reply: it has one entry more, its own
pub record IsAnsweredWith (call : Call) (test : Option (Crossing → Bool)) (caller : ℕ) (old now : Part) (answer : Reply) : Type 0 where
  pub seat : now.seat ≡ record { begun = old.seat.begun + 1; flight = None }
  pub entry : Entry
  pub whole : now.entries ≡ old.entries ++ entry ∷ []
  pub caller_is : entry.caller ≡ caller
  pub ordinal : entry.ordinal ≡ old.seat.begun + 1
  pub call_is : entry.call ≡ call
  pub reply_is : entry.reply ≡ answer
  pub suffers : Suffers test caller old now
  pub faults : SaysOfFaults old.seat.begun old.struck suffers.more answer
  -- and a call with a plain reply met one fault of its own at most
  pub once : is_plain answer ≡ true → length (own_faults suffers.more) ≤ 1
  pub limit : SaysOfLimit old.config.limit answer

-- the call met want of memory: it has no entry, and began once at most
pub record CallIsGivenUp (test : Option (Crossing → Bool)) (caller : ℕ) (old now : Part) : Type 0 where
  pub entries : now.entries ≡ old.entries
  pub free : now.seat.flight ≡ None
  pub begun : old.seat.begun ≤ now.seat.begun
  pub once : now.seat.begun ≤ old.seat.begun + 1
  pub suffers : Suffers test caller old now
  -- a call that did not begin met no fault
  pub calm : now.seat.begun ≡ old.seat.begun → now.struck ≡ old.struck

-- ---- the fault injector's count beside the fault points that the call passed

-- the kinds of fault points that each call passes on its way to a plain reply
abbrev pub is_on_way : Kind → Bool
is_on_way kind.Remount = false
is_on_way kind.Replay = false
is_on_way _ = true

-- a call's first fault point of a kind
abbrev pub first_of_kind : ℕ → ℕ → Kind → Crossing
first_of_kind caller ordinal kind = record { caller = caller; ordinal = ordinal; kind = kind; nth = 1 }

-- at how many of the first ones on its way a test holds
abbrev pub firsts_planned : (Crossing → Bool) → ℕ → ℕ → ℕ
firsts_planned fires caller ordinal =
    one_if (fires (first_of_kind caller ordinal kind.Enter)) + one_if (fires (first_of_kind caller ordinal kind.Gather))
    + one_if (fires (first_of_kind caller ordinal kind.Finish)) + one_if (fires (first_of_kind caller ordinal kind.Leave))

-- the count of faults rose by one at least for each of them; it stays at the greatest u64
abbrev pub TakesFirsts : Option (Crossing → Bool) → ℕ → ℕ → ℕ → ℕ → Type 0
TakesFirsts test caller ordinal before now = IfSome test (λ fires. min (before + firsts_planned fires caller ordinal) (2 ^ 64 - 1) ≤ now)

-- of the caller's next call, where it was answered with a plain reply
abbrev pub TakesPlannedFaults : Option (Crossing → Bool) → ℕ → Part → ℕ → ℕ → Reply → Type 0
TakesPlannedFaults test caller old before now answer = is_plain answer ≡ true → TakesFirsts test caller (old.seat.begun + 1) before now
