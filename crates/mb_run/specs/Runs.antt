-- What a run of a job over a core was: the clauses of the headline, over the readers of a core and the job alone.
use Rattle.std.specs.Prelude.{ℕ, ◌+◌, ◌-◌, ◌<◌, ◌≤◌, ◌≡◌, ◌≢◌, List, [], ◌∷◌, ◌++◌, length, filter, nat_eq, nat_lt, nat_le, ◌&&◌, ◌||◌, not, slice_get, Bool, true, false, cond, Option, Some, None, IfSome, count_by}
use Rattle.std.specs.List.{AllByRecursion, list_any}
use Rattle.mb_core_spec.specs.Faults.{IsTwice, is_device}
use Rattle.mb_edge.specs.declared.crossings.Crossing.{Crossing}
use Rattle.mb_kinds.specs.declared.entries.Entry.{Entry}
use Rattle.mb_kinds.specs.declared.faults.FaultRecord.{FaultRecord}
use Rattle.mb_kinds.specs.declared.faults.Kind.{Kind}
use Rattle.mb_kinds.specs.declared.faults.Kind.TheVariants.{Enter, Gather, Finish, Leave, Remount, Replay}
use Rattle.mb_kinds.specs.declared.replies.Reply.{Reply}
use Rattle.mb_kinds.specs.declared.replies.Reply.TheVariants as reply
use Rattle.mb_plan.specs.Fires.{fires, same_kind}
use Rattle.mb_plan.specs.declared.rules.Rule.{Rule}
use Rattle.mb_run.specs.Recovering.{crossing_of}
pub use Rattle.mb_run.specs.Seals.{is_plain}
use Rattle.mb_run.specs.Sights.{one_if}
use Rattle.mb_jobs.specs.declared.jobs.JobCall.{JobCall}
use Rattle.mb_core_spec.specs.declared.steps.Step.{Step}
use Rattle.mb_core_spec.specs.declared.steps.Step.TheVariants as step

-- a character is a caller's letter, small or capital
abbrev pub is_letter_of : ℕ → ℕ → Bool
is_letter_of letter character = nat_eq character letter || nat_eq (character + 32) letter

-- the place in the order of a caller's first letter; the order's length where there is none
abbrev pub first_at : List ℕ → ℕ → ℕ
first_at [] letter = 0
first_at (character ∷ order) letter = cond (is_letter_of letter character) 0 (1 + first_at order letter)

abbrev pub letter_of : List ℕ → ℕ → Option ℕ
letter_of letters caller = slice_get letters caller

-- the entry is of a caller's first call, whose letter first stands there
abbrev pub IsFirstAt : List ℕ → List ℕ → Entry → ℕ → Type 0
IsFirstAt order letters entry place = (entry.ordinal ≡ 1) × IfSome (letter_of letters entry.caller) (λ letter. first_at order letter ≡ place)

abbrev pub IsEntryAt : List Entry → ℕ → Entry → Type 0
IsEntryAt history index entry = slice_get history index ≡ Some entry

-- the first calls' moments rise as the callers' letters first stand in the order; those without a letter come last
abbrev pub FirstsRise : List ℕ → List ℕ → List Entry → Type 0
FirstsRise order letters history = (i j : ℕ) (one other : Entry) (before after : ℕ) → IsEntryAt history i one → IsEntryAt history j other
    → IsFirstAt order letters one before → IsFirstAt order letters other after → before < after → one.moment < other.moment

-- the same as a test, for examples
abbrev pub first_moment : List Entry → ℕ → Option ℕ
first_moment [] caller = None
first_moment (entry ∷ history) caller = cond (nat_eq entry.caller caller && nat_eq entry.ordinal 1) (Some entry.moment) (first_moment history caller)

abbrev pub rises : Option ℕ → Option ℕ → Bool
rises (Some one) (Some other) = nat_lt one other
rises _ _ = true

abbrev pub pair_rises : List ℕ → List Entry → (ℕ → ℕ) → ℕ → ℕ → Bool
pair_rises order history letter one other = cond (nat_lt (first_at order (letter one)) (first_at order (letter other))) (rises (first_moment history one) (first_moment history other)) true

-- ---- fault records

abbrev pub AreDistinct : List FaultRecord → Type 0
AreDistinct [] = Unit {0}
AreDistinct (fault ∷ later) = AllByRecursion (λ (other : FaultRecord). fault ≢ other) later × AreDistinct later

-- an entry that is given up for two faults names two of its own call
abbrev pub NamesTwo : List FaultRecord → Entry → Reply → Type 0
NamesTwo records entry (reply.Restart first second) = IsTwice records entry.caller entry.ordinal first second
NamesTwo records entry _ = Unit {0}

abbrev pub is_of : ℕ → ℕ → Kind → FaultRecord → Bool
is_of caller ordinal kind fault = (nat_eq fault.caller caller && nat_eq fault.ordinal ordinal) && same_kind fault.kind kind

-- how many of the faults that struck a call came at fault points of a kind
abbrev pub strikes_of : List FaultRecord → ℕ → ℕ → Kind → ℕ
strikes_of records caller ordinal kind = count_by (is_of caller ordinal kind) records

-- how many struck it before it had its entry, but in a recovery
abbrev pub strikes_inside : List FaultRecord → ℕ → ℕ → ℕ
strikes_inside records caller ordinal = strikes_of records caller ordinal Enter + (strikes_of records caller ordinal Gather + strikes_of records caller ordinal Finish)

-- an entry with a plain reply is of a call that was struck once at most before it had it, but in a recovery
abbrev pub IsStruckOnceIfPlain : List FaultRecord → Entry → Type 0
IsStruckOnceIfPlain records entry = is_plain entry.reply ≡ true → strikes_inside records entry.caller entry.ordinal ≤ 1

pub record HasRecords (plan : List Rule) (history : List Entry) (records : List FaultRecord) : Type 0 where
  pub planned : AllByRecursion (λ (fault : FaultRecord). fires plan (crossing_of fault) ≡ true) records
  pub distinct : AreDistinct records
  pub twice : AllByRecursion (λ (entry : Entry). NamesTwo records entry entry.reply) history
  pub once : AllByRecursion (IsStruckOnceIfPlain records) history

-- ---- in list order: faults that are planned are taken

-- how many began a recovery that the call runs, or began it anew
abbrev pub recoveries_of : List FaultRecord → ℕ → ℕ → ℕ
recoveries_of records caller ordinal = strikes_inside records caller ordinal + (strikes_of records caller ordinal Remount + strikes_of records caller ordinal Replay)

abbrev pub is_struck_at : List FaultRecord → ℕ → ℕ → Kind → ℕ → Bool
is_struck_at records caller ordinal kind nth = list_any (λ (fault : FaultRecord). is_of caller ordinal kind fault && nat_eq fault.nth nth) records

-- a call was struck at each of its first so many fault points of a kind at which the test, if it is told, tells a fault
abbrev pub TakesUpTo : Option (Crossing → Bool) → List FaultRecord → ℕ → ℕ → Kind → ℕ → Type 0
TakesUpTo test records caller ordinal kind most = IfSome test (λ fires. (nth : ℕ) → 1 ≤ nth → nth ≤ most
    → fires (record { caller = caller; ordinal = ordinal; kind = kind; nth = nth }) ≡ true → is_struck_at records caller ordinal kind nth ≡ true)

-- a call took the faults of its fault points; `plain` is 1 where it came to a plain reply, and else 0. It entered anew after each
-- fault before it had its entry; each time that it came to gather it gathered once at least, and to finish, once. A second such
-- fault ended it, so that a call with a plain reply met one at most. After each of them, and after each fault of the recovery that
-- it runs, the file system was started anew, but for the last one of a call that no running volume answered (`runs` is 0 then)
pub record TakesFaults (test : Option (Crossing → Bool)) (records : List FaultRecord) (caller ordinal plain runs : ℕ) : Type 0 where
  pub twice : strikes_inside records caller ordinal + plain ≤ 2
  pub enters : TakesUpTo test records caller ordinal Enter (strikes_inside records caller ordinal + plain)
  pub gathers : TakesUpTo test records caller ordinal Gather (strikes_of records caller ordinal Gather + strikes_of records caller ordinal Finish + plain)
  pub finishes : TakesUpTo test records caller ordinal Finish (strikes_of records caller ordinal Finish + plain)
  pub leaves : TakesUpTo test records caller ordinal Leave plain
  pub remounts : TakesUpTo test records caller ordinal Remount (recoveries_of records caller ordinal + runs - 1)

-- a reply of a volume that runs: a plain one, or EIO for a restart
abbrev pub is_of_running : Reply → Bool
is_of_running reply.Device = false
is_of_running (reply.Failed faults) = false
is_of_running _ = true

-- the call of an entry
abbrev pub EntryTakesFaults : Option (Crossing → Bool) → List FaultRecord → Entry → Type 0
EntryTakesFaults test records entry =
    TakesFaults test records entry.caller entry.ordinal (one_if (is_plain entry.reply)) (one_if (is_of_running entry.reply))

-- where it entered alone, whoever else acted meanwhile
abbrev pub TakesWhereItEntered : Option (Crossing → Bool) → List FaultRecord → Entry → Type 0
TakesWhereItEntered test records entry =
    TakesUpTo test records entry.caller entry.ordinal Enter (strikes_inside records entry.caller entry.ordinal + one_if (is_plain entry.reply))

-- the disk ended a call
abbrev pub has_device : List Entry → Bool
has_device history = list_any (λ (entry : Entry). is_device entry.reply) history

-- a recovery may be in progress where a call is made: a fault struck one before where it left, or the disk ended one
abbrev pub is_owed : List FaultRecord → Bool → Bool
is_owed before ended = list_any (λ (fault : FaultRecord). same_kind fault.kind Leave) before || ended

-- no fault point was counted to which its call did not come: with these faults before, it entered once more than it was struck since
-- it was made, and finished once more than it was struck there; it leaves once; and it started the file system anew once for each
-- fault that began its own recoveries, or began them anew, and once where one was in progress before
abbrev pub is_near : Bool → List FaultRecord → ℕ → ℕ → Kind → ℕ → Bool
is_near ended before caller ordinal Gather nth = true
is_near ended before caller ordinal Replay nth = true
is_near ended before caller ordinal Leave nth = nat_eq nth 1
is_near ended before caller ordinal Remount nth = nat_le nth (recoveries_of before caller ordinal + one_if (is_owed before ended))
is_near ended before caller ordinal Finish nth = nat_le nth (strikes_of before caller ordinal Finish + 1)
is_near ended before caller ordinal Enter nth = nat_le nth (strikes_inside before caller ordinal + 1)

abbrev pub AreNear : Bool → List FaultRecord → List FaultRecord → Type 0
AreNear ended before [] = Unit {0}
AreNear ended before (fault ∷ later) =
    (is_near ended before fault.caller fault.ordinal fault.kind fault.nth ≡ true) × AreNear ended (before ++ fault ∷ []) later

-- each call that has its entry took its faults
pub record HasTakenFaults (test : Option (Crossing → Bool)) (history : List Entry) (records : List FaultRecord) : Type 0 where
  pub taken : AllByRecursion (EntryTakesFaults test records) history
  pub near : AreNear (has_device history) [] records

-- ---- a disk that failed, a volume that failed

abbrev pub AnswersFailed : ℕ → List FaultRecord → Reply → Type 0
AnswersFailed limit records (reply.Failed faults) = (faults ≡ limit + 1) × (length records ≡ limit + 1)
AnswersFailed limit records _ = Unit {0}

-- ---- an order without faults: whose calls enter first

-- how far each letter has come: 0, 1 or 2 small letters, or a capital (3)
abbrev pub used : List ℕ → ℕ → ℕ
used seen letter = count_by (is_letter_of letter) seen

abbrev pub has_capital : List ℕ → ℕ → Bool
has_capital seen letter = list_any (λ character. nat_eq (character + 32) letter) seen

-- a character may follow those of the prefix
abbrev pub is_calm_next : List ℕ → List ℕ → ℕ → Bool
is_calm_next [] seen character = true
is_calm_next (letter ∷ letters) seen character =
    cond (is_letter_of letter character) (nat_lt (used seen letter) 2 && (nat_eq (character + 32) letter || not (has_capital seen letter))) true && is_calm_next letters seen character

abbrev pub calm_from : List ℕ → List ℕ → List ℕ → List ℕ
calm_from letters seen [] = []
calm_from letters seen (character ∷ order) = cond (is_calm_next letters seen character) (character ∷ calm_from letters (seen ++ character ∷ []) order) []

abbrev pub calm_prefix : List ℕ → List ℕ → List ℕ
calm_prefix letters order = calm_from letters [] order

-- the callers that have a call, in the order of their first letters
abbrev pub caller_of : List ℕ → ℕ → ℕ → Option ℕ
caller_of [] place character = None
caller_of (letter ∷ letters) place character = cond (is_letter_of letter character) (Some place) (caller_of letters (place + 1) character)

abbrev pub is_begun : List ℕ → ℕ → Bool
is_begun begun caller = list_any (nat_eq caller) begun

abbrev pub has_call : List JobCall → ℕ → Bool
has_call calls caller = list_any (λ (made : JobCall). nat_eq made.caller caller) calls

abbrev pub with_caller : List JobCall → List ℕ → Option ℕ → List ℕ
with_caller calls begun None = begun
with_caller calls begun (Some caller) = cond (is_begun begun caller || not (has_call calls caller)) begun (begun ++ caller ∷ [])

abbrev pub begun_from : List JobCall → List ℕ → List ℕ → List ℕ → List ℕ
begun_from calls letters begun [] = begun
begun_from calls letters begun (character ∷ order) = begun_from calls letters (with_caller calls begun (caller_of letters 0 character)) order

abbrev pub is_seal : Step → Bool
is_seal (step.Sealed n) = true
is_seal _ = false

abbrev pub without_seals : List Step → List Step
without_seals trail = filter (λ (one : Step). not (is_seal one)) trail

-- the trace without its checkpoints begins with these callers' entering, each with its first call
abbrev pub BeginsWith : List ℕ → List Step → Type 0
BeginsWith [] trail = Unit {0}
BeginsWith (caller ∷ callers) (step.Entered ticket ∷ trail) = (ticket.caller ≡ caller) × (ticket.ordinal ≡ 1) × BeginsWith callers trail
BeginsWith (caller ∷ callers) _ = ⊥

abbrev pub EntersFirst : List JobCall → List ℕ → List ℕ → List Step → Type 0
EntersFirst calls letters order trail = BeginsWith (begun_from calls letters [] (calm_prefix letters order)) (without_seals trail)
