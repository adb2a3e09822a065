-- The event trace of a core of many callers, and when it is disciplined: a small machine over its steps never gets stuck.
use Rattle.std.specs.Prelude.{List, [], ◌∷◌, ◌++◌, ℕ, ◌+◌, Bool, true, false, not, ◌&&◌, ◌||◌, nat_eq, nat_le, nat_lt, if◌then◌else◌, Option, Some, None, IsSome, option_map, option_and_then, slice_get, slice_set, replicate}
use Rattle.mb_kinds.specs.declared.entries.Entry.{Entry}
use Rattle.mb_kinds.specs.declared.faults.Ticket.{Ticket}
use Rattle.mb_kinds.specs.declared.replies.Reply.{Reply}
use Rattle.mb_kinds.specs.declared.replies.Reply.TheVariants.{Num, Got, Info, Refused}
use Rattle.mb_core_spec.specs.declared.steps.Step.{Step}
use Rattle.mb_core_spec.specs.declared.steps.Step.TheVariants as step

-- a function folded over a list, that may be refused on the way
abbrev pub folds : {S X : Type 0} → (S → X → Option S) → S → List X → Option S
folds f s [] = Some s
folds f s (x ∷ xs) = option_and_then (λ next. folds f next xs) (f s x)

-- what the volume does. Of a fault on a running volume the callers from `low` on may still be unwound
pub data Mode : Type 0 where
  Runs : Mode
  Struck : ℕ → Mode
  Again : Mode
  Dropped : Mode
  Remounted : Mode
  Restored : ℕ → Mode
  Failed : Mode

-- a caller's last ticket, whether that call is inside, and whether it has its entry
pub record Place : Type 0 where
  pub ordinal : ℕ
  pub incarnation : ℕ
  pub inside : Bool
  pub logged : Bool

-- what is watched: how many faults struck, how many calls were logged since the last checkpoint, at how many entries
-- that was, and each caller's place
pub record Watch : Type 0 where
  pub mode : Mode
  pub struck : ℕ
  pub since : ℕ
  pub sealed : ℕ
  pub places : List Place

-- at the beginning
abbrev pub watch_from : ℕ → Watch
watch_from callers = record { mode = Runs; struck = 0; since = 0; sealed = 0; places = replicate callers (record { ordinal = 0; incarnation = 0; inside = false; logged = false }) }

abbrev pub when : {X : Type 0} → Bool → X → Option X
when test x = if test then Some x else None

-- ---- one caller's place

-- a ticket is entered once: for a later call than the last one, or for the same call, without its entry, in a later
-- incarnation
abbrev pub is_new : Ticket → Place → Bool
is_new ticket place = nat_lt place.ordinal ticket.ordinal || ((nat_eq place.ordinal ticket.ordinal && nat_lt place.incarnation ticket.incarnation) && not place.logged)

-- the last ticket, of a call that is inside
abbrev pub is_in : Ticket → Place → Bool
is_in ticket place = (nat_eq place.ordinal ticket.ordinal && nat_eq place.incarnation ticket.incarnation) && place.inside

-- it enters
abbrev pub enters : Ticket → Place → Option Place
enters ticket place = when (is_new ticket place) (record { ordinal = ticket.ordinal; incarnation = ticket.incarnation; inside = true; logged = false })

-- it is logged, once
abbrev pub logs : Ticket → Place → Option Place
logs ticket place = when (is_in ticket place && not place.logged) (record place { logged = true })

-- it stays inside, to gather anew
abbrev pub stays : Ticket → Place → Option Place
stays ticket place = when (is_in ticket place && not place.logged) place

-- it leaves, with its entry
abbrev pub leaves : Ticket → Place → Option Place
leaves ticket place = when (is_in ticket place && place.logged) (record place { inside = false })

-- it is unwound, with or without its entry
abbrev pub unwinds : Ticket → Place → Option Place
unwinds ticket place = when (is_in ticket place) (record place { inside = false })

-- a step of one caller
abbrev pub at_place : Watch → Ticket → (Place → Option Place) → Option Watch
at_place watch ticket f = option_map (λ (place : Place). record watch { places = slice_set watch.places ticket.caller place }) (option_and_then f (slice_get watch.places ticket.caller))

-- ---- one step more

-- a fault has the next number
abbrev pub strikes : Watch → ℕ → Mode → Option Watch
strikes watch number mode = when (nat_eq number (watch.struck + 1)) (record watch { mode = mode; struck = number })

-- the volume fails at so many faults
abbrev pub fails : Watch → ℕ → Option Watch
fails watch number = when (nat_eq number watch.struck) (record watch { mode = Failed })

-- what may come next, by what the volume does
abbrev pub next_in : Watch → Mode → Step → Option Watch
next_in watch Runs (step.Entered ticket) = at_place watch ticket (enters ticket)
next_in watch Runs (step.Logged ticket) = at_place (record watch { since = watch.since + 1 }) ticket (logs ticket)
next_in watch Runs (step.Stale ticket block) = at_place watch ticket (stays ticket)
next_in watch Runs (step.Left ticket) = at_place watch ticket (leaves ticket)
next_in watch Runs (step.Sealed count) = Some (record watch { since = 0; sealed = count })
next_in watch Runs (step.Struck number) = strikes watch number (Struck 0)
next_in watch (Struck low) (step.Unwound ticket) = if nat_le low ticket.caller then at_place (record watch { mode = Struck (ticket.caller + 1) }) ticket (unwinds ticket) else None
next_in watch (Struck low) step.Dropped = Some (record watch { mode = Dropped })
next_in watch (Struck low) (step.Failed number) = fails watch number
next_in watch Again step.Dropped = Some (record watch { mode = Dropped })
next_in watch Again (step.Failed number) = fails watch number
next_in watch Dropped step.Remounted = Some (record watch { mode = Remounted })
next_in watch Dropped (step.Struck number) = strikes watch number Again
next_in watch Remounted step.Reopened = Some (record watch { mode = Restored 0 })
next_in watch (Restored done) (step.Replayed number) = when (nat_eq number (done + 1) && nat_le number watch.since) (record watch { mode = Restored number })
next_in watch (Restored done) step.Resumed = Some (record watch { mode = Runs })
next_in watch (Restored done) (step.Struck number) = strikes watch number Again
next_in watch _ _ = None

abbrev pub next : Watch → Step → Option Watch
next watch step = next_in watch watch.mode step

-- a disciplined trace: no step of it is refused
abbrev pub IsDisciplined : ℕ → List Step → Type 0
IsDisciplined callers trail = IsSome (folds next (watch_from callers) trail)

-- ---- the plain entries are the calls that the trace logs

-- a plain entry as its caller and ordinal
abbrev pub key_if_plain : ℕ → ℕ → Reply → List (ℕ × ℕ)
key_if_plain caller ordinal (Num number) = (caller, ordinal) ∷ []
key_if_plain caller ordinal (Got bytes) = (caller, ordinal) ∷ []
key_if_plain caller ordinal (Info stat) = (caller, ordinal) ∷ []
key_if_plain caller ordinal (Refused e) = (caller, ordinal) ∷ []
key_if_plain caller ordinal _ = []

abbrev pub plain_keys : List Entry → List (ℕ × ℕ)
plain_keys [] = []
plain_keys (entry ∷ entries) = key_if_plain entry.caller entry.ordinal entry.reply ++ plain_keys entries

-- a step of the trace as the caller and ordinal that it logs
abbrev pub logged_key : Step → List (ℕ × ℕ)
logged_key (step.Logged ticket) = (ticket.caller, ticket.ordinal) ∷ []
logged_key _ = []

abbrev pub logged_keys : List Step → List (ℕ × ℕ)
logged_keys [] = []
logged_keys (one ∷ steps) = logged_key one ++ logged_keys steps
