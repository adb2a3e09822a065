-- When checkpoints are taken.
use Rattle.std.specs.Prelude.{ℕ, ◌+◌, ◌<◌, ◌≤◌, ◌≡◌, ◌⊎◌, List, [], ◌∷◌, ◌++◌, length, drop, nat_eq, nat_le, ◌&&◌, ◌||◌, not, cond, count_by, Bool, true, false, if◌then◌else◌}
use Rattle.std.specs.List.{AllByRecursion, list_all, list_any}
use Rattle.mb_core_spec.specs.declared.steps.Step.{Step}
use Rattle.mb_core_spec.specs.declared.steps.Step.TheVariants as step
use Rattle.mb_kinds.specs.declared.calls.Call.{Call}
use Rattle.mb_kinds.specs.declared.calls.Call.TheVariants as call
use Rattle.mb_kinds.specs.declared.entries.Entry.{Entry}
use Rattle.mb_kinds.specs.declared.faults.Ticket.{Ticket}
use Rattle.mb_kinds.specs.declared.replies.Reply.{Reply}
use Rattle.mb_kinds.specs.declared.replies.Reply.TheVariants as reply

-- a reply that neither a fault nor the disk gave
abbrev pub is_plain : Reply → Bool
is_plain (reply.Restart first second) = false
is_plain reply.Device = false
is_plain (reply.Failed faults) = false
is_plain _ = true

-- the failed volume's answer
abbrev pub is_failed : Reply → Bool
is_failed (reply.Failed faults) = true
is_failed _ = false

-- how many entries that are not its answer stand behind one that is
abbrev pub late : List Entry → ℕ
late [] = 0
late (entry ∷ history) = cond (is_failed entry.reply) (count_by (λ (other : Entry). not (is_failed other.reply)) history) (late history)

abbrev pub is_sync : Call → Bool
is_sync call.Sync = true
is_sync _ = false

-- a sync(2) that was done
abbrev pub is_synced : Entry → Bool
is_synced entry = is_sync entry.call && is_plain entry.reply

-- a checkpoint is due after a call once so many operations are logged, or after sync(2)
abbrev pub is_due : ℕ → ℕ → Call → Bool
is_due threshold ops made = nat_le threshold ops || is_sync made

-- checkpoints are taken in time: since the last one fewer operations than the threshold are logged, and no sync(2) was done
pub record AreInTime (threshold ops sealed_at : ℕ) (history : List Entry) : Type 0 where
  pub few : ops < threshold
  pub synced : AllByRecursion (λ (entry : Entry). is_synced entry ≡ false) (drop sealed_at history)

-- ---- where a trace has them

-- a step with which no call is logged, no checkpoint is taken, and no call is told that a copy is stale
abbrev pub is_other : Step → Bool
is_other (step.Logged ticket) = false
is_other (step.Sealed count) = false
is_other (step.Stale ticket block) = false
is_other _ = true

-- the trace goes on by such steps alone
pub record MarksTrail (before now : List Step) : Type 0 where
  pub steps : List Step
  pub whole : now ≡ before ++ steps
  pub others : AllByRecursion (λ (one : Step). is_other one ≡ true) steps

-- the trace goes on
pub record TrailGoesOn (before now : List Step) : Type 0 where
  pub steps : List Step
  pub whole : now ≡ before ++ steps

-- the call with that ticket was sync(2), as its entry tells
abbrev pub is_sync_of : List Entry → Ticket → Bool
is_sync_of history ticket = list_any (λ (entry : Entry). (nat_eq entry.caller ticket.caller && nat_eq entry.ordinal ticket.ordinal) && is_sync entry.call) history

-- what a trace tells of its checkpoints: how many calls were logged since the last one, whether one is due right behind the last
-- step, and how many were taken where none was due
pub record Sealing : Type 0 where
  pub since : ℕ
  pub due : Bool
  pub undue : ℕ

abbrev pub unsealed : Sealing
unsealed = record { since = 0; due = false; undue = 0 }

-- one is due right behind a call that was logged, if that was sync(2), or if with it as many were logged since the last one as the
-- threshold says. Each operation of the log is a logged call's, so that the log has no more than these
abbrev pub sealing_next : ℕ → List Entry → Sealing → Step → Sealing
sealing_next threshold history was (step.Logged ticket) =
    record { since = was.since + 1; due = nat_le threshold (was.since + 1) || is_sync_of history ticket; undue = was.undue }
sealing_next threshold history was (step.Sealed count) = record { since = 0; due = false; undue = was.undue + (if was.due then 0 else 1) }
sealing_next threshold history was _ = record was { due = false }

-- a trace, step after step
abbrev pub sealing_after : ℕ → List Entry → Sealing → List Step → Sealing
sealing_after threshold history was [] = was
sealing_after threshold history was (one ∷ steps) = sealing_after threshold history (sealing_next threshold history was one) steps

-- how many calls a trace logged since its last checkpoint, and how many checkpoints it has where none was due
unfoldable pub logged_since : ℕ → List Entry → List Step → ℕ
logged_since threshold history trail = (sealing_after threshold history unsealed trail).since

unfoldable pub undue : ℕ → List Entry → List Step → ℕ
undue threshold history trail = (sealing_after threshold history unsealed trail).undue

-- of the checkpoints of a trace, but for one that ends it, no more were taken where none was due than were asked for
pub record AreAskedFor (threshold asked : ℕ) (history : List Entry) (trail : List Step) : Type 0 where
  pub run : List Step
  pub few : undue threshold history run ≤ asked
  pub ends : (trail ≡ run) ⊎ (trail ≡ run ++ step.Sealed (length history) ∷ [])

-- ---- a checkpoint right behind each sync(2)

-- every entry of the ticket's call is a sync(2)
abbrev pub are_syncs_of : List Entry → Ticket → Bool
are_syncs_of history ticket =
    list_all (λ (entry : Entry). not (nat_eq entry.caller ticket.caller && nat_eq entry.ordinal ticket.ordinal) || is_sync entry.call) history

-- the next step takes a checkpoint
abbrev pub is_sealed_next : List Step → Bool
is_sealed_next (step.Sealed count ∷ trail) = true
is_sealed_next _ = false

abbrev pub omits : Bool → Bool → ℕ
omits sync sealed = if sync && not sealed then 1 else 0

-- how many sync(2) a trace logged without a checkpoint right behind
unfoldable pub omitted : List Entry → List Step → ℕ
omitted history [] = 0
omitted history (step.Logged ticket ∷ trail) = omits (are_syncs_of history ticket) (is_sealed_next trail) + omitted history trail
omitted history (one ∷ trail) = omitted history trail
