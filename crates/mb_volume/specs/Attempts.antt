-- What a caller keeps of its call under way.
use Rattle.std.specs.Prelude.{ℕ, ◌+◌, ◌≡◌, [], ◌∷◌, false, Option, Some, None}
use Rattle.mb_core_spec.specs.Copies.{no_pages}
use Rattle.mb_edge.specs.declared.crossings.Crossings.{Crossings}
use Rattle.mb_kinds.specs.declared.faults.Ticket.{Ticket}
use Rattle.mb_run.specs.declared.runner.At.TheVariants as at
use Rattle.mb_volume.specs.declared.attempt.Attempt.{Attempt}
use Rattle.mb_volume.specs.declared.events.Event.{Event}
use Rattle.mb_volume.specs.declared.events.Event.TheVariants as event

abbrev pub new_attempt : ℕ → ℕ → Attempt
new_attempt caller begun = record { crossings = record { caller = caller; ordinal = begun + 1; counts = 0 ∷ 0 ∷ 0 ∷ 0 ∷ 0 ∷ 0 ∷ [] }; at = at.Outside; asked = false; pages = no_pages }

-- the call has to enter again
abbrev pub back_out : Attempt → Attempt
back_out attempt = record attempt { at = at.Outside; asked = false; pages = no_pages }

abbrev pub going_in : Attempt → Ticket → Attempt
going_in attempt ticket = record attempt { at = at.Inside ticket; asked = false; pages = no_pages }

-- what it has as an event begins: nothing gathered, where it enters or leaves
abbrev pub without_pages : Event → Attempt → Attempt
without_pages event.Enter attempt = record attempt { pages = no_pages }
without_pages (event.Leave ticket) attempt = record attempt { pages = no_pages }
without_pages _ attempt = attempt

-- the crossings that a step of a recovery passed
abbrev pub KeepsCrossings : Attempt → Option Crossings → Attempt → Type 0
KeepsCrossings before None now = ⊥
KeepsCrossings before (Some crossings) now = now ≡ record before { crossings = crossings }
