-- The hook's count of faults beside the fault records, over one event of a call.
use Rattle.std.specs.Prelude.{ℕ, List}
use Rattle.mb_edge.specs.Hooks.{HasFaultCause}
use Rattle.mb_edge.specs.declared.hooks.Word.{Word}
use Rattle.mb_edge.specs.declared.hooks.Word.TheVariants.{Fault, Go}
use Rattle.mb_kinds.specs.declared.faults.FaultRecord.{FaultRecord}
use Rattle.mb_run.specs.Rising.{RisesWith}
use Rattle.mb_volume.specs.declared.events.Event.{Event}
use Rattle.mb_volume.specs.declared.events.Event.TheVariants as event

-- what the hook answered when it was asked for an event; it is asked for a fault, and may be for others
abbrev pub word_for : Event → Word
word_for (event.Fault ticket crossing passed) = Fault
word_for _ = Go

-- reckoned from before the hook was asked: there it answered that word, with `asked` as its count then
abbrev pub RisesAfter : Word → ℕ → ℕ → List FaultRecord → List FaultRecord → Type 0
RisesAfter word asked now old new = (before : ℕ) → HasFaultCause before asked word → RisesWith before now old new
