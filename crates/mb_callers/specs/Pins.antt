-- The steps of an undo log that say what a call pinned.
use Rattle.std.specs.Prelude.{List, ℕ, map}
use Rattle.mb_cache.specs.Kept.{CopyList, KeptBlock}
use Rattle.mb_gate.specs.declared.ulogs.Undo.{Undo}
use Rattle.mb_gate.specs.declared.ulogs.Undo.TheVariants as undo

-- the steps of the pins on blocks that were read
abbrev pub pin_steps : CopyList → List Undo
pin_steps reads = map (λ (read : ℕ × KeptBlock). undo.Pinned read.0) reads
