-- What an event's code owes beside its equation, so that the event keeps a core in order.
use Rattle.std.specs.Prelude.{ℕ, ◌+◌, ◌<◌, ◌≤◌, ◌≡◌, ◌⊎◌, Ok}
use Rattle.mb_kinds.specs.Image.{Image}
use Rattle.mb_kinds.specs.declared.replies.Reply.{Reply}
use Rattle.mb_kinds.specs.declared.replies.Reply.TheVariants.{Num, Got, Info, Refused, Restart, Device, Failed}
use Rattle.mb_edge.specs.Damage.{OpenCounts}
use Rattle.mb_iface.specs.OpenCounts.{count_of}
use Rattle.mb_tree.specs.Effect.{TreeAndOpens}
use Rattle.mb_tree.specs.Step.{effect_of}
use Rattle.mb_tree.specs.declared.trees.Tree.{Tree}
use Rattle.mb_cache.specs.Pages.{under}
use Rattle.mb_cache.specs.Stamps.{Stamps, stamp_of}
use Rattle.mb_cache.specs.State.{CacheState}
use Rattle.mb_core_spec.specs.Copies.{LiveTables, cwds}
use Rattle.mb_session.specs.OpenFiles.{TellsCounts}
use Rattle.mb_core_spec.specs.declared.ready.Ready.{Ready}

-- a reply that is the model's step
abbrev pub IsPlain : Reply → Type 0
IsPlain (Num number) = Unit {0}
IsPlain (Got bytes) = Unit {0}
IsPlain (Info stat) = Unit {0}
IsPlain (Refused e) = Unit {0}
IsPlain _ = ⊥

-- a reply that is not
abbrev pub IsIdle : Reply → Type 0
IsIdle (Restart first second) = Unit {0}
IsIdle Device = Unit {0}
IsIdle (Failed faults) = Unit {0}
IsIdle _ = ⊥

-- no stamp falls, and none rises by more than one
abbrev pub Rises : Stamps → Stamps → Type 0
Rises old new = (block : ℕ) → (stamp_of old block ≤ stamp_of new block) × (stamp_of new block ≤ stamp_of old block + 1)

-- what a call that is logged does to the tables: nothing that another call could see, or the stamp rises
abbrev pub TablesMove : LiveTables → LiveTables → Type 0
TablesMove old new = ((new.stamp ≡ old.stamp) × (new.opens ≡ old.opens) × (cwds new.sessions ≡ cwds old.sessions)) ⊎ (old.stamp < new.stamp)

-- what an install makes of the pages, and how the table of open files follows, where none of its counts is the greatest
pub record Installs {D : Type 0} (old new : CacheState D) (opens grown : OpenCounts) (ready : Ready) : Type 0 where
  pub view : (base : Image) → under base new.current ≡ under (under base old.current) ready.changes
  pub counted : ((ino : ℕ) → count_of opens ino < 4294967295) → (tree : Tree) (held : TreeAndOpens) → effect_of tree (count_of opens) ready.op ready.pick ≡ Ok held → TellsCounts grown held.opens
