-- What is seen of the volume, by where it stands.
use Rattle.std.specs.Prelude.{List, [], ℕ, ◌≤◌, ◌≡◌, length, take}
use Rattle.mb_kinds.specs.Image.{Image}
use Rattle.mb_edge.specs.Damage.{OpenCounts}
use Rattle.mb_tree.specs.CarriedOut.{AreCarriedOut, tree_and_opens}
use Rattle.mb_tree.specs.Effect.{TreeAndOpens}
use Rattle.mb_tree.specs.History.{after, after_first}
use Rattle.mb_tree.specs.Opening.{opening}
use Rattle.mb_tree.specs.Views.{Kept}
use Rattle.mb_tree.specs.Volume.{IsVolume}
use Rattle.mb_tree.specs.declared.trees.Tree.{Tree}
use Rattle.mb_cache.specs.Pages.{PageList, under}
use Rattle.mb_oplog.specs.declared.oplogs.Logged.{Logged}
use Rattle.mb_session.specs.OpenFiles.{TellsCounts}
use Rattle.mb_core_spec.specs.Histories.{IsCheckpointed, IsLegalSoFar, ReplaysToNow, picked_ops}
use Rattle.mb_core_spec.specs.State.{CoreState}
use Rattle.mb_core_spec.specs.declared.stages.Stage.{Stage}
use Rattle.mb_core_spec.specs.declared.stages.Stage.TheVariants as stage

-- a view is a volume of a tree, with a table of so many open files, and what is not the tree's is as it was on the first disk
pub record IsHeldBy (before : Tree) (first view : Image) (opens : OpenCounts) (held : TreeAndOpens) : Type 0 where
  pub volume : IsVolume view held.tree
  pub kept : Kept before first held.tree view
  pub counted : TellsCounts opens held.opens

-- what is seen is what the first operations of the log make of the checkpoint
pub record IsFront (before : Tree) (first view : Image) (opens : OpenCounts) (start : TreeAndOpens) (oplog : List Logged) (done : ℕ) : Type 0 where
  pub within : done ≤ length oplog
  pub made : TreeAndOpens
  pub leads : AreCarriedOut start (take done (picked_ops oplog)) made
  pub held : IsHeldBy before first view opens made

-- by where the volume stands: the present where it runs; nothing is said between a fault and the end of its dropping; no
-- current page once the dirty pages were dropped; and a front of the log while it is done again
abbrev pub ViewStands : Tree → Image → Image → TreeAndOpens → TreeAndOpens → List Logged → PageList → OpenCounts → Stage → Type 0
ViewStands before first base start now oplog current opens stage.Running = IsHeldBy before first (under base current) opens now
ViewStands before first base start now oplog current opens stage.Struck = Unit {0}
ViewStands before first base start now oplog current opens stage.Again = Unit {0}
ViewStands before first base start now oplog current opens stage.Dropped = current ≡ []
ViewStands before first base start now oplog current opens stage.Remounted = current ≡ []
ViewStands before first base start now oplog current opens (stage.Restored done) = IsFront before first (under base current) opens start oplog done
ViewStands before first base start now oplog current opens stage.Failed = Unit {0}

-- the history, the checkpoint, the log and what is seen, over the image that the disk tells under its checkpointed pages
pub record Holds {F D : Type 0} (before : Tree) (first base : Image) (core : CoreState F D) : Type 0 where
  pub legal : IsLegalSoFar (opening before core.config.callers) core.config.start core.journal.history core.tables.sessions
  pub checkpoint : IsCheckpointed (opening before core.config.callers) before first base core.journal.history core.journal.sealed_at core.tables.saved
  pub replay : ReplaysToNow (opening before core.config.callers) core.journal.history core.journal.sealed_at core.journal.oplog
  pub view : ViewStands before first base (tree_and_opens (after_first (opening before core.config.callers) core.journal.history core.journal.sealed_at))
      (tree_and_opens (after (opening before core.config.callers) core.journal.history)) core.journal.oplog core.cache.current core.tables.opens core.stage
