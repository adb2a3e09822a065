-- The nameless files of a volume are reclaimed when it is opened.
use Rattle.std.specs.Prelude.{List, [], ℕ, ◌≡◌, Option, None}
use Rattle.mb_kinds.specs.Image.{Image}
use Rattle.mb_edge.specs.Damage.{OpenCounts}
use Rattle.mb_tree.specs.Sweep.{opens_of_list}
use Rattle.mb_tree.specs.declared.operations.FsOp.TheVariants.{Release}
use Rattle.mb_kinds.specs.Changed.{AreChanges, ChangeList}
use Rattle.mb_session.specs.OpenFiles.{TellsCounts}
use Rattle.mb_cache.specs.Pages.{PageList, installed, under}
use Rattle.mb_cache.specs.Stamps.{Stamps, raised_by}
use Rattle.mb_cache.specs.State.{CacheState}
use Rattle.mb_core_spec.specs.Events.{with_room}
use Rattle.mb_core_spec.specs.State.{CoreState}
use Rattle.mb_core_state.specs.Answers.{with_disk}
use Rattle.mb_core_state.specs.Redoing.{ActsSeen}

-- what the file system makes of one release of them all, over a table that counts each as often as it stands in the list
pub record ActsOnNameless {D : Type 0} (told : D → Option Image) (cache : CacheState D) (inos : List ℕ) (changes : ChangeList) : Type 0 where
  pub opens : OpenCounts
  pub counted : TellsCounts opens (opens_of_list inos)
  pub acts : ActsSeen told cache opens (Release inos) None changes

-- the core with other checkpointed pages, no current one, and other stamps
abbrev pub checkpointed : {F D : Type 0} → CoreState F D → PageList → Stamps → CoreState F D
checkpointed core sealed stamps = record core { cache = record core.cache { sealed = sealed; current = []; stamps = stamps } }

-- the changes lie over what was seen as checkpointed pages
pub record IsCheckpointedBy {F D : Type 0} (old new : CoreState F D) (changes : ChangeList) : Type 0 where
  pub are : AreChanges changes
  pub view : (image : Image) → under image new.cache.sealed ≡ under (under image old.cache.sealed) (installed old.cache.current changes)
  pub event : new ≡ with_room (checkpointed old new.cache.sealed (raised_by old.cache.stamps changes)) new

-- the nameless files were reclaimed
pub record IsSwept {F D : Type 0} (told : D → Option Image) (old new : CoreState F D) (inos : List ℕ) : Type 0 where
  pub changes : ChangeList
  pub acts : ActsOnNameless told old.cache inos changes
  pub put : IsCheckpointedBy (with_disk old new.cache.disk) new changes
