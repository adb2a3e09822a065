-- Laws of volumes: how what is kept on a volume goes on over changes in a row, and that a volume is one by its
-- blocks below s_fsize alone: neither block 0 nor what a device has or reads past them is any matter.
use Rattle.std.specs.Prelude.{ℕ, ◌<◌, ◌≤◌, ◌≡◌, length}
use Rattle.mb_kinds.specs.Image.{Image}
use Rattle.mb_word.specs.Fields.{fsize_of}
use Rattle.mb_tree.specs.declared.trees.Tree.{Tree}
use Rattle.mb_tree.specs.Views.{Kept}
use Rattle.mb_tree.specs.Volume.{IsVolume}

-- what two changes in a row keep, both together keep
abbrev pub KeptComposes : Type 0
KeptComposes = (first next last : Tree) (old new newest : Image) → Kept first old next new → Kept next new last newest → Kept first old last newest

-- where nothing changes all is kept
abbrev pub KeptSame : Type 0
KeptSame = (tree : Tree) (image : Image) → Kept tree image tree image

-- a volume is one on every device that has its blocks
abbrev pub VolumeResized : Type 0
VolumeResized = (image : Image) (tree : Tree) (count : ℕ) → fsize_of (image.at 1) ≤ count → IsVolume image tree → IsVolume (record image { count = count }) tree

-- what is kept says nothing of the number of blocks, neither before nor after
abbrev pub KeptResized : Type 0
KeptResized = (before later : Tree) (old new : Image) (old_count new_count : ℕ) → Kept before old later new → Kept before (record old { count = old_count }) later (record new { count = new_count })

-- another device with the bytes of a volume's blocks, from the super-block to the last one below s_fsize
pub record HasBlocksOf (image other : Image) : Type 0 where
  pub enough : fsize_of (image.at 1) ≤ other.count
  pub bytes : (block : ℕ) → length (other.at block) ≡ 512
  pub same : (block : ℕ) → 0 < block → block < fsize_of (image.at 1) → other.at block ≡ image.at block

-- a volume is one by these blocks alone
abbrev pub VolumeByItsBlocks : Type 0
VolumeByItsBlocks = (image other : Image) (tree : Tree) → HasBlocksOf image other → IsVolume image tree → IsVolume other tree
