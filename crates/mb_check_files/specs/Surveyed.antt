-- What the first three parts of the scan keep of an image.
use Rattle.std.specs.Prelude.{ℕ, ◌≡◌, ◌≤◌, length}
use Rattle.mb_kinds.specs.Image.{Image}
use Rattle.mb_tree.specs.Cost.{cost}
use Rattle.mb_tree.specs.Volume.{last_inode}
use Rattle.mb_rules.specs.TreeOf.{chain_of, tree_of}
use Rattle.mb_check_files.specs.InodeTables.{KeepsInodes}
use Rattle.mb_check_files.specs.declared.surveys.VolumeFiles.{VolumeFiles}

-- what the files hold is the cost of the tree that the bytes show
pub record TellsSpace (image : Image) (held free : ℕ) : Type 0 where
  pub paid : held ≡ cost (tree_of image)
  pub chain : free ≡ length (chain_of image.at)

-- the inodes, what the files hold, and the free blocks
pub record TellsFiles (image : Image) (files : VolumeFiles) : Type 0 where
  pub last : files.last ≡ last_inode image.at
  pub table : KeepsInodes image.at files.table files.last
  pub few : length files.table.parts.addresses.items ≤ 262144
  pub space : TellsSpace image files.held files.free
