-- A volume is a stored tree that is sound.
use Rattle.std.proofs.Common.{ℕ, List}
use Rattle.mb_kinds.specs.Image.{Image}
use Rattle.mb_tree.specs.Trees.{IsSound}
use Rattle.mb_tree.specs.Volume.{IsVolume}
use Rattle.mb_tree.specs.declared.trees.Tree.{Tree}
use Rattle.mb_nodes.specs.Stored.{IsStored}

pub stored_of : (image : Image) (tree : Tree) (volume : IsVolume image tree) → IsStored image tree volume.chain
stored_of image tree volume = record {
  bytes = volume.bytes;
  sizes = volume.sizes;
  cached = volume.cached;
  last = volume.last;
  inodes = volume.inodes;
  held = volume.held;
  spare = volume.spare;
  capacity = volume.capacity;
  numbers = volume.sound.numbers;
}

pub volume_of : (image : Image) (tree : Tree) (chain : List ℕ) → IsStored image tree chain → IsSound tree → IsVolume image tree
volume_of image tree chain stored sound = record {
  chain = chain;
  bytes = stored.bytes;
  sizes = stored.sizes;
  cached = stored.cached;
  last = stored.last;
  inodes = stored.inodes;
  held = stored.held;
  spare = stored.spare;
  capacity = stored.capacity;
  sound = sound;
}
