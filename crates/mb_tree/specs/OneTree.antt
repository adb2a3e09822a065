-- The law that the bytes of a volume determine its tree.
use Rattle.std.specs.Prelude.{◌≡◌}
use Rattle.mb_kinds.specs.Image.{Image}
use Rattle.mb_tree.specs.Volume.{IsVolume}
use Rattle.mb_tree.specs.declared.trees.Tree.{Tree}

-- an image is a volume of at most one tree
abbrev pub OneTree : Type 0
OneTree = (image : Image) (tree other : Tree) → IsVolume image tree → IsVolume image other → tree ≡ other
