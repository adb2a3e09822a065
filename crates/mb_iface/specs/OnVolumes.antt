-- What is said of every image that is a volume of a tree, and of which a view shows a part.
use Rattle.std.specs.Prelude.{List, ℕ, Option}
use Rattle.mb_kinds.specs.Image.{Image}
use Rattle.mb_tree.specs.Views.{IsPart}
use Rattle.mb_tree.specs.Volume.{IsVolume}
use Rattle.mb_tree.specs.declared.trees.Tree.{Tree}

abbrev pub OnVolumes : (ℕ → Option (List ℕ)) → (Image → Tree → Type 0) → Type 0
OnVolumes shown says = (image : Image) (tree : Tree) → IsPart shown image.at → IsVolume image tree → says image tree
