-- One component of a path looked up on a volume.
use Rattle.std.specs.Prelude.{List, ℕ, ◌≡◌, Option, Some, None, Ok, Err}
use Rattle.mb_kinds.specs.Image.{Image}
use Rattle.mb_kinds.specs.declared.credentials.Cred.{Cred}
use Rattle.mb_tree.specs.Lookup.{look}
use Rattle.mb_tree.specs.Trees.{IsThere}
use Rattle.mb_tree.specs.Views.{over, IsPart}
use Rattle.mb_tree.specs.Volume.{IsVolume}
use Rattle.mb_tree.specs.declared.trees.Tree.{Tree}
use Rattle.mb_kinds.specs.Changed.{ChangeList, changed}
use Rattle.mb_iface.specs.Near.{IsNear}
use Rattle.mb_iface.specs.Needs.{IsNeed}
use Rattle.mb_namei.specs.declared.lookups.LookedUp.{LookedUp}
use Rattle.mb_namei.specs.declared.lookups.LookedUp.TheVariants as found

-- what is said of a volume's tree in which an inode is there, of whatever volume a view with changes over it is a part
abbrev pub OnVolume : (ℕ → Option (List ℕ)) → ChangeList → ℕ → (Image → Tree → Type 0) → Type 0
OnVolume shown changes ino says = (count : ℕ) (blocks : ℕ → List ℕ) (tree : Tree) → IsPart shown blocks
    → IsVolume (record { count = count; at = over blocks (changed changes) }) tree → IsThere tree.nodes ino
    → says (record { count = count; at = over blocks (changed changes) }) tree

-- the reference tree's answer for one component
abbrev pub LooksUp : (ℕ → Option (List ℕ)) → ChangeList → Cred → ℕ → List ℕ → LookedUp → Type 0
LooksUp shown changes cred dir name (found.Number ino) = OnVolume shown changes dir (λ image tree. look tree.nodes cred dir name ≡ Ok (Some ino))
LooksUp shown changes cred dir name found.Missing = OnVolume shown changes dir (λ image tree. look tree.nodes cred dir name ≡ Ok None)
LooksUp shown changes cred dir name (found.Refused e) = OnVolume shown changes dir (λ image tree. look tree.nodes cred dir name ≡ Err e)
LooksUp shown changes cred dir name (found.Need need) = IsNeed shown need × OnVolume shown changes dir (λ image tree. IsNear image tree (λ ino. ino ≡ dir) need.first)
