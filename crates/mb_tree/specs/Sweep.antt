-- The nameless files of a volume that is opened, and that releasing them once makes the tree which opening finds.
use Rattle.std.specs.Prelude.{List, [], ℕ, ◌<◌, ◌≡◌, None, length, count_by, nat_eq}
use Rattle.std.specs.List.{list_any}
use Rattle.std.specs.FinMap as fin
use Rattle.mb_tree.specs.Maps.{Numbered}
use Rattle.mb_tree.specs.Sessions.{Counts}
use Rattle.mb_tree.specs.Opening.{is_nameless, swept}
use Rattle.mb_tree.specs.CarriedOut.{IsCarriedOut}
use Rattle.mb_tree.specs.declared.nodes.Node.{Node}
use Rattle.mb_tree.specs.declared.operations.FsOp.TheVariants.{Release}
use Rattle.mb_tree.specs.declared.trees.Tree.{Tree}

-- the list has the numbers of the nameless files and no other
abbrev pub AreNameless : Numbered Node → List ℕ → Type 0
AreNameless nodes inos = (ino : ℕ) → list_any (nat_eq ino) inos ≡ is_nameless ino (fin.get nodes ino)

-- an open file for each time that a number stands in the list
abbrev pub opens_of_list : List ℕ → Counts
opens_of_list inos ino = count_by (nat_eq ino) inos

-- one release of them all, with a table that counts just them
abbrev pub SweepIsRelease : Type 0
SweepIsRelease = (tree : Tree) (inos : List ℕ) → AreNameless tree.nodes inos → 0 < length inos
    → IsCarriedOut (record { tree = tree; opens = opens_of_list inos }) (record { op = Release inos; pick = None }) (record { tree = record tree { nodes = swept tree.nodes }; opens = λ ino. 0 })

-- where none is nameless there is nothing to sweep
abbrev pub NothingToSweep : Type 0
NothingToSweep = (nodes : Numbered Node) → AreNameless nodes [] → swept nodes ≡ nodes
