-- The directories that the bytes show are those of the tree.
use Rattle.std.proofs.Common.{◌≡◌, ℕ, ◌/◌, ◌≤◌, List, true, false, length, Option, Some, None, refl, sym, ap, subst, ◌∙◌, arith}
use Rattle.std.specs.FinMap as fin
use Rattle.mb_kinds.specs.Image.{Image}
use Rattle.mb_tree.specs.Inodes.{is_directory}
use Rattle.mb_tree.specs.Trees.{HasSize}
use Rattle.mb_tree.specs.Volume.{HasBody, HasDirectory, last_inode}
use Rattle.mb_tree.specs.declared.nodes.Body.{Body}
use Rattle.mb_tree.specs.declared.nodes.Body.TheVariants.{Regular, Directory, Special}
use Rattle.mb_tree.specs.declared.nodes.Node.{Node}
use Rattle.mb_tree.specs.declared.nodes.PlainSlot.{PlainSlot}
use Rattle.mb_tree.specs.declared.trees.Tree.{Tree}
use Rattle.mb_rules.specs.Files.{mode_at, size_at}
use Rattle.mb_scan_laws.specs.Shown.{IsShown}
use Rattle.mb_scan_laws.proofs.ModeTests.{is_listing}
use Rattle.mb_scan_laws.proofs.Modes.{HasNodes, nodes_of, node_in, node_tests, none_free}

-- a directory of the tree, with its slots
pub record IsListed (tree : Tree) (ino : ℕ) : Type 0 where
  pub node : Node
  pub slots : List PlainSlot
  pub has : fin.get tree.nodes ino ≡ Some node
  pub body : node.body ≡ Directory slots

listed_body : (body : Body) → is_listing body ≡ true → (slots : List PlainSlot) × (body ≡ Directory slots)
listed_body (Regular size parts) t = absurd (cc)
listed_body (Directory slots) t = (slots, refl)
listed_body (Special size area) t = absurd (cc)

module _ (image : Image) (tree : Tree) (chain : List ℕ) (shown : IsShown image tree chain) where
  pub shown_nodes : HasNodes image.at tree
  shown_nodes = nodes_of image tree chain shown.stored shown.kinds

  listed_by : (ino : ℕ) (o : Option Node) → fin.get tree.nodes ino ≡ o → ino ≤ tree.last → is_directory (mode_at image.at ino) ≡ true → IsListed tree ino
  listed_by ino None e low t = absurd (let none : is_directory (mode_at image.at ino) ≡ false = ap is_directory (none_free image.at tree shown_nodes ino low e) in cc)
  listed_by ino (Some node) e low t =
      let found = listed_body node.body (sym (node_tests image.at tree shown_nodes ino node e).directory_is ∙ t) in
      record { node = node; slots = found.0; has = e; body = found.1 }

  pub listed : (ino : ℕ) → ino ≤ last_inode image.at → is_directory (mode_at image.at ino) ≡ true → IsListed tree ino
  listed ino low t = listed_by ino (fin.get tree.nodes ino) refl (let l = shown.stored.last in omega (arith, low, l)) t

  module _ (ino : ℕ) (node : Node) (slots : List PlainSlot) (has : fin.get tree.nodes ino ≡ Some node) (body : node.body ≡ Directory slots) where
    pub directory_has : HasDirectory image.at ino slots
    directory_has = subst (HasBody image.at ino) body (node_in image.at tree shown_nodes ino node has).body

    pub directory_test : is_directory (mode_at image.at ino) ≡ true
    directory_test = (node_tests image.at tree shown_nodes ino node has).directory_is ∙ ap is_listing body

    pub directory_slots : size_at image.at ino / 16 ≡ length slots
    directory_slots = (let e = directory_has.sized in omega (arith, e))

    pub directory_two : 2 ≤ length slots
    directory_two = subst HasSize body (shown.sizes ino node has)

    pub directory_number : (1 ≤ ino) × (ino ≤ last_inode image.at)
    directory_number = (let r = shown_nodes.numbers ino node has in let l = shown_nodes.last in let low = r.1 in (r.0, omega (arith, low, l)))
