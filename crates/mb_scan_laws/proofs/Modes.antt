-- The modes that the bytes show are those of the tree's nodes.
use Rattle.std.proofs.Common.{◌≡◌, ℕ, zero, suc, ◌<◌, ◌≤◌, List, Bool, true, false, not, ◌&&◌, nat_eq, Option, Some, None, refl, sym, ap, subst, ◌∙◌, arith}
use Rattle.std.specs.FinMap as fin
use Rattle.std.proofs.lemmas.Bool.Decides.{nat_tests}
use Rattle.mb_kinds.specs.Image.{Image}
use Rattle.mb_word.specs.Fields.{inode_block, inode_place, mode_of}
use Rattle.mb_tree.specs.Inodes.{is_special}
use Rattle.mb_tree.specs.Trees.{Each, HasKind}
use Rattle.mb_tree.specs.Volume.{HasInode, HasNode, body_has_addresses, node_has_addresses, has_addresses, last_inode}
use Rattle.mb_tree.specs.declared.nodes.Node.{Node}
use Rattle.mb_tree.specs.declared.trees.Tree.{Tree}
use Rattle.mb_nodes.specs.Stored.{IsStored}
use Rattle.mb_rules.specs.Files.{mode_at}
use Rattle.mb_rules.specs.FilesLaws.{is_addressed, AreAddressed}
use Rattle.mb_scan_laws.proofs.ModeTests.{Tests, is_listing, is_plain, kind_tests}

pub mode_in : (blocks : ℕ → List ℕ) (ino : ℕ) → 0 < ino → mode_at blocks ino ≡ mode_of (blocks (inode_block ino)) (inode_place ino)
mode_in blocks zero some = absurd (omega (arith, some))
mode_in blocks (suc before) some = refl

not_zero : (n : ℕ) → (n ≡ 0 → ⊥) → nat_eq n 0 ≡ false
not_zero n some = grind (arith, nat_tests)

not_not : (b : Bool) → not (not b) ≡ b
not_not true = refl
not_not false = refl

-- inodes hold the nodes of a tree, each mode with its kind
pub record HasNodes (blocks : ℕ → List ℕ) (tree : Tree) : Type 0 where
  pub last : tree.last ≡ last_inode blocks
  pub inodes : (ino : ℕ) → 0 < ino → ino ≤ tree.last → HasInode blocks ino (fin.get tree.nodes ino)
  pub numbers : Each tree (λ ino node. (1 ≤ ino) × (ino ≤ tree.last))
  pub kinds : Each tree (λ ino node. HasKind node.mode node.body)

pub nodes_of : (image : Image) (tree : Tree) (chain : List ℕ) → IsStored image tree chain → Each tree (λ ino node. HasKind node.mode node.body) → HasNodes image.at tree
nodes_of image tree chain stored kinds = record { last = stored.last; inodes = stored.inodes; numbers = stored.numbers; kinds = kinds }

module _ (blocks : ℕ → List ℕ) (tree : Tree) (nodes : HasNodes blocks tree) where
  module _ (ino : ℕ) (node : Node) (has : fin.get tree.nodes ino ≡ Some node) where
    pub some_ino : 0 < ino
    some_ino = let r = (nodes.numbers ino node has).0 in omega (arith, r)

    pub node_in : HasNode blocks ino node
    node_in = subst (HasInode blocks ino) has (nodes.inodes ino some_ino (nodes.numbers ino node has).1)

    pub node_mode : mode_at blocks ino ≡ node.mode
    node_mode = mode_in blocks ino some_ino ∙ node_in.mode

    pub node_used : nat_eq (mode_at blocks ino) 0 ≡ false
    node_used = not_zero (mode_at blocks ino) (λ e. node_in.used (sym (mode_in blocks ino some_ino) ∙ e))

    pub node_tests : Tests (mode_at blocks ino) (not (body_has_addresses node.body)) (is_listing node.body) (is_plain node.body)
    node_tests = subst (λ m. Tests m (not (body_has_addresses node.body)) (is_listing node.body) (is_plain node.body)) (sym node_mode) (kind_tests node.mode node.body (nodes.kinds ino node has))

    pub node_addressed : is_addressed blocks ino ≡ body_has_addresses node.body
    node_addressed = ap (λ b. not b && not (is_special (mode_at blocks ino))) node_used ∙ ap not node_tests.special_is ∙ not_not (body_has_addresses node.body)

  free_below : (ino : ℕ) → 0 < ino → ino ≤ tree.last → fin.get tree.nodes ino ≡ None → mode_of (blocks (inode_block ino)) (inode_place ino) ≡ 0
  free_below ino some low none = subst (HasInode blocks ino) none (nodes.inodes ino some low)

  pub none_free : (ino : ℕ) → ino ≤ tree.last → fin.get tree.nodes ino ≡ None → mode_at blocks ino ≡ 0
  none_free zero low none = refl
  none_free (suc before) low none = free_below (suc before) (omega arith) low none

  addressed_by : (ino : ℕ) (o : Option Node) → fin.get tree.nodes ino ≡ o → ino ≤ tree.last → node_has_addresses o ≡ is_addressed blocks ino
  addressed_by ino None e low = sym (ap (λ m. not (nat_eq m 0) && not (is_special m)) (none_free ino low e))
  addressed_by ino (Some node) e low = sym (node_addressed ino node e)

  pub addressed_is : (ino : ℕ) → ino ≤ tree.last → has_addresses tree ino ≡ is_addressed blocks ino
  addressed_is ino low = addressed_by ino (fin.get tree.nodes ino) refl low

  holder : (ino : ℕ) (o : Option Node) → fin.get tree.nodes ino ≡ o → node_has_addresses o ≡ true → (1 ≤ ino) × (ino ≤ tree.last)
  holder ino None e t = absurd (cc)
  holder ino (Some node) e t = nodes.numbers ino node e

  pub are_addressed : AreAddressed blocks (has_addresses tree)
  are_addressed ino = (
    λ t. (let r = holder ino (fin.get tree.nodes ino) refl t in let l = nodes.last in (r.0, (let low = r.1 in omega (arith, low, l)), sym (addressed_is ino r.1) ∙ t)),
    λ t. (let l = nodes.last in let low = t.1 in addressed_is ino (omega (arith, low, l)) ∙ t.2),
  )
