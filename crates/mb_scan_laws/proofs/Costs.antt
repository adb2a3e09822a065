-- The addresses of the files number the cost of the tree.
use Rattle.std.proofs.Common.{◌≡◌, ℕ, suc, ◌+◌, ◌≤◌, List, [], Bool, true, false, not, nat_eq, length, if◌then◌else◌, Option, Some, None, ◌∷◌, ◌++◌, refl, sym, ap, subst, ◌∙◌, arith}
use Rattle.std.specs.FinMap as fin
use Rattle.std.specs.List.{IsDistinct}
use Rattle.mb_kinds.specs.Image.{Image}
use Rattle.mb_word.specs.Fields.{inode_block}
use Rattle.mb_tree.specs.Counting.{sum_below}
use Rattle.mb_tree.specs.Cost.{cost, cost_at, body_cost}
use Rattle.mb_tree.specs.Inodes.{is_special, is_directory}
use Rattle.mb_tree.specs.Trees.{Each, HasKind}
use Rattle.mb_tree.specs.Volume.{body_has_addresses, last_inode}
use Rattle.mb_tree.specs.declared.nodes.Body.{Body}
use Rattle.mb_tree.specs.declared.nodes.Body.TheVariants.{Regular, Directory, Special}
use Rattle.mb_tree.specs.declared.nodes.Node.{Node}
use Rattle.mb_tree.specs.declared.trees.Tree.{Tree}
use Rattle.mb_tree.proofs.Groups.{no_blocks}
use Rattle.mb_nodes.specs.Stored.{IsStored}
use Rattle.mb_nodes.proofs.NodeParts.{node_cost}
use Rattle.mb_rules.specs.Items.{Item, Holds}
use Rattle.mb_rules.specs.Files.{mode_at, size_at, is_kind, is_size, are_parts, area_items, inode_items, files_items}
use Rattle.mb_rules.proofs.Walks.{met_after, met_append, once_before, walk_holds, walk_once}
use Rattle.mb_rules.proofs.Ways.{once_at}
use Rattle.mb_scan_laws.specs.Laws.{FilesCost}
use Rattle.mb_scan_laws.proofs.Claims.{met_count, met_length, count_append, count_each, alone_once, area_enumerates}
use Rattle.mb_scan_laws.proofs.Modes.{HasNodes, nodes_of, none_free, node_tests, node_used}

-- an inode's items by its tests
abbrev pub shaped : (ℕ → List ℕ) → ℕ → Bool → Bool → Bool → List Item
shaped blocks ino unused special directory =
    if unused then []
    else Holds (is_kind (mode_at blocks ino)) (inode_block ino) 5
    ∷ Holds (is_size (mode_at blocks ino) (size_at blocks ino)) (inode_block ino) 8
    ∷ ((if special then [] else area_items blocks ino) ++ (if directory then Holds (are_parts blocks ino) (inode_block ino) 8 ∷ [] else []))

plain_count : (blocks : ℕ → List ℕ) (ino : ℕ) (directory : Bool) → met_count (shaped blocks ino false false directory) ≡ met_count (area_items blocks ino)
plain_count blocks ino true = (let e = count_append (area_items blocks ino) (Holds (are_parts blocks ino) (inode_block ino) 8 ∷ []) in omega (arith, e))
plain_count blocks ino false = (let e = count_append (area_items blocks ino) [] in omega (arith, e))

special_count : (blocks : ℕ → List ℕ) (ino : ℕ) (directory : Bool) → met_count (shaped blocks ino false true directory) ≡ 0
special_count blocks ino true = refl
special_count blocks ino false = refl

no_cost : (body : Body) → body_has_addresses body ≡ false → 0 ≡ body_cost body
no_cost (Regular size parts) f = absurd (cc)
no_cost (Directory slots) f = absurd (cc)
no_cost (Special size area) f = no_blocks

module _ (image : Image) (tree : Tree) (chain : List ℕ) (stored : IsStored image tree chain) (kinds : Each tree (λ ino node. HasKind node.mode node.body)) where
  nodes : HasNodes image.at tree
  nodes = nodes_of image tree chain stored kinds

  area_once : (ino : ℕ) (directory : Bool) → IsDistinct nat_eq (met_after [] (shaped image.at ino false false directory)) → IsDistinct nat_eq (met_after [] (area_items image.at ino))
  area_once ino directory once =
      let last : List Item = if directory then Holds (are_parts image.at ino) (inode_block ino) 8 ∷ [] else [] in
      once_before (met_after [] (area_items image.at ino)) last (subst (IsDistinct nat_eq) (met_append [] (area_items image.at ino) last) once)

  inode_count : (ino : ℕ) (node : Node) (has : fin.get tree.nodes ino ≡ Some node) → IsDistinct nat_eq (met_after [] (inode_items image.at ino)) → (addresses : Bool) → body_has_addresses node.body ≡ addresses
      → met_count (inode_items image.at ino) ≡ body_cost node.body
  inode_count ino node has once true t =
      let mode : ℕ = mode_at image.at ino in
      let plain : is_special mode ≡ false = (node_tests image.at tree nodes ino node has).special_is ∙ ap not t in
      let is : inode_items image.at ino ≡ shaped image.at ino false false (is_directory mode) =
      ap (λ b. shaped image.at ino b (is_special mode) (is_directory mode)) (node_used image.at tree nodes ino node has) ∙ ap (λ b. shaped image.at ino false b (is_directory mode)) plain in
      let area = area_once ino (is_directory mode) (subst (λ items. IsDistinct nat_eq (met_after [] items)) is once) in
      ap met_count is ∙ plain_count image.at ino (is_directory mode) ∙ node_cost image tree chain stored ino node has t (met_after [] (area_items image.at ino)) (area_enumerates image.at ino area)
  inode_count ino node has once false f =
      let mode : ℕ = mode_at image.at ino in
      let odd : is_special mode ≡ true = (node_tests image.at tree nodes ino node has).special_is ∙ ap not f in
      let is : inode_items image.at ino ≡ shaped image.at ino false true (is_directory mode) =
      ap (λ b. shaped image.at ino b (is_special mode) (is_directory mode)) (node_used image.at tree nodes ino node has) ∙ ap (λ b. shaped image.at ino false b (is_directory mode)) odd in
      ap met_count is ∙ special_count image.at ino (is_directory mode) ∙ no_cost node.body f

  count_by : (ino : ℕ) (o : Option Node) → fin.get tree.nodes ino ≡ o → ino ≤ tree.last → IsDistinct nat_eq (met_after [] (inode_items image.at ino)) → met_count (inode_items image.at ino) ≡ cost_at o
  count_by ino None e low once =
      ap (λ m. met_count (shaped image.at ino (nat_eq m 0) (is_special (mode_at image.at ino)) (is_directory (mode_at image.at ino)))) (none_free image.at tree nodes ino low e)
  count_by ino (Some node) e low once = inode_count ino node e once (body_has_addresses node.body) refl

  zero_free : (o : Option Node) → fin.get tree.nodes 0 ≡ o → cost_at o ≡ 0
  zero_free None e = refl
  zero_free (Some node) e = absurd (let r = (stored.numbers 0 node e).0 in omega (arith, r))

  files_count : (met : List ℕ) → IsDistinct nat_eq (met_after met (files_items image.at)) → met_count (files_items image.at) ≡ cost tree
  files_count met once =
      let l = stored.last in
      let sum : met_count (files_items image.at) ≡ sum_below (λ ino. cost_at (fin.get tree.nodes ino)) (suc (last_inode image.at)) =
      count_each (inode_items image.at) (λ ino. cost_at (fin.get tree.nodes ino)) (last_inode image.at) (zero_free (fin.get tree.nodes 0) refl)
      (λ k some low. (let here = once_at (inode_items image.at) 1 (last_inode image.at) k met some (omega (arith, low)) once in
      count_by k (fin.get tree.nodes k) refl (omega (arith, low, l)) (alone_once (inode_items image.at k) here.0 here.1))) in
      sum ∙ ap (sum_below (λ ino. cost_at (fin.get tree.nodes ino))) (let e : suc (last_inode image.at) ≡ tree.last + 1 = omega (arith, l) in e)

pub files_cost : FilesCost
files_cost image tree chain met after stored kinds once h =
    let passed = walk_holds met (files_items image.at) after h in
    let all = files_count image tree chain stored kinds met (walk_once met (files_items image.at) after h once) in
    let whole = sym (ap length passed.1) ∙ met_length (files_items image.at) met in
    omega (arith, all, whole)
