-- The scan finds nothing exactly where the image is a volume.
use Rattle.std.proofs.Common.{◌≡◌, ℕ, List, [], ◌++◌, true, length, Result, Ok, Err, None, refl, sym, ap, subst, ◌∙◌, arith, append_assoc}
use Rattle.std.proofs.lemmas.List.Sorted.{length_permutation}
use Rattle.mb_kinds.specs.Image.{Image}
use Rattle.mb_tree.specs.Inodes.{is_directory}
use Rattle.mb_tree.specs.Trees.{AreSlots, EachDirectory, IsSound}
use Rattle.mb_tree.specs.declared.trees.Tree.{Tree}
use Rattle.mb_tree.specs.Blocks.{first_list, list_in}
use Rattle.mb_tree.proofs.OneTrees.{one_tree}
use Rattle.mb_nodes.proofs.Volumes.{stored_of, volume_of}
use Rattle.mb_rules.specs.Items.{Item, walked, walked_on, finding}
use Rattle.mb_rules.specs.declared.findings.Finding.{Finding}
use Rattle.mb_rules.specs.SuperBlock.{super_block_items}
use Rattle.mb_rules.specs.FreeChain.{chain_items}
use Rattle.mb_rules.specs.Files.{files_items, mode_at, root_items}
use Rattle.mb_rules.specs.Slots.{slots_items}
use Rattle.mb_rules.specs.Parents.{parents_items}
use Rattle.mb_rules.specs.Scan.{scan, scan_items}
use Rattle.mb_rules.specs.TreeOf.{chain_of, tree_of}
use Rattle.mb_scan_laws.specs.Laws.{Accepted, Accepts, CapacityMet, HasParents, TreeShown, first_items}
use Rattle.mb_scan_laws.specs.Shown.{IsShown}
use Rattle.mb_rules.proofs.FreeChains.{chain_accepts, none_once}
use Rattle.mb_scan_laws.proofs.Costs.{files_cost}
use Rattle.mb_scan_laws.proofs.ParentsAccepted.{parents_accept, parents_tests}
use Rattle.mb_scan_laws.proofs.ShownDirectories.{directory_test}
use Rattle.mb_scan_laws.proofs.SlotsAccepted.{slots_accept, slots_tests}
use Rattle.mb_scan_laws.proofs.Storing.{few_free, stored_walks, stores, walk_then, walked_once}
use Rattle.mb_scan_laws.proofs.WalkTests.{AreTests, tests_walk}
use Rattle.mb_rules.proofs.Walks.{walk_append, walk_holds}

nothing : (r : Result (List ℕ) Finding) → finding r ≡ None → (met : List ℕ) × (r ≡ Ok met)
nothing (Ok met) h = (met, refl)
nothing (Err broken) h = absurd (cc)

-- a walk of two lists of items is one of each
record IsSplit (met : List ℕ) (xs ys : List Item) (after : List ℕ) : Type 0 where
  mid : List ℕ
  one : walked met xs ≡ Ok mid
  two : walked mid ys ≡ Ok after

split_on : (r : Result (List ℕ) Finding) (ys : List Item) (after : List ℕ) → walked_on r ys ≡ Ok after → (mid : List ℕ) × (r ≡ Ok mid) × (walked mid ys ≡ Ok after)
split_on (Ok mid) ys after h = (mid, refl, h)
split_on (Err broken) ys after h = absurd (cc)

split : (met : List ℕ) (xs ys : List Item) (after : List ℕ) → walked met (xs ++ ys) ≡ Ok after → IsSplit met xs ys after
split met xs ys after h = let parts = split_on (walked met xs) ys after (sym (walk_append met xs ys) ∙ h) in record { mid = parts.0; one = parts.1; two = parts.2 }

-- items that are tests meet nothing
met_tests : (met : List ℕ) (items : List Item) → AreTests items → (after : List ℕ) → walked met items ≡ Ok after → walked met items ≡ Ok met
met_tests met items are after h = tests_walk met items are (walk_holds met items after h).0

abbrev late_items : Image → List Item
late_items image = root_items image.at ++ (slots_items image.at ++ parents_items image.at)

module _ (image : Image) where
  scan_none : scan image ≡ None → (met : List ℕ) × (walked [] (scan_items image) ≡ Ok met)
  unfolding scan
  scan_none h = nothing (walked [] (scan_items image)) h

  none_scan : (met : List ℕ) → walked [] (scan_items image) ≡ Ok met → scan image ≡ None
  unfolding scan
  none_scan met h = ap finding h

  -- the first three parts, and then the other three
  parts : scan_items image ≡ first_items image ++ late_items image
  parts =
      ap (λ xs. super_block_items image ++ xs) (sym (append_assoc (chain_items image.at) (files_items image.at) (late_items image)))
      ∙ sym (append_assoc (super_block_items image) (chain_items image.at ++ files_items image.at) (late_items image))

sound_of : (image : Image) (tree : Tree) (chain : List ℕ) → IsShown image tree chain → EachDirectory tree (AreSlots tree.nodes) → HasParents tree → IsSound tree
sound_of image tree chain shown slots parents = record {
  numbers = shown.stored.numbers;
  kinds = shown.kinds;
  sizes = shown.sizes;
  root = parents.root;
  slots = slots;
  parents = parents.parents;
  counted = parents.counted;
  few = parents.few;
  room = (let all = shown.stored.capacity in omega (arith, all));
}

pub accepts : Accepts
accepts image bytes h =
    let walk = scan_none image h in
    let one = split [] (first_items image) (late_items image) walk.0 (sym (ap (walked []) (parts image)) ∙ walk.1) in
    let two = split one.mid (root_items image.at) (slots_items image.at ++ parents_items image.at) walk.0 one.two in
    let three = split two.mid (slots_items image.at) (parents_items image.at) walk.0 two.two in
    let shown = stores image one.mid bytes one.one in
    let root = (walk_holds one.mid (root_items image.at) two.mid two.one).0.0 in
    let slots = (slots_accept image (tree_of image) (chain_of image.at) two.mid shown).0 (met_tests two.mid (slots_items image.at) (slots_tests image.at) three.mid three.one) in
    let parents = (parents_accept image (tree_of image) (chain_of image.at) three.mid shown slots root).0 (met_tests three.mid (parents_items image.at) (parents_tests image.at) walk.0 three.two) in
    volume_of image (tree_of image) (chain_of image.at) shown.stored (sound_of image (tree_of image) (chain_of image.at) shown slots parents)

pub accepted : Accepted
accepted image tree volume =
    let sound = volume.sound in
    let shown : IsShown image tree volume.chain = record { stored = stored_of image tree volume; kinds = sound.kinds; sizes = sound.sizes } in
    let first = stored_walks image tree volume.chain shown in
    let root : is_directory (mode_at image.at 2) ≡ true = directory_test image tree volume.chain shown 2 sound.root.node sound.root.slots sound.root.has sound.root.body in
    let root_walk = tests_walk first.0 (root_items image.at) tt (root, tt) in
    let slots_walk = (slots_accept image tree volume.chain first.0 shown).1 sound.slots in
    let parents_walk = (parents_accept image tree volume.chain first.0 shown sound.slots root).1 (record { root = sound.root; parents = sound.parents; counted = sound.counted; few = sound.few }) in
    none_scan image first.0 (ap (walked []) (parts image) ∙ walk_then [] (first_items image) (late_items image) first.0 first.0 first.1
    (walk_then first.0 (root_items image.at) (slots_items image.at ++ parents_items image.at) first.0 first.0 root_walk
    (walk_then first.0 (slots_items image.at) (parents_items image.at) first.0 first.0 slots_walk parents_walk)))

pub tree_shown : TreeShown
tree_shown image tree volume = one_tree image tree (tree_of image) volume (accepts image volume.bytes (accepted image tree volume))

pub capacity_met : CapacityMet
capacity_met image met bytes h =
    let one = split [] (super_block_items image) (chain_items image.at ++ files_items image.at) met h in
    let none : [] ≡ one.mid = (walk_holds [] (super_block_items image) one.mid one.one).1 in
    let two = split [] (chain_items image.at) (files_items image.at) met (subst (λ before. walked before (chain_items image.at ++ files_items image.at) ≡ Ok met) (sym none) one.two) in
    let shown = stores image met bytes h in
    let few = few_free (list_in image.at) (first_list image.at) (chain_of image.at) shown.stored.spare.listed in
    let same = (chain_accepts image.at two.mid shown.stored.sizes.some_inodes few two.one).1 in
    let paid = files_cost image (tree_of image) (chain_of image.at) two.mid met shown.stored shown.kinds (walked_once [] (chain_items image.at) two.mid two.one none_once) two.two in
    let chain : length two.mid ≡ length (chain_of image.at) = sym (length_permutation two.mid (chain_of image.at) same) in
    let whole = shown.stored.capacity in
    omega (arith, paid, chain, whole)
