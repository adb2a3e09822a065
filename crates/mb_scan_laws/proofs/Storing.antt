-- The scan's first three parts hold exactly where the tree is stored that the bytes show.
use Rattle.std.proofs.Common.{◌≡◌, ◌≢◌, inl, inr, ℕ, ◌<◌, ◌≤◌, List, [], ◌∷◌, ◌++◌, Bool, true, false, ◌&&◌, nat_eq, nat_le, nat_lt, All, length, Ok, refl, sym, ap, subst, ◌∙◌, arith}
use Rattle.std.specs.List.{IsDistinct, Contains}
use Rattle.std.specs.List.Sorted.{IsPermutation}
use Rattle.std.proofs.lemmas.Bool.Decides.{nat_tests}
use Rattle.std.proofs.lemmas.List.Elements.{All-contains, All-contains_itself, All-weaker}
use Rattle.std.proofs.lemmas.List.Sorted.{list_any-IsPermutation}
use Rattle.mb_kinds.specs.Image.{Image}
use Rattle.mb_word.specs.Fields.{isize_of, fsize_of, nfree_of, ninode_of}
use Rattle.mb_tree.specs.Blocks.{pointers, first_list, list_in}
use Rattle.mb_tree.specs.Chain.{IsChain, Listed}
use Rattle.mb_tree.specs.Inodes.{is_special, is_directory}
use Rattle.mb_tree.specs.Places.{Place, at, IsPlace}
use Rattle.mb_tree.specs.Volume.{HasSizes, IsOpenToFiles, has_addresses, last_inode}
use Rattle.mb_tree.specs.declared.trees.Tree.{Tree}
use Rattle.mb_blocks.proofs.Groupings.{has_in, in_has}
use Rattle.mb_rules.specs.Items.{Item, Holds, walked, walked_on, is_met}
use Rattle.mb_rules.specs.SuperBlock.{are_sizes, super_block_items}
use Rattle.mb_rules.specs.FreeChain.{chain_items}
use Rattle.mb_rules.specs.FreeChainLaws.{HasChain}
use Rattle.mb_rules.specs.Files.{mode_at, size_at, is_kind, is_size, are_parts, area_items, inode_items, files_items}
use Rattle.mb_rules.specs.FilesLaws.{HoldsApart, KeepKinds}
use Rattle.mb_rules.specs.TreeOf.{chain_of, tree_of}
use Rattle.mb_rules.proofs.Walks.{AllHold, both, hold_each, hold_left, hold_right, met_after, met_append, once_before, walk_append, walk_holds, walk_once, walks}
use Rattle.mb_rules.proofs.Files.{holds_apart}
use Rattle.mb_rules.proofs.FilesAccepted.{files_accepted, not_true}
use Rattle.mb_rules.proofs.FreeChains.{chain_accepts, chain_accepted, none_once}
use Rattle.mb_scan_laws.specs.Laws.{first_items, Stores, StoredWalks}
use Rattle.mb_scan_laws.specs.Shown.{IsShown}
use Rattle.mb_scan_laws.proofs.Costs.{shaped}
use Rattle.mb_scan_laws.proofs.Modes.{HasNodes, are_addressed, nodes_of}
use Rattle.mb_scan_laws.proofs.ShownTrees.{keep_kinds}
use Rattle.mb_scan_laws.proofs.TreeNodes.{tree_cap, tree_has_nodes, tree_last, tree_sizes}

-- ---- the super-block

sizes_are : (image : Image) → nat_le 2 image.count ≡ true → are_sizes (image.at 1) image.count ≡ true → HasSizes image
sizes_are image blocks t =
    let low = nat_le 3 (isize_of (image.at 1)) in
    let high = nat_le (isize_of (image.at 1)) 8193 in
    let some = nat_lt (isize_of (image.at 1)) (fsize_of (image.at 1)) in
    let few = nat_le (fsize_of (image.at 1)) 262144 in
    let one = both (low && high && some && few) (nat_le (fsize_of (image.at 1)) image.count) t in
    let two = both (low && high && some) few one.0 in
    let three = both (low && high) some two.0 in
    let four = both low high three.0 in
    let a = four.0 in
    let b = four.1 in
    let c = three.1 in
    let d = two.1 in
    let e = one.1 in
    record {
      blocks = grind (arith, nat_tests);
      some_inodes = grind (arith, nat_tests);
      few_inodes = grind (arith, nat_tests);
      some_blocks = grind (arith, nat_tests);
      few_blocks = grind (arith, nat_tests);
      present = grind (arith, nat_tests);
    }

are_both : (a b : Bool) → a ≡ true → b ≡ true → (a && b) ≡ true
are_both a b one two = ap (λ x. x && b) one ∙ two

le_test : (a b : ℕ) → a ≤ b → nat_le a b ≡ true
le_test a b h = grind (arith, nat_tests)

lt_test : (a b : ℕ) → a < b → nat_lt a b ≡ true
lt_test a b h = grind (arith, nat_tests)

super_holds : (image : Image) → HasSizes image → nfree_of (image.at 1) ≤ 50 → ninode_of (image.at 1) ≤ 100 → AllHold (super_block_items image)
super_holds image sizes free cached = (
  le_test 2 image.count sizes.blocks,
  (
    are_both _ _ (are_both _ _ (are_both _ _ (are_both _ _ (le_test _ _ sizes.some_inodes) (le_test _ _ sizes.few_inodes)) (lt_test _ _ sizes.some_blocks)) (le_test _ _ sizes.few_blocks)) (le_test _ _ sizes.present),
    (are_both _ _ (le_test _ _ free) (le_test _ _ cached), tt),
  ),
)

-- ---- rules 5 and 8 of each inode

module _ (blocks : ℕ → List ℕ) where
  shape_keeps : (ino : ℕ) (special directory : Bool) → AllHold (shaped blocks ino false special directory)
      → (is_kind (mode_at blocks ino) ≡ true) × (is_size (mode_at blocks ino) (size_at blocks ino) ≡ true) × (directory ≡ true → are_parts blocks ino ≡ true)
  shape_keeps ino true true all = (all.0, all.1.0, λ t. all.1.1.0)
  shape_keeps ino true false all = (all.0, all.1.0, λ t. absurd (cc))
  shape_keeps ino false true all = (all.0, all.1.0, λ t. (hold_right (area_items blocks ino) (Holds (are_parts blocks ino) _ 8 ∷ []) all.1.1).0)
  shape_keeps ino false false all = (all.0, all.1.0, λ t. absurd (cc))

  files_keep : AllHold (files_items blocks) → KeepKinds blocks
  files_keep all ino some low used =
      let items = hold_each (inode_items blocks) 1 (last_inode blocks) all ino some (omega (arith, low)) in
      let special : Bool = is_special (mode_at blocks ino) in
      let directory : Bool = is_directory (mode_at blocks ino) in
      let kept = shape_keeps ino special directory (subst (λ b. AllHold (shaped blocks ino b special directory)) used items) in
      record { kind = kept.0; size = kept.1; parts = kept.2 }

-- ---- a block that is met is no place's

module _ (blocks : ℕ → List ℕ) (has : ℕ → Bool) (low : 3 ≤ isize_of (blocks 1)) (met chain : List ℕ) (same : IsPermutation met chain) (in_range : All (IsOpenToFiles blocks) chain) where
  met_is : (block : ℕ) → is_met met block ≡ is_met chain block
  met_is block = list_any-IsPermutation (nat_eq block) met chain same

  apart_chain : ((q : Place) → IsPlace has q → 0 < at (pointers blocks) q → is_met met (at (pointers blocks) q) ≡ false) → All (λ block. (q : Place) → IsPlace has q → at (pointers blocks) q ≢ block) chain
  apart_chain apart = All-weaker (Contains chain) (λ block. (q : Place) → IsPlace has q → at (pointers blocks) q ≢ block) (λ block among q is e.
      (let open_to = All-contains (IsOpenToFiles blocks) chain block in_range among in
      let from = open_to.from in
      let new = apart q is (omega (arith, e, from, low)) in
      let old : is_met met (at (pointers blocks) q) ≡ true = ap (is_met met) e ∙ met_is block ∙ has_in chain block among in
      cc)) chain (All-contains_itself chain)

  chain_apart : All (λ block. (q : Place) → IsPlace has q → at (pointers blocks) q ≢ block) chain → (q : Place) → IsPlace has q → 0 < at (pointers blocks) q → is_met met (at (pointers blocks) q) ≡ false
  chain_apart apart q is some = not_true (is_met met (at (pointers blocks) q)) (λ t.
      All-contains (λ block. (r : Place) → IsPlace has r → at (pointers blocks) r ≢ block) chain (at (pointers blocks) q) apart (in_has chain (at (pointers blocks) q) (sym (met_is (at (pointers blocks) q)) ∙ t)) q is refl)

-- ---- both ways

module _ (image : Image) (bytes : (block : ℕ) → length (image.at block) ≡ 512) (all : AllHold (first_items image)) (once : IsDistinct nat_eq (met_after [] (first_items image))) where
  abbrev shows : Tree
  shows = tree_of image

  abbrev early : List ℕ
  early = met_after [] (chain_items image.at)

  sizes : HasSizes image
  sizes = sizes_are image all.0 all.1.0

  counts : (nat_le (nfree_of (image.at 1)) 50 ≡ true) × (nat_le (ninode_of (image.at 1)) 100 ≡ true)
  counts = both (nat_le (nfree_of (image.at 1)) 50) (nat_le (ninode_of (image.at 1)) 100) all.1.1.0

  late_once : IsDistinct nat_eq (met_after early (files_items image.at))
  late_once = subst (IsDistinct nat_eq) (met_append [] (chain_items image.at) (files_items image.at)) once

  files_hold : AllHold (files_items image.at)
  files_hold = hold_right (chain_items image.at) (files_items image.at) all.1.1.1

  keeps : KeepKinds image.at
  keeps = files_keep image.at files_hold

  nodes : HasNodes image.at shows
  nodes = tree_has_nodes image keeps

  chain_is : HasChain image.at (chain_of image.at) × IsPermutation early (chain_of image.at)
  chain_is =
      let t = counts.0 in
      chain_accepts image.at early sizes.some_inodes (grind (arith, nat_tests))
      (walks [] (chain_items image.at) (hold_left (chain_items image.at) (files_items image.at) all.1.1.1) (once_before early (files_items image.at) late_once))

  held_apart : HoldsApart image.at (has_addresses shows) early
  held_apart = holds_apart image.at (has_addresses shows) early sizes.some_inodes (are_addressed image.at shows nodes) files_hold late_once

  pub is_shown : IsShown image shows (chain_of image.at)
  is_shown = record {
    stored = record {
      bytes = bytes;
      sizes = sizes;
      cached = (let t = counts.1 in grind (arith, nat_tests));
      last = tree_last image;
      inodes = nodes.inodes;
      held = record { in_range = held_apart.in_range; once = held_apart.once; leads_on = held_apart.leads_on };
      spare = record {
        listed = chain_is.0.listed;
        in_range = chain_is.0.in_range;
        once = chain_is.0.once;
        apart = apart_chain image.at (has_addresses shows) sizes.some_inodes early (chain_of image.at) chain_is.1 chain_is.0.in_range held_apart.apart;
      };
      capacity = tree_cap image;
      numbers = nodes.numbers;
    };
    kinds = nodes.kinds;
    sizes = tree_sizes image keeps;
  }

pub stores : Stores
stores image met bytes h = is_shown image bytes (walk_holds [] (first_items image) met h).0 (walk_once [] (first_items image) met h none_once)

-- ---- and the walk of a stored tree

pub walk_then : (met : List ℕ) (xs ys : List Item) (mid after : List ℕ) → walked met xs ≡ Ok mid → walked mid ys ≡ Ok after → walked met (xs ++ ys) ≡ Ok after
walk_then met xs ys mid after one two = walk_append met xs ys ∙ ap (λ r. walked_on r ys) one ∙ two

pub walked_once : (met : List ℕ) (items : List Item) (after : List ℕ) → walked met items ≡ Ok after → IsDistinct nat_eq met → IsDistinct nat_eq after
walked_once met items after h once = subst (IsDistinct nat_eq) (walk_holds met items after h).1 (walk_once met items after h once)

pub few_free : (lists : ℕ → Listed) (it : Listed) (chain : List ℕ) → IsChain lists it chain → it.count ≤ 50
few_free lists it [] h = elim h [ inl none ↦ omega (arith, none) | inr last ↦ (let e = last.0 in omega (arith, e)) ]
few_free lists it (b ∷ bs) h = h.0.few

pub stored_walks : StoredWalks
stored_walks image tree chain shown =
    let stored = shown.stored in
    let low = stored.sizes.some_inodes in
    let nodes = nodes_of image tree chain stored shown.kinds in
    let walk = chain_accepted image.at chain low (record { listed = stored.spare.listed; in_range = stored.spare.in_range; once = stored.spare.once }) in
    let files = files_accepted image.at (has_addresses tree) walk.met low (are_addressed image.at tree nodes) (walked_once [] (chain_items image.at) walk.met walk.walks none_once) (keep_kinds image.at tree nodes shown.sizes)
    (record {
      in_range = stored.held.in_range;
      once = stored.held.once;
      leads_on = stored.held.leads_on;
      apart = chain_apart image.at (has_addresses tree) low walk.met chain walk.same stored.spare.in_range stored.spare.apart;
    }) in
    let first : walked [] (super_block_items image) ≡ Ok [] =
    walks [] (super_block_items image) (super_holds image stored.sizes (few_free (list_in image.at) (first_list image.at) chain stored.spare.listed) stored.cached) none_once in (
      files.after,
      walk_then [] (super_block_items image) (chain_items image.at ++ files_items image.at) [] files.after first
          (walk_then [] (chain_items image.at) (files_items image.at) walk.met files.after walk.walks files.walks),
    )
