-- The tree that the bytes show has the nodes of the inodes, where rules 5 and 8 are kept.
use Rattle.std.proofs.Common.{◌≡◌, inl, inr, ℕ, zero, suc, ◌+◌, ◌*◌, ◌/◌, ◌%◌, ◌<◌, ◌≤◌, List, Bool, true, false, ◌&&◌, ◌||◌, nat_eq, nat_le, if◌then◌else◌, cond, nat_lt, length, map, Some, None, refl, sym, ap, subst, ◌∙◌, arith}
use Rattle.std.specs.FinMap as fin
use Rattle.std.specs.List.{range_with_len}
use Rattle.std.proofs.lemmas.Bool.{cases_lt}
use Rattle.std.proofs.lemmas.Bool.Decides.{nat_tests}
use Rattle.std.proofs.lemmas.Option.{same_Some}
use Rattle.mb_kinds.specs.Image.{Image}
use Rattle.mb_word.specs.Fields.{inode_block, inode_place, nlink_of, uid_of, gid_of, area_of, atime_of, mtime_of, ctime_of}
use Rattle.mb_tree.specs.Blocks.{part_in, slot_in, bytes_at, part_address}
use Rattle.mb_tree.specs.Cost.{cost, most_parts}
use Rattle.mb_tree.specs.Inodes.{is_directory, is_regular, is_special}
use Rattle.mb_tree.specs.Trees.{Each, HasKind, HasSize}
use Rattle.mb_tree.specs.Volume.{HasBody, HasInode, last_inode}
use Rattle.mb_tree.specs.declared.nodes.Body.{Body}
use Rattle.mb_tree.specs.declared.nodes.Body.TheVariants.{Regular, Directory, Special}
use Rattle.mb_tree.specs.declared.nodes.Node.{Node}
use Rattle.mb_tree.proofs.CellMaps.{get_cells}
use Rattle.mb_blocks.proofs.PartBytes.{held_part}
use Rattle.mb_rules.specs.Files.{mode_at, size_at, is_size}
use Rattle.mb_rules.specs.FilesLaws.{KeepsKind, KeepKinds}
use Rattle.mb_rules.specs.Slots.{slots_at}
use Rattle.mb_rules.specs.TreeOf.{parts_below, parts_at, body_at, node_at, nodes_in, chain_of, tree_of}
use Rattle.mb_rules.proofs.Walks.{both}
use Rattle.mb_rules.proofs.Ways.{or_true}
use Rattle.mb_scan_laws.proofs.ModeTests.{Tests, regular_tests, directory_tests, special_tests}
use Rattle.mb_scan_laws.proofs.Modes.{HasNodes, mode_in}
use Rattle.mb_scan_laws.proofs.RowsOf.{cell_row, cell_past, row_length}
use Rattle.mb_scan_laws.proofs.ShownTrees.{part_test, from_test, are_then, slots_by}

pub tree_last : (image : Image) → (tree_of image).last ≡ last_inode image.at
unfolding tree_of
tree_last image = refl

pub tree_nodes : (image : Image) → (tree_of image).nodes ≡ nodes_in image.at
unfolding tree_of
tree_nodes image = refl

pub tree_cap : (image : Image) → (tree_of image).cap ≡ cost (tree_of image) + length (chain_of image.at)
unfolding tree_of
tree_cap image = refl

part_past : (blocks : ℕ → List ℕ) (ino part : ℕ) → most_parts ≤ part → part_in blocks ino part ≡ None
unfolding part_in
part_past blocks ino part past = (let t : nat_lt part most_parts ≡ false = grind (arith, nat_tests) in ap (λ b. cond b (bytes_at blocks (part_address blocks ino part)) None) t)

module _ (blocks : ℕ → List ℕ) (ino : ℕ) where
  parts_get : (n part : ℕ) → part < n → fin.get (parts_below blocks ino n) part ≡ part_in blocks ino part
  unfolding parts_below
  parts_get n part low = get_cells (map (part_in blocks ino) (range_with_len 0 n)) part ∙ cell_row (part_in blocks ino) 0 n part low ∙ ap (part_in blocks ino) (let e : 0 + part ≡ part = omega arith in e)

  parts_none : (n part : ℕ) → n ≤ part → fin.get (parts_below blocks ino n) part ≡ None
  unfolding parts_below
  parts_none n part past = get_cells (map (part_in blocks ino) (range_with_len 0 n)) part ∙ cell_past (part_in blocks ino) 0 n part past

  part_get : (part : ℕ) → fin.get (parts_at blocks ino) part ≡ part_in blocks ino part
  part_get part = elim (cases_lt part most_parts) [
    | inl low ↦ parts_get most_parts part low
    | inr past ↦ parts_none most_parts part past ∙ sym (part_past blocks ino part past)
  ]

  abbrev area : List ℕ
  area = area_of (blocks (inode_block ino)) (inode_place ino)

  body_by : (regular directory : Bool) → is_regular (mode_at blocks ino) ≡ regular → is_directory (mode_at blocks ino) ≡ directory
      → body_at blocks ino ≡ (if regular then Regular (size_at blocks ino) (parts_at blocks ino) else if directory then Directory (slots_at blocks ino) else Special (size_at blocks ino) area)
  unfolding body_at
  body_by regular directory r d =
      ap (λ b. if b then Regular (size_at blocks ino) (parts_at blocks ino) else if is_directory (mode_at blocks ino) then Directory (slots_at blocks ino) else Special (size_at blocks ino) area) r
      ∙ ap (λ b. if regular then Regular (size_at blocks ino) (parts_at blocks ino) else if b then Directory (slots_at blocks ino) else Special (size_at blocks ino) area) d

  -- a body that the inode holds, of the kind that the mode names, with a size in its range
  record IsFit (body : Body) : Type 0 where
    has : HasBody blocks ino body
    kind : HasKind (mode_at blocks ino) body
    size : HasSize body

  abbrev size_by : Bool → Bool → Bool
  size_by regular directory = if regular then nat_le (size_at blocks ino) 1082201088 else if directory then nat_le 32 (size_at blocks ino) && nat_eq (size_at blocks ino % 16) 0 else true

  size_is : (regular directory : Bool) → is_regular (mode_at blocks ino) ≡ regular → is_directory (mode_at blocks ino) ≡ directory → is_size (mode_at blocks ino) (size_at blocks ino) ≡ true → size_by regular directory ≡ true
  size_is regular directory r d t = sym (ap (λ b. size_by b (is_directory (mode_at blocks ino))) r ∙ ap (size_by regular) d) ∙ t

  regular_fits : Tests (mode_at blocks ino) false false true → KeepsKind blocks ino → IsFit (Regular (size_at blocks ino) (parts_at blocks ino))
  regular_fits tests keeps = record {
    has = record { sized = refl; each = part_get };
    kind = tests.regular_is;
    size = (
      (let t = size_is true false tests.regular_is tests.directory_is keeps.size in grind (arith, nat_tests)),
      λ part bytes found. (held_part blocks ino part bytes (sym (part_get part) ∙ found)).0,
    );
  }

  directory_fits : Tests (mode_at blocks ino) false true false → KeepsKind blocks ino → IsFit (Directory (slots_at blocks ino))
  directory_fits tests keeps =
      let row : slots_at blocks ino ≡ map (slot_in blocks ino) (range_with_len 0 (size_at blocks ino / 16)) = slots_by blocks ino true tests.directory_is in
      let n : length (slots_at blocks ino) ≡ size_at blocks ino / 16 = ap length row ∙ row_length (slot_in blocks ino) 0 (size_at blocks ino / 16) in
      let two = both (nat_le 32 (size_at blocks ino)) (nat_eq (size_at blocks ino % 16) 0) (size_is false true tests.regular_is tests.directory_is keeps.size) in
      let big : 32 ≤ size_at blocks ino = (let t = two.0 in grind (arith, nat_tests)) in
      let even : size_at blocks ino % 16 ≡ 0 = (let t = two.1 in grind (arith, nat_tests)) in
      let sized : size_at blocks ino ≡ 16 * length (slots_at blocks ino) = omega (arith, n, even) in
      record {
        has = record {
          sized = sized;
          each = row ∙ ap (λ m. map (slot_in blocks ino) (range_with_len 0 m)) (sym n);
          parts = λ part below. from_test (part_in blocks ino part) (512 * part) (16 * length (slots_at blocks ino))
              (subst (λ size. part_test (part_in blocks ino part) (512 * part) size ≡ false) sized (are_then blocks ino (keeps.parts tests.directory_is) part below));
        };
        kind = tests.directory_is;
        size = omega (arith, n, big);
      }

  special_fits : Tests (mode_at blocks ino) true false false → IsFit (Special (size_at blocks ino) area)
  special_fits tests = record { has = record { sized = refl; kept = refl }; kind = tests.special_is; size = tt }

  by_tests : (special directory regular : Bool) (tests : Tests (mode_at blocks ino) special directory regular)
      → IsFit (if regular then Regular (size_at blocks ino) (parts_at blocks ino) else if directory then Directory (slots_at blocks ino) else Special (size_at blocks ino) area) → IsFit (body_at blocks ino)
  by_tests special directory regular tests fits = subst IsFit (sym (body_by regular directory tests.regular_is tests.directory_is)) fits

  body_fits : KeepsKind blocks ino → IsFit (body_at blocks ino)
  body_fits keeps =
      let mode : ℕ = mode_at blocks ino in
      elim (or_true (is_regular mode || is_directory mode) (is_special mode) keeps.kind) [
        | inl plain ↦ elim (or_true (is_regular mode) (is_directory mode) plain) [
          | inl r ↦ (let tests = regular_tests mode r in by_tests false false true tests (regular_fits tests keeps))
          | inr d ↦ (let tests = directory_tests mode d in by_tests false true false tests (directory_fits tests keeps))
        ]
        | inr s ↦ (let tests = special_tests mode s in by_tests true false false tests (special_fits tests))
      ]

  abbrev pub shown_node : Node
  shown_node = record {
    mode = mode_at blocks ino;
    nlink = nlink_of (blocks (inode_block ino)) (inode_place ino);
    uid = uid_of (blocks (inode_block ino)) (inode_place ino);
    gid = gid_of (blocks (inode_block ino)) (inode_place ino);
    atime = atime_of (blocks (inode_block ino)) (inode_place ino);
    mtime = mtime_of (blocks (inode_block ino)) (inode_place ino);
    ctime = ctime_of (blocks (inode_block ino)) (inode_place ino);
    body = body_at blocks ino;
  }

  node_by : (unused : Bool) → nat_eq (mode_at blocks ino) 0 ≡ unused → node_at blocks ino ≡ (if unused then None else Some shown_node)
  unfolding node_at
  node_by unused e = ap (λ b. if b then None else Some shown_node) e

  -- a free inode, and one in use
  free_inode : 0 < ino → nat_eq (mode_at blocks ino) 0 ≡ true → HasInode blocks ino (node_at blocks ino)
  free_inode some t = subst (HasInode blocks ino) (sym (node_by true t)) (sym (mode_in blocks ino some) ∙ (let e : mode_at blocks ino ≡ 0 = grind (arith, nat_tests) in e))

  used_inode : 0 < ino → nat_eq (mode_at blocks ino) 0 ≡ false → KeepsKind blocks ino → HasInode blocks ino (node_at blocks ino)
  used_inode some f keeps = subst (HasInode blocks ino) (sym (node_by false f)) (record {
    used = λ e. (let zero_mode : mode_at blocks ino ≡ 0 = mode_in blocks ino some ∙ e in let t : nat_eq (mode_at blocks ino) 0 ≡ true = ap (λ m. nat_eq m 0) zero_mode in cc);
    mode = sym (mode_in blocks ino some);
    nlink = refl;
    uid = refl;
    gid = refl;
    atime = refl;
    mtime = refl;
    ctime = refl;
    body = (body_fits keeps).has;
  })

pub get_tree : (image : Image) (ino : ℕ) → ino ≤ last_inode image.at → fin.get (tree_of image).nodes ino ≡ node_at image.at ino
unfolding nodes_in
get_tree image ino low =
    ap (λ m. fin.get m ino) (tree_nodes image) ∙ get_cells (map (node_at image.at) (range_with_len 0 (last_inode image.at + 1))) ino
    ∙ cell_row (node_at image.at) 0 (last_inode image.at + 1) ino (omega (arith, low)) ∙ ap (node_at image.at) (let e : 0 + ino ≡ ino = omega arith in e)

pub get_past : (image : Image) (ino : ℕ) → last_inode image.at < ino → fin.get (tree_of image).nodes ino ≡ None
unfolding nodes_in
get_past image ino past =
    ap (λ m. fin.get m ino) (tree_nodes image) ∙ get_cells (map (node_at image.at) (range_with_len 0 (last_inode image.at + 1))) ino
    ∙ cell_past (node_at image.at) 0 (last_inode image.at + 1) ino (omega (arith, past))

module _ (image : Image) (keeps : KeepKinds image.at) where
  record IsNodeAt (ino : ℕ) (node : Node) : Type 0 where
    from : 1 ≤ ino
    below : ino ≤ last_inode image.at
    used : nat_eq (mode_at image.at ino) 0 ≡ false
    is : shown_node image.at ino ≡ node

  node_low : (ino : ℕ) (node : Node) → node_at image.at ino ≡ Some node → ino ≤ last_inode image.at → (unused : Bool) → nat_eq (mode_at image.at ino) 0 ≡ unused → IsNodeAt ino node
  node_low zero node has low unused e = absurd (let none = node_by image.at 0 true refl in cc)
  node_low (suc before) node has low true e = absurd (let none = node_by image.at (suc before) true e in cc)
  node_low (suc before) node has low false e = record { from = omega arith; below = low; used = e; is = same_Some (shown_node image.at (suc before)) node (sym (node_by image.at (suc before) false e) ∙ has) }

  tree_node : (ino : ℕ) (node : Node) → fin.get (tree_of image).nodes ino ≡ Some node → IsNodeAt ino node
  tree_node ino node has = elim (cases_lt (last_inode image.at) ino) [
    | inl past ↦ absurd (let none = get_past image ino past in cc)
    | inr low ↦ node_low ino node (sym (get_tree image ino low) ∙ has) low (nat_eq (mode_at image.at ino) 0) refl
  ]

  tree_fits : (ino : ℕ) (node : Node) → fin.get (tree_of image).nodes ino ≡ Some node → HasKind node.mode node.body × HasSize node.body
  tree_fits ino node has =
      let at = tree_node ino node has in
      let fits = body_fits image.at ino (keeps ino at.from at.below at.used) in
      subst (λ n. HasKind n.mode n.body × HasSize n.body) at.is (fits.kind, fits.size)

  inode_at : (ino : ℕ) → 0 < ino → ino ≤ last_inode image.at → (unused : Bool) → nat_eq (mode_at image.at ino) 0 ≡ unused → HasInode image.at ino (node_at image.at ino)
  inode_at ino some low true e = free_inode image.at ino some e
  inode_at ino some low false e = used_inode image.at ino some e (keeps ino (omega (arith, some)) low e)

  -- the inodes hold the nodes of the tree that the bytes show
  pub tree_has_nodes : HasNodes image.at (tree_of image)
  tree_has_nodes = record {
    last = tree_last image;
    inodes = λ ino some low. (let l = tree_last image in let below : ino ≤ last_inode image.at = omega (arith, low, l) in
        subst (HasInode image.at ino) (sym (get_tree image ino below)) (inode_at ino some below (nat_eq (mode_at image.at ino) 0) refl));
    numbers = λ ino node has. (let at = tree_node ino node has in let l = tree_last image in let below = at.below in (at.from, omega (arith, below, l)));
    kinds = λ ino node has. (tree_fits ino node has).0;
  }

  pub tree_sizes : Each (tree_of image) (λ ino node. HasSize node.body)
  tree_sizes ino node has = (tree_fits ino node has).1
