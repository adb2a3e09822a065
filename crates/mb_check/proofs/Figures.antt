-- What the scan tells of a tree, number by number.
use Rattle.std.proofs.Common.{◌≡◌, ℕ, suc, ◌+◌, ◌<◌, ◌≤◌, List, [], ◌∷◌, ◌++◌, Bool, true, false, not, ◌&&◌, nat_eq, cond, is_some, refl, sym, ap, ◌∙◌, arith}
use Rattle.std.specs.Prelude.{filter}
use Rattle.std.specs.FinMap as fin
use Rattle.std.specs.List.{range_with_len}
use Rattle.std.proofs.lemmas.List.{map-id}
use Rattle.std.proofs.lemmas.List.Elements.{filter-append}
use Rattle.std.proofs.lemmas.List.FromFn.{map-range_with_len_more}
use Rattle.mb_kinds.specs.Image.{Image}
use Rattle.mb_word.specs.Fields.{inode_block, inode_place, nlink_of}
use Rattle.mb_tree.specs.Counting.{sum_below}
use Rattle.mb_tree.specs.Inodes.{is_directory}
use Rattle.mb_tree.specs.Opening.{is_nameless}
use Rattle.mb_tree.specs.Volume.{last_inode}
use Rattle.mb_rules.specs.Files.{mode_at}
use Rattle.mb_rules.specs.TreeOf.{node_at, tree_of}
use Rattle.mb_scan_laws.proofs.TreeNodes.{get_tree, tree_last}
use Rattle.mb_check_files.specs.InodeTables.{KeepsInode}
use Rattle.mb_check_files.specs.declared.inodes.InodeKept.{InodeKept}
use Rattle.mb_check.specs.Tallies.{one_if}
use Rattle.mb_check.specs.Whole.{count_nodes, is_nameless_kept, nameless_in}

pub at_most_one : (b : Bool) → one_if b ≤ 1
at_most_one true = omega arith
at_most_one false = omega arith

abbrev nlink_at : (ℕ → List ℕ) → ℕ → ℕ
nlink_at blocks ino = nlink_of (blocks (inode_block ino)) (inode_place ino)

some_by : (blocks : ℕ → List ℕ) (ino : ℕ) (unused : Bool) → nat_eq (mode_at blocks ino) 0 ≡ unused → is_some (node_at blocks ino) ≡ not unused
unfolding node_at
some_by blocks ino true e = rw e refl
some_by blocks ino false e = rw e refl

nameless_by : (blocks : ℕ → List ℕ) (ino : ℕ) (unused : Bool) → nat_eq (mode_at blocks ino) 0 ≡ unused
    → is_nameless ino (node_at blocks ino) ≡ (not unused && nat_eq (nlink_at blocks ino) 0 && not (is_directory (mode_at blocks ino)) && not (nat_eq ino 1))
unfolding node_at
nameless_by blocks ino true e = rw e refl
nameless_by blocks ino false e = rw e refl

-- the numbers so far
abbrev pub nodes_below : Image → ℕ → ℕ
nodes_below image n = sum_below (λ ino. one_if (is_some (fin.get (tree_of image).nodes ino))) n

abbrev pub nameless_below : Image → ℕ → List ℕ
nameless_below image n = filter (λ ino. is_nameless ino (fin.get (tree_of image).nodes ino)) (range_with_len 0 n)

range_more : (n : ℕ) → range_with_len 0 (n + 1) ≡ range_with_len 0 n ++ n ∷ []
range_more n = sym (map-id (range_with_len 0 (n + 1))) ∙ map-range_with_len_more (λ (k : ℕ). k) 0 n n (omega arith) ∙ ap (λ xs. xs ++ n ∷ []) (map-id (range_with_len 0 n))

one_filtered : (p : ℕ → Bool) (n : ℕ) (b : Bool) → p n ≡ b → filter p (n ∷ []) ≡ cond b (n ∷ []) []
one_filtered p n true e = rw e refl
one_filtered p n false e = rw e refl

filter_more : (p : ℕ → Bool) (n : ℕ) → filter p (range_with_len 0 (n + 1)) ≡ filter p (range_with_len 0 n) ++ cond (p n) (n ∷ []) []
filter_more p n = ap (filter p) (range_more n) ∙ filter-append p (range_with_len 0 n) (n ∷ []) ∙ ap (λ xs. filter p (range_with_len 0 n) ++ xs) (one_filtered p n (p n) refl)

module _ (image : Image) where
  node_test : (ino : ℕ) → ino ≤ last_inode image.at → is_some (fin.get (tree_of image).nodes ino) ≡ not (nat_eq (mode_at image.at ino) 0)
  node_test ino low = ap is_some (get_tree image ino low) ∙ some_by image.at ino (nat_eq (mode_at image.at ino) 0) refl

  nameless_test : (ino : ℕ) → ino ≤ last_inode image.at
      → is_nameless ino (fin.get (tree_of image).nodes ino) ≡ (not (nat_eq (mode_at image.at ino) 0) && nat_eq (nlink_at image.at ino) 0 && not (is_directory (mode_at image.at ino)) && not (nat_eq ino 1))
  nameless_test ino low = ap (is_nameless ino) (get_tree image ino low) ∙ nameless_by image.at ino (nat_eq (mode_at image.at ino) 0) refl

  pub nodes_first : 0 ≡ nodes_below image 1
  unfolding sum_below
  nodes_first = (let z : one_if (is_some (fin.get (tree_of image).nodes 0)) ≡ 0 = ap one_if (node_test 0 (omega arith)) in omega (arith, z))

  pub nodes_more : (before count more mode : ℕ) → before < last_inode image.at → mode ≡ mode_at image.at (before + 1) → more ≡ one_if (not (nat_eq mode 0)) → count ≡ nodes_below image (before + 1) → count + more ≡ nodes_below image (before + 1 + 1)
  unfolding sum_below
  nodes_more before count more mode low has one so =
      let z : one_if (is_some (fin.get (tree_of image).nodes (before + 1))) ≡ one_if (not (nat_eq mode 0)) = ap one_if (node_test (before + 1) (omega (arith, low))) ∙ ap (λ m. one_if (not (nat_eq m 0))) (sym has) in
      let e : before + 1 + 1 ≡ suc (before + 1) = omega arith in
      let step : nodes_below image (before + 1 + 1) ≡ one_if (is_some (fin.get (tree_of image).nodes (before + 1))) + nodes_below image (before + 1) = ap (nodes_below image) e in
      omega (arith, z, one, so, step)

  pub nodes_all : (n : ℕ) → n ≡ last_inode image.at → nodes_below image (n + 1) ≡ count_nodes (tree_of image)
  nodes_all n e = ap (λ k. nodes_below image (k + 1)) (e ∙ sym (tree_last image))

  none_test : is_nameless 0 (fin.get (tree_of image).nodes 0) ≡ false
  none_test = nameless_test 0 (omega arith)

  pub nameless_first : [] ≡ nameless_below image 1
  nameless_first = sym (one_filtered (λ ino. is_nameless ino (fin.get (tree_of image).nodes ino)) 0 false none_test)

  kept_test : (ino : ℕ) (addresses : List ℕ) (kept : InodeKept) → ino ≤ last_inode image.at → KeepsInode image.at addresses ino kept → is_nameless_kept ino kept ≡ is_nameless ino (fin.get (tree_of image).nodes ino)
  kept_test ino addresses kept low keeps =
      ap (λ m. not (nat_eq m 0) && nat_eq kept.nlink 0 && not (is_directory m) && not (nat_eq ino 1)) keeps.mode
      ∙ ap (λ k. not (nat_eq (mode_at image.at ino) 0) && nat_eq k 0 && not (is_directory (mode_at image.at ino)) && not (nat_eq ino 1)) keeps.nlink
      ∙ sym (nameless_test ino low)

  pub nameless_more : (before : ℕ) (addresses old new : List ℕ) (kept : InodeKept) → before < last_inode image.at → KeepsInode image.at addresses (before + 1) kept
      → new ≡ old ++ cond (is_nameless_kept (before + 1) kept) ((before + 1) ∷ []) [] → old ≡ nameless_below image (before + 1) → new ≡ nameless_below image (before + 1 + 1)
  nameless_more before addresses old new kept low keeps one so =
      one ∙ ap (λ xs. xs ++ cond (is_nameless_kept (before + 1) kept) ((before + 1) ∷ []) []) so
      ∙ ap (λ b. nameless_below image (before + 1) ++ cond b ((before + 1) ∷ []) []) (kept_test (before + 1) addresses kept (omega (arith, low)) keeps)
      ∙ sym (filter_more (λ ino. is_nameless ino (fin.get (tree_of image).nodes ino)) (before + 1))

  pub nameless_all : (n : ℕ) → n ≡ last_inode image.at → nameless_below image (n + 1) ≡ nameless_in (tree_of image)
  nameless_all n e = ap (λ k. nameless_below image (k + 1)) (e ∙ sym (tree_last image))
