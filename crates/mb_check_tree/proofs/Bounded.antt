-- The blocks of a volume's files and its free chain: each is below its first block past the end, so they are few.
use Rattle.std.proofs.Common.{◌≡◌, inl, inr, ℕ, zero, suc, ◌<◌, ◌≤◌, List, [], ◌∷◌, ◌++◌, Bool, true, false, if◌then◌else◌, nat_eq, length, Ok, sym, subst, arith}
use Rattle.std.proofs.lemmas.Bool.Decides.{nat_tests}
use Rattle.std.proofs.lemmas.Map.Steps.{length-le_from_distinct_below}
use Rattle.mb_kinds.specs.Image.{Image}
use Rattle.mb_word.specs.Fields.{isize_of, fsize_of, index_entry}
use Rattle.mb_tree.specs.Blocks.{list_in}
use Rattle.mb_tree.specs.Chain.{Listed}
use Rattle.mb_tree.specs.Volume.{last_inode}
use Rattle.mb_rules.specs.Items.{Item, Holds, Held, each_from, is_met, walked}
use Rattle.mb_rules.specs.Files.{address_items, area_items, files_items, inode_items}
use Rattle.mb_rules.specs.FreeChain.{chain_items, free_items, is_open, list_items, next_items}
use Rattle.mb_rules.specs.TreeOf.{tree_of}
use Rattle.mb_rules.proofs.Chains.{open_is}
use Rattle.mb_rules.proofs.FreeChains.{none_once}
use Rattle.mb_rules.proofs.Walks.{AllHold, hold_each, hold_left, hold_right, walk_holds}
use Rattle.mb_rules.proofs.Ways.{claimed, claimed_split, each_claims, met_from, or_true}
use Rattle.mb_scan_laws.specs.Laws.{first_items}
use Rattle.mb_scan_laws.proofs.Scans.{capacity_met}
use Rattle.mb_scan_laws.proofs.Storing.{stores, walked_once}

-- each address that is held was tested to be open
record AreGuarded (blocks : ℕ → List ℕ) (items : List Item) : Type 0 where
  opens : (x : ℕ) → AllHold items → claimed items x ≡ true → is_open blocks x ≡ true

module _ (blocks : ℕ → List ℕ) where
  guarded_none : AreGuarded blocks []
  guarded_none = record { opens = λ x hold is. absurd (cc) }

  guarded_test : (test : Bool) (block rule : ℕ) (items : List Item) → AreGuarded blocks items → AreGuarded blocks (Holds test block rule ∷ items)
  guarded_test test block rule items rest = record { opens = λ x hold is. rest.opens x hold.1 is }

  guarded_held : (address holder rule : ℕ) (items : List Item) → AreGuarded blocks items → AreGuarded blocks (Holds (is_open blocks address) holder rule ∷ Held address ∷ items)
  guarded_held address holder rule items rest = record {
    opens = λ x hold is. elim (or_true (nat_eq x address) (claimed items x) is) [
      | inl here ↦ (let e : address ≡ x = grind (arith, nat_tests) in subst (λ y. is_open blocks y ≡ true) e hold.0)
      | inr later ↦ rest.opens x hold.1 later
    ];
  }

  guarded_append : (xs ys : List Item) → AreGuarded blocks xs → AreGuarded blocks ys → AreGuarded blocks (xs ++ ys)
  guarded_append xs ys one two = record {
    opens = λ x hold is. elim (claimed_split xs ys x is) [
      | inl front ↦ one.opens x (hold_left xs ys hold) front
      | inr back ↦ two.opens x (hold_right xs ys hold) back
    ];
  }

  guarded_either : (b : Bool) (xs ys : List Item) → AreGuarded blocks xs → AreGuarded blocks ys → AreGuarded blocks (if b then xs else ys)
  guarded_either true xs ys one two = one
  guarded_either false xs ys one two = two

  guarded_each : (items : ℕ → List Item) (low n : ℕ) → ((k : ℕ) → AreGuarded blocks (items k)) → AreGuarded blocks (each_from items low n)
  guarded_each items low n all = record {
    opens = λ x hold is. (
        let found = each_claims items low n x is in
        (all found.number).opens x (hold_each items low n hold found.number found.from found.below) found.claims);
  }

  -- ---- the free chain

  guarded_next : (lists : ℕ → List Item) → ((block : ℕ) → AreGuarded blocks (lists block)) → (holder count entry : ℕ) → AreGuarded blocks (next_items blocks lists holder count entry)
  guarded_next lists all holder zero entry = guarded_none
  guarded_next lists all holder (suc more) zero = guarded_none
  guarded_next lists all holder (suc more) (suc before) = guarded_held (suc before) holder 4 _ (guarded_test _ (suc before) 3 (lists (suc before)) (all (suc before)))

  guarded_lists : (lists holder : ℕ) (it : Listed) → AreGuarded blocks (list_items blocks lists holder it)
  unfolding list_items
  guarded_lists zero holder it = guarded_none
  guarded_lists (suc lists) holder it =
      guarded_append _ _
      (guarded_each (λ place. free_items blocks holder (it.entry place)) 1 _ (λ place. guarded_held (it.entry place) holder 4 [] guarded_none))
      (guarded_next _ (λ block. guarded_lists lists block (list_in blocks block)) holder it.count (it.entry 0))

  -- ---- the inodes

  guarded_address : (levels holder address : ℕ) → AreGuarded blocks (address_items blocks levels holder address)
  unfolding address_items
  guarded_address zero holder zero = guarded_none
  guarded_address (suc levels) holder zero = guarded_none
  guarded_address zero holder (suc before) = guarded_held (suc before) holder 6 [] guarded_none
  guarded_address (suc levels) holder (suc before) =
      guarded_held (suc before) holder 6 _ (guarded_test _ (suc before) 6 _
      (guarded_each (λ place. address_items blocks levels (suc before) (index_entry (blocks (suc before)) place)) 0 128
      (λ place. guarded_address levels (suc before) (index_entry (blocks (suc before)) place))))

  guarded_inode : (ino : ℕ) → AreGuarded blocks (inode_items blocks ino)
  guarded_inode ino =
      guarded_either _ [] _ guarded_none (guarded_test _ _ 5 _ (guarded_test _ _ 8 _ (guarded_append _ _
      (guarded_either _ [] (area_items blocks ino) guarded_none (guarded_each _ 0 13 (λ place. guarded_address _ _ _)))
      (guarded_either _ _ [] (guarded_test _ _ 8 [] guarded_none) guarded_none))))

  guarded_files : AreGuarded blocks (chain_items blocks ++ files_items blocks)
  guarded_files = guarded_append (chain_items blocks) (files_items blocks) (guarded_lists _ _ _) (guarded_each (inode_items blocks) 1 (last_inode blocks) guarded_inode)

module _ (image : Image) (met : List ℕ) (bytes : (block : ℕ) → length (image.at block) ≡ 512) (walks : walked [] (first_items image) ≡ Ok met) where
  guarded_first : AreGuarded image.at (first_items image)
  guarded_first = guarded_test image.at _ 1 1 _ (guarded_test image.at _ 1 2 _ (guarded_test image.at _ 1 3 _ (guarded_files image.at)))

  below_end : 3 ≤ isize_of (image.at 1) → (x : ℕ) → is_met met x ≡ true → x < fsize_of (image.at 1)
  below_end low x is =
      let all = walk_holds [] (first_items image) met walks in
      elim (met_from (first_items image) [] x (subst (λ xs. is_met xs x ≡ true) (sym all.1) is)) [
        | inl claims ↦ (open_is image.at low x (guarded_first.opens x all.0 claims)).below
        | inr none ↦ absurd (cc)
      ]

  few_met : length met ≤ 262144
  few_met =
      let sizes = (stores image met bytes walks).stored.sizes in
      let bound : length met ≤ fsize_of (image.at 1) = length-le_from_distinct_below met (fsize_of (image.at 1)) (walked_once [] (first_items image) met walks none_once) (below_end sizes.some_inodes) in
      let few = sizes.few_blocks in
      omega (arith, bound, few)

  -- the capacity of the tree that the bytes show
  pub few_blocks : (tree_of image).cap ≤ 262144
  few_blocks = subst (λ n. n ≤ 262144) (capacity_met image met bytes walks) few_met
