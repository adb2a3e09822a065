-- The thirteen addresses of an inode: their walk, and the parts to which they lead.
use Rattle.std.proofs.Common.{◌≡◌, ℕ, zero, suc, ◌+◌, ◌-◌, ◌*◌, ◌/◌, ◌%◌, ◌<◌, ◌≤◌, List, Bool, true, false, nat_lt, Ok, Err, refl, sym, ap, subst, ◌∙◌, arith}
use Rattle.std.proofs.lemmas.Bool.Decides.{nat_tests}
use Rattle.mb_word.specs.Fields.{inode_block, inode_place, address_of}
use Rattle.mb_layout.specs.Inode.{address_in}
use Rattle.mb_layout.specs.declared.dinodes.Dinode.{Dinode}
use Rattle.mb_tree.specs.Blocks.{pointers, part_address}
use Rattle.mb_tree.specs.Cost.{most_parts}
use Rattle.mb_tree.specs.Places.{Place, Top, Under, at, place_of, single_place, double_place, triple_place}
use Rattle.mb_rules.specs.declared.findings.Finding.{Finding}
use Rattle.mb_rules.specs.Items.{Item, walked, each_from}
use Rattle.mb_rules.specs.Files.{address_items, area_items}
use Rattle.mb_check_files.specs.declared.part_lists.PartList.{PartList}
use Rattle.mb_check_files.specs.Indexes.{under_single, under_double, under_triple}
use Rattle.mb_check_files.specs.InodeTables.{ReadsInode}
use Rattle.mb_check_files.specs.PartLists.{Notes}
use Rattle.mb_check_files.proofs.Eachs.{each_alike, each_early, each_more, each_stops}
use Rattle.mb_check_files.proofs.Notings.{notes_more, notes_same}

direct_place : (ino k : ℕ) → k < 10 → place_of ino k ≡ Top ino k
unfolding place_of
direct_place ino k low = grind (arith, nat_tests)

single_in : (ino k : ℕ) → k < 128 → place_of ino (10 + k) ≡ single_place (Top ino 10) k
unfolding place_of
single_in ino k low =
    let one : nat_lt (10 + k) 10 ≡ false = grind (arith, nat_tests) in
    let two : nat_lt (10 + k) 138 ≡ true = grind (arith, nat_tests) in
    let e : 10 + k - 10 ≡ k = omega arith in
    rw (one, two, e) refl

double_in : (ino k : ℕ) → k < 16384 → place_of ino (138 + k) ≡ double_place (Top ino 11) k
unfolding place_of
double_in ino k low =
    let one : nat_lt (138 + k) 10 ≡ false = grind (arith, nat_tests) in
    let two : nat_lt (138 + k) 138 ≡ false = grind (arith, nat_tests) in
    let three : nat_lt (138 + k) 16522 ≡ true = grind (arith, nat_tests) in
    let e : 138 + k - 138 ≡ k = omega arith in
    rw (one, two, three, e) refl

triple_in : (ino k : ℕ) → place_of ino (16522 + k) ≡ triple_place (Top ino 12) k
unfolding place_of
triple_in ino k =
    let one : nat_lt (16522 + k) 10 ≡ false = grind (arith, nat_tests) in
    let two : nat_lt (16522 + k) 138 ≡ false = grind (arith, nat_tests) in
    let three : nat_lt (16522 + k) 16522 ≡ false = grind (arith, nat_tests) in
    let e : 16522 + k - 16522 ≡ k = omega arith in
    rw (one, two, three, e) refl

module _ (blocks : ℕ → List ℕ) (ino holder : ℕ) (inode : Dinode) (reads : ReadsInode blocks ino holder inode) where
  abbrev top : ℕ → ℕ
  top k = address_of (blocks (inode_block ino)) (inode_place ino) k

  abbrev items : ℕ → List Item
  items place = address_items blocks (place - 9) (inode_block ino) (top place)

  item_at : (levels k address : ℕ) → k < 13 → k - 9 ≡ levels → address ≡ address_in inode k → address_items blocks levels holder address ≡ items k
  item_at levels k address low here is =
      ap (λ a. address_items blocks levels holder a) (is ∙ sym (reads.address k low))
      ∙ ap (λ h. address_items blocks levels h (top k)) (sym reads.stands)
      ∙ ap (λ l. address_items blocks l (inode_block ino) (top k)) (sym here)

  direct_items : each_from (λ place. address_items blocks 0 holder (address_in inode place)) 0 10 ≡ each_from items 0 10
  direct_items = each_alike (λ place. address_items blocks 0 holder (address_in inode place)) items 0 10 (λ k a b. item_at 0 k (address_in inode k) (omega arith) (omega arith) refl)

  module _ (list : List ℕ) where
    pub stops_direct : (broken : Finding) → walked list (each_from (λ place. address_items blocks 0 holder (address_in inode place)) 0 10) ≡ Err broken → walked list (area_items blocks ino) ≡ Err broken
    stops_direct broken h = each_early items list broken 0 10 13 (omega arith) (sym (ap (walked list) direct_items) ∙ h)

    pub done_direct : (mid : List ℕ) → walked list (each_from (λ place. address_items blocks 0 holder (address_in inode place)) 0 10) ≡ Ok mid → walked list (each_from items 0 10) ≡ Ok mid
    done_direct mid h = sym (ap (walked list) direct_items) ∙ h

    pub stops_level : (levels k address : ℕ) (mid : List ℕ) (broken : Finding) → k < 13 → k - 9 ≡ levels → address ≡ address_in inode k → walked list (each_from items 0 k) ≡ Ok mid
        → walked mid (address_items blocks levels holder address) ≡ Err broken → walked list (area_items blocks ino) ≡ Err broken
    stops_level levels k address mid broken low here is before h =
        each_stops items list mid broken 0 k k 13 (omega arith) low before (sym (ap (walked mid) (item_at levels k address low here is)) ∙ h)

    pub done_level : (levels k address : ℕ) (mid after : List ℕ) → k < 13 → k - 9 ≡ levels → address ≡ address_in inode k → walked list (each_from items 0 k) ≡ Ok mid
        → walked mid (address_items blocks levels holder address) ≡ Ok after → walked list (each_from items 0 (k + 1)) ≡ Ok after
    done_level levels k address mid after low here is before h =
        each_more items list mid after 0 k k (k + 1) (omega arith) (omega arith) before (sym (ap (walked mid) (item_at levels k address low here is)) ∙ h)

  pub part_direct : (k : ℕ) → k < 10 → part_address blocks ino k ≡ address_in inode k
  part_direct k low = ap (at (pointers blocks)) (direct_place ino k low) ∙ reads.address k (omega arith)

  pub part_single : (k : ℕ) → k < 128 → part_address blocks ino (10 + k) ≡ under_single blocks (address_in inode 10) k
  part_single k low = ap (at (pointers blocks)) (single_in ino k low) ∙ ap (λ a. under_single blocks a k) (reads.address 10 (omega arith))

  pub part_double : (k : ℕ) → k < 16384 → part_address blocks ino (138 + k) ≡ under_double blocks (address_in inode 11) k
  part_double k low = ap (at (pointers blocks)) (double_in ino k low) ∙ ap (λ a. under_double blocks a k) (reads.address 11 (omega arith))

  pub part_triple : (k : ℕ) → part_address blocks ino (16522 + k) ≡ under_triple blocks (address_in inode 12) k
  part_triple k = ap (at (pointers blocks)) (triple_in ino k) ∙ ap (λ a. under_triple blocks a k) (reads.address 12 (omega arith))

  pub area_notes : (p0 p1 p2 p3 p4 : PartList) (a b c : ℕ) → a ≡ address_in inode 10 → b ≡ address_in inode 11 → c ≡ address_in inode 12
      → Notes p0 p1 (address_in inode) 10 → Notes p1 p2 (under_single blocks a) 128 → Notes p2 p3 (under_double blocks b) 16384 → Notes p3 p4 (under_triple blocks c) 2097152
      → Notes p0 p4 (part_address blocks ino) most_parts
  area_notes p0 p1 p2 p3 p4 a b c ea eb ec n1 n2 n3 n4 =
      let f : ℕ → ℕ = part_address blocks ino in
      let m1 : Notes p0 p1 f 10 = notes_same p0 p1 (address_in inode) f 10 (λ k low. sym (part_direct k low)) n1 in
      let m2 : Notes p0 p2 f 138 = notes_more p0 p1 p2 f (under_single blocks a) 10 128 m1 n2 (λ k low. part_single k low ∙ ap (λ x. under_single blocks x k) (sym ea)) in
      let m3 : Notes p0 p3 f 16522 = notes_more p0 p2 p3 f (under_double blocks b) 138 16384 m2 n3 (λ k low. part_double k low ∙ ap (λ x. under_double blocks x k) (sym eb)) in
      notes_more p0 p3 p4 f (under_triple blocks c) 16522 2097152 m3 n4 (λ k low. part_triple k ∙ ap (λ x. under_triple blocks x k) (sym ec))
