-- The parts of a file, by their addresses; a map that has them all is the one that the bytes show.
use Rattle.std.proofs.Common.{◌≡◌, inl, inr, ℕ, ◌+◌, ◌<◌, ◌≤◌, List, true, nat_lt, cond, map, None, sym, ap, ◌∙◌, arith}
use Rattle.std.specs.FinMap as fin
use Rattle.std.specs.List.{range_with_len}
use Rattle.std.proofs.lemmas.Bool.{cases_lt}
use Rattle.std.proofs.lemmas.Bool.Decides.{nat_tests}
use Rattle.mb_layout.specs.Inode.{address_in}
use Rattle.mb_layout.specs.declared.dinodes.Dinode.{Dinode}
use Rattle.mb_tree.specs.Blocks.{bytes_at, part_address, part_in}
use Rattle.mb_tree.specs.Cost.{most_parts}
use Rattle.mb_tree.specs.Maps.{Numbered}
use Rattle.mb_tree.proofs.CellMaps.{get_cells}
use Rattle.mb_tree.proofs.FiniteMaps.{same}
use Rattle.mb_rules.specs.TreeOf.{parts_below}
use Rattle.mb_scan_laws.proofs.RowsOf.{cell_past, cell_row}
use Rattle.mb_check_files.specs.Indexes.{under_double, under_single, under_triple}
use Rattle.mb_check_files.specs.InodeTables.{ReadsInode}
use Rattle.mb_check_files.proofs.AreaParts.{part_direct, part_double, part_single, part_triple}
use Rattle.mb_check_tree.specs.Filling.{HasBelow}

module _ (blocks : ℕ → List ℕ) (ino : ℕ) where
  part_low : (p : ℕ) → p < most_parts → part_in blocks ino p ≡ bytes_at blocks (part_address blocks ino p)
  unfolding part_in
  part_low p low = (let t : nat_lt p most_parts ≡ true = grind (arith, nat_tests) in ap (λ b. cond b (bytes_at blocks (part_address blocks ino p)) None) t)

  shown_low : (n p : ℕ) → p < n → fin.get (parts_below blocks ino n) p ≡ part_in blocks ino p
  unfolding parts_below
  shown_low n p low = get_cells (map (part_in blocks ino) (range_with_len 0 n)) p ∙ cell_row (part_in blocks ino) 0 n p low ∙ ap (part_in blocks ino) (let e : 0 + p ≡ p = omega arith in e)

  shown_far : (n p : ℕ) → n ≤ p → fin.get (parts_below blocks ino n) p ≡ None
  unfolding parts_below
  shown_far n p far = get_cells (map (part_in blocks ino) (range_with_len 0 n)) p ∙ cell_past (part_in blocks ino) 0 n p far

  pub all_parts : (m : Numbered (List ℕ)) (n : ℕ) → n ≡ most_parts → HasBelow m n (part_in blocks ino) → m ≡ parts_below blocks ino n
  all_parts m n e has = same m (parts_below blocks ino n) (λ p. elim (cases_lt p n) [
    | inl low ↦ has.below p low ∙ sym (shown_low n p low)
    | inr far ↦ has.past p far ∙ sym (shown_far n p far)
  ])

  module _ (holder : ℕ) (inode : Dinode) (reads : ReadsInode blocks ino holder inode) where
    pub value_direct : (k : ℕ) → k < 10 → part_in blocks ino k ≡ bytes_at blocks (address_in inode k)
    value_direct k low = part_low k (omega (arith, low)) ∙ ap (bytes_at blocks) (part_direct blocks ino holder inode reads k low)

    pub value_single : (address k : ℕ) → address ≡ address_in inode 10 → k < 128 → part_in blocks ino (10 + k) ≡ bytes_at blocks (under_single blocks address k)
    value_single address k is low = part_low (10 + k) (omega (arith, low)) ∙ ap (bytes_at blocks) (part_single blocks ino holder inode reads k low ∙ ap (λ a. under_single blocks a k) (sym is))

    pub value_double : (address k : ℕ) → address ≡ address_in inode 11 → k < 16384 → part_in blocks ino (138 + k) ≡ bytes_at blocks (under_double blocks address k)
    value_double address k is low = part_low (138 + k) (omega (arith, low)) ∙ ap (bytes_at blocks) (part_double blocks ino holder inode reads k low ∙ ap (λ a. under_double blocks a k) (sym is))

    pub value_triple : (address k : ℕ) → address ≡ address_in inode 12 → k < 2097152 → part_in blocks ino (16522 + k) ≡ bytes_at blocks (under_triple blocks address k)
    value_triple address k is low = part_low (16522 + k) (omega (arith, low)) ∙ ap (bytes_at blocks) (part_triple blocks ino holder inode reads k ∙ ap (λ a. under_triple blocks a k) (sym is))
