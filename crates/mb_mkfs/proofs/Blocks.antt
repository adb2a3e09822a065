-- The bytes of a fresh volume's block, by what the block is.
use Rattle.std.proofs.Common.{ℕ, ◌≡◌, ◌≢◌, ◌+◌, true, false, cond, nat_eq, List, ap, ◌∙◌, arith}
use Rattle.std.proofs.lemmas.Bool.Decides.{nat_tests}
use Rattle.mb_kinds.specs.Image.{zeros}
use Rattle.mb_word.specs.Numbers.{put_at}
use Rattle.mb_layout.specs.ChainBlock.{chain_bytes}
use Rattle.mb_layout.specs.Inode.{dinode_bytes}
use Rattle.mb_mkfs.specs.FreeLists.{free_block, has_list, list_after, super_block}
use Rattle.mb_mkfs.specs.Volume.{fresh_block, root_inode, root_slots}

module _ (isize top block : ℕ) where
  behind_two : List ℕ
  behind_two = cond (nat_eq block isize) root_slots (free_block top (isize + 1) block)

  behind_one : List ℕ
  behind_one = cond (nat_eq block 2) (put_at zeros 64 (dinode_bytes (root_inode isize))) behind_two

  pub first_block : block ≡ 1 → fresh_block isize top block ≡ super_block isize top (isize + 1)
  unfolding fresh_block behind_one behind_two
  first_block is = let t : nat_eq block 1 ≡ true = grind (arith, nat_tests) in ap (λ b. cond b (super_block isize top (isize + 1)) behind_one) t

  after_one : block ≢ 1 → fresh_block isize top block ≡ behind_one
  unfolding fresh_block behind_one behind_two
  after_one apart = let f : nat_eq block 1 ≡ false = grind (arith, nat_tests) in ap (λ b. cond b (super_block isize top (isize + 1)) behind_one) f

  pub second_block : block ≢ 1 → block ≡ 2 → fresh_block isize top block ≡ put_at zeros 64 (dinode_bytes (root_inode isize))
  unfolding behind_one
  second_block apart is =
      let t : nat_eq block 2 ≡ true = grind (arith, nat_tests) in
      after_one apart ∙ ap (λ b. cond b (put_at zeros 64 (dinode_bytes (root_inode isize))) behind_two) t

  after_two : block ≢ 1 → block ≢ 2 → fresh_block isize top block ≡ behind_two
  unfolding behind_one
  after_two apart other =
      let f : nat_eq block 2 ≡ false = grind (arith, nat_tests) in
      after_one apart ∙ ap (λ b. cond b (put_at zeros 64 (dinode_bytes (root_inode isize))) behind_two) f

  pub root_block : block ≢ 1 → block ≢ 2 → block ≡ isize → fresh_block isize top block ≡ root_slots
  unfolding behind_two
  root_block apart other is =
      let t : nat_eq block isize ≡ true = grind (arith, nat_tests) in
      after_two apart other ∙ ap (λ b. cond b root_slots (free_block top (isize + 1) block)) t

  later_block : block ≢ 1 → block ≢ 2 → block ≢ isize → fresh_block isize top block ≡ free_block top (isize + 1) block
  unfolding behind_two
  later_block apart other below =
      let f : nat_eq block isize ≡ false = grind (arith, nat_tests) in
      after_two apart other ∙ ap (λ b. cond b root_slots (free_block top (isize + 1) block)) f

  pub list_block : block ≢ 1 → block ≢ 2 → block ≢ isize → has_list top (isize + 1) block ≡ true → fresh_block isize top block ≡ put_at zeros 0 (chain_bytes (list_after top block))
  unfolding free_block
  list_block apart other below has = later_block apart other below ∙ ap (λ b. cond b (put_at zeros 0 (chain_bytes (list_after top block))) zeros) has

  pub plain_block : block ≢ 1 → block ≢ 2 → block ≢ isize → has_list top (isize + 1) block ≡ false → fresh_block isize top block ≡ zeros
  unfolding free_block
  plain_block apart other below none = later_block apart other below ∙ ap (λ b. cond b (put_at zeros 0 (chain_bytes (list_after top block))) zeros) none
