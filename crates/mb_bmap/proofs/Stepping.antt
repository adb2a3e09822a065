-- One step on the way to a part: an address read, or a block taken, zeroed and written there.
use Rattle.std.proofs.Common.{ℕ, ◌≡◌, inl, inr, ◌+◌, ◌*◌, ◌<◌, List, ◌++◌, length, sym, ap, ◌∙◌, arith}
use Rattle.std.proofs.lemmas.Bool.{cases_eq}
use Rattle.std.proofs.lemmas.List.{drop_all, append-nil}
use Rattle.mb_word.specs.Fields.{inode_block, inode_place}
use Rattle.mb_word.specs.Numbers.{put_at, long_bytes, addr_bytes}
use Rattle.mb_word.proofs.Values.{length-long_bytes, length-addr_bytes}
use Rattle.mb_kinds.specs.Changed.{put_block}
use Rattle.mb_iface.proofs.ChangedBlocks.{put_block_same, put_block_other}
use Rattle.mb_blocks.specs.Growing.{IsEntrySet, IsTopSet}
use Rattle.mb_blocks.proofs.SetBytes.{entry_set, top_set}
use Rattle.mb_blocks.proofs.Taking.{length-zeros}
use Rattle.mb_blocks.specs.Rules.{KeepsRules}
use Rattle.mb_alloc.specs.Taking.{IsTakenZeroed}

-- bytes written over all of a list are those bytes
whole_put : (z xs : List ℕ) → length xs ≡ length z → put_at z 0 xs ≡ xs
unfolding put_at
whole_put z xs same = ap (λ r. xs ++ r) (drop_all (0 + length xs) z (omega (arith, same))) ∙ append-nil xs

-- every block has its 512 bytes once one was taken and filled
pub sized_two : (old two : ℕ → List ℕ) (block : ℕ) → KeepsRules old → IsTakenZeroed old two block → (other : ℕ) → length (two other) ≡ 512
sized_two old two block keeps tz other = elim (cases_eq other block) [
  | inl is ↦ ap (λ b. length (two b)) is ∙ ap length tz.zeroed.here ∙ length-zeros
  | inr apart ↦ ap length (tz.zeroed.others other apart) ∙ elim (cases_eq other 1) [
    | inl one ↦ ap (λ b. length (tz.between b)) one ∙ tz.taken.sized
    | inr off ↦ ap length (tz.taken.others other off) ∙ keeps.sized other
  ]
]

pub set_entry : (two new : ℕ → List ℕ) (index place block : ℕ) (z value : List ℕ) → length (two index) ≡ 512 → place < 128 → block < 262144
    → length z ≡ 4 → value ≡ put_at z 0 (long_bytes block) → new ≡ put_block two index (put_at (two index) (4 * place) value) → IsEntrySet two new index place block
set_entry two new index place block z value long low small zs is wrote =
    let v : value ≡ long_bytes block = is ∙ whole_put z (long_bytes block) (length-long_bytes block ∙ sym zs) in
    entry_set two new index place block low (omega (arith, small)) long
    (ap (λ f. f index) wrote ∙ put_block_same two index (put_at (two index) (4 * place) value) ∙ ap (put_at (two index) (4 * place)) v)
    (λ other apart. ap (λ f. f other) wrote ∙ put_block_other two index (put_at (two index) (4 * place) value) other apart)

pub set_top : (two new : ℕ → List ℕ) (ino holder slot place block : ℕ) (z value : List ℕ) → length (two (inode_block ino)) ≡ 512 → 0 < ino → holder ≡ inode_block ino → slot ≡ inode_place ino → place < 13 → block < 262144
    → length z ≡ 3 → value ≡ put_at z 0 (addr_bytes block) → new ≡ put_block two holder (put_at (two holder) (64 * slot + 12 + 3 * place) value) → IsTopSet two new ino place block
set_top two new ino holder slot place block z value long some at_block at_place low small zs is wrote =
    let v : value ≡ addr_bytes block = is ∙ whole_put z (addr_bytes block) (length-addr_bytes block ∙ sym zs) in
    let w : new ≡ put_block two (inode_block ino) (put_at (two (inode_block ino)) (64 * inode_place ino + 12 + 3 * place) (addr_bytes block)) =
    wrote ∙ ap (λ h. put_block two h (put_at (two h) (64 * slot + 12 + 3 * place) value)) at_block
    ∙ ap (λ s. put_block two (inode_block ino) (put_at (two (inode_block ino)) (64 * s + 12 + 3 * place) value)) at_place
    ∙ ap (λ x. put_block two (inode_block ino) (put_at (two (inode_block ino)) (64 * inode_place ino + 12 + 3 * place) x)) v in
    top_set two new ino place block some low (omega (arith, small)) long
    (ap (λ f. f (inode_block ino)) w ∙ put_block_same two (inode_block ino) (put_at (two (inode_block ino)) (64 * inode_place ino + 12 + 3 * place) (addr_bytes block)))
    (λ other apart. ap (λ f. f other) w ∙ put_block_other two (inode_block ino) (put_at (two (inode_block ino)) (64 * inode_place ino + 12 + 3 * place) (addr_bytes block)) other apart)
