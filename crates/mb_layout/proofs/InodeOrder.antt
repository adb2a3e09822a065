-- Where the inodes stand in the i-list.
use Rattle.std.proofs.Common.{ℕ, ◌≢◌, ◌⊎◌, ◌-◌, ◌*◌, ◌<◌, ◌≤◌, inl, inr, arith}
use Rattle.std.proofs.lemmas.Bool.{cases_eq}
use Rattle.mb_word.specs.Fields.{inode_block, inode_place}

pub place_below : (ino : ℕ) → inode_place ino < 8
place_below ino = omega arith

pub inode_in_list : (ino size : ℕ) → 0 < ino → ino ≤ 8 * (size - 2) → (2 ≤ inode_block ino) × (inode_block ino < size)
inode_in_list ino size some last = (omega arith, omega arith)

pub inodes_apart : (ino other : ℕ) → 0 < ino → 0 < other → ino ≢ other → (inode_block ino ≢ inode_block other) ⊎ (inode_place ino ≢ inode_place other)
inodes_apart ino other some other_some apart = elim (cases_eq (inode_block ino) (inode_block other)) [
  | inl same ↦ inr (λ places. apart (omega arith))
  | inr blocks ↦ inl blocks
]
