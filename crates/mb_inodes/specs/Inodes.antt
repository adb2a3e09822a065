-- An inode read from its block, and written there (V7 filsys(5)).
use Rattle.std.specs.Prelude.{List, ℕ, ◌≡◌, Option}
use Rattle.mb_word.specs.Fields.{inode_block, inode_place}
use Rattle.mb_layout.specs.Inode.{dinode_at}
use Rattle.mb_layout.specs.declared.dinodes.Dinode.{Dinode}
use Rattle.mb_tree.specs.Views.{over, IsPart}
use Rattle.mb_blocks.specs.Inodes.{IsDinodeWritten}
use Rattle.mb_kinds.specs.Changed.{ChangeList, changed}
use Rattle.mb_iface.specs.Needs.{IsNeed}
use Rattle.mb_iface.specs.declared.edits.Edited.{Edited}
use Rattle.mb_iface.specs.declared.edits.Edited.TheVariants as edited
use Rattle.mb_inodes.specs.declared.inodes.Inode.{Inode}
use Rattle.mb_inodes.specs.declared.inodes.Inode.TheVariants as inode

-- the inode's value under the changes, or its block is asked for
abbrev pub ReadsInode : (ℕ → Option (List ℕ)) → ChangeList → ℕ → Inode → Type 0
ReadsInode shown changes ino (inode.Here d) = (blocks : ℕ → List ℕ) → IsPart shown blocks → d ≡ dinode_at (over blocks (changed changes) (inode_block ino)) (inode_place ino)
ReadsInode shown changes ino (inode.Need need) = IsNeed shown need × (need.first ≡ inode_block ino)

-- the inode written, where the answer says so
abbrev pub WritesInode : (ℕ → Option (List ℕ)) → ChangeList → ChangeList → ℕ → Dinode → Edited → Type 0
WritesInode shown old new ino d edited.Done = (blocks : ℕ → List ℕ) → IsPart shown blocks → IsDinodeWritten (over blocks (changed old)) (over blocks (changed new)) ino d
WritesInode shown old new ino d edited.Lacking = Unit {0}
WritesInode shown old new ino d edited.NoMemory = Unit {0}
