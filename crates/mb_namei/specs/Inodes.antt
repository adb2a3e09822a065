-- An inode as it reads in its block, and what stat tells of it.
use Rattle.std.specs.Prelude.{List, ℕ, ◌≡◌, Option}
use Rattle.mb_kinds.specs.declared.replies.Stat.{Stat}
use Rattle.mb_word.specs.Fields.{inode_block, inode_place}
use Rattle.mb_layout.specs.Inode.{dinode_at}
use Rattle.mb_layout.specs.declared.dinodes.Dinode.{Dinode}
use Rattle.mb_tree.specs.Views.{over, IsPart}
use Rattle.mb_kinds.specs.Changed.{ChangeList, changed}
use Rattle.mb_iface.specs.Needs.{IsNeed}
use Rattle.mb_namei.specs.declared.inodes.Looked.{Looked}
use Rattle.mb_namei.specs.declared.inodes.Looked.TheVariants as looked

-- the inode with a number, as the blocks have it
abbrev pub inode_in : (ℕ → List ℕ) → ℕ → Dinode
inode_in blocks ino = dinode_at (blocks (inode_block ino)) (inode_place ino)

-- what stat tells of an inode, from its fields
abbrev pub stat_by : ℕ → Dinode → Stat
stat_by ino d = record {
  ino = ino;
  mode = d.mode;
  nlink = d.nlink;
  uid = d.uid;
  gid = d.gid;
  size = d.size;
  atime = d.atime;
  mtime = d.mtime;
  ctime = d.ctime;
}

-- the inode is read under the changes, or its block is asked for
abbrev pub LooksAt : (ℕ → Option (List ℕ)) → ChangeList → ℕ → Looked → Type 0
LooksAt shown changes ino (looked.Inode d) = (blocks : ℕ → List ℕ) → IsPart shown blocks → inode_in (over blocks (changed changes)) ino ≡ d
LooksAt shown changes ino (looked.Need need) = IsNeed shown need × (need.first ≡ inode_block ino)
