-- A fresh volume, byte by byte: the super-block, the root's inode, the root's two slots and the lists of the free chain
-- (V7 filsys(5), dir(5)). Every other byte is 0.
use Rattle.std.specs.Prelude.{List, ℕ, ◌+◌, cond, nat_eq, replicate}
use Rattle.mb_kinds.specs.Image.{Image, zeros}
use Rattle.mb_word.specs.Numbers.{addr_bytes, put_at}
use Rattle.mb_layout.specs.Inode.{dinode_bytes}
use Rattle.mb_layout.specs.SlotEntry.{slot_bytes}
use Rattle.mb_layout.specs.declared.dinodes.Dinode.{Dinode}
use Rattle.mb_layout.specs.declared.slots.Slot.{Slot}
use Rattle.mb_tree.specs.Effect.{dot, dot_dot}
use Rattle.mb_mkfs.specs.FreeLists.{free_block, super_block}
use Rattle.mb_mkfs.specs.Sizes.{isize_for}

-- no address in any of the 40 bytes of an inode's area
unfoldable pub no_addresses : List ℕ
no_addresses = replicate 40 0

-- the root: a directory, mode 040777 in octal, of two slots in the block `isize`
abbrev pub root_inode : ℕ → Dinode
root_inode isize = record {
  mode = 0x41FF;
  nlink = 2;
  uid = 0;
  gid = 0;
  size = 32;
  area = put_at no_addresses 0 (addr_bytes isize);
  atime = 0;
  mtime = 0;
  ctime = 0;
}

-- both slots of the root lead to the root, inode 2
abbrev pub root_slot : List ℕ → Slot
root_slot name = record { ino = 2; name = name }

abbrev pub with_root_slots : List ℕ → List ℕ
with_root_slots bytes = put_at (put_at bytes 0 (slot_bytes (root_slot dot))) 16 (slot_bytes (root_slot dot_dot))

abbrev pub root_slots : List ℕ
root_slots = with_root_slots zeros

-- a block of a volume of `top` blocks whose i-list ends before `isize`: inode 2 is the second in block 2
unfoldable pub fresh_block : ℕ → ℕ → ℕ → List ℕ
fresh_block isize top block =
    cond (nat_eq block 1) (super_block isize top (isize + 1))
    (cond (nat_eq block 2) (put_at zeros 64 (dinode_bytes (root_inode isize)))
    (cond (nat_eq block isize) root_slots (free_block top (isize + 1) block)))

-- the fresh volume of so many blocks and inodes
abbrev pub fresh : ℕ → ℕ → Image
fresh blocks inodes = record { count = blocks; at = fresh_block (isize_for inodes) blocks }
