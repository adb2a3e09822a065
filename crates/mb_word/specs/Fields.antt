-- Where each field of a volume stands in the bytes of its block (V7 filsys(5), dir(5)). Offsets are
-- in bytes; k counts a list's items from 0, p is an inode's place among the eight of its block, and
-- s a slot's among the 32 of its block.
use Rattle.std.specs.Prelude.{◌+◌, ◌-◌, ◌*◌, ◌/◌, ◌%◌, ℕ, List, take, drop}
use Rattle.mb_word.specs.Numbers.{word_at, long_at, addr_at}

-- the super-block, block 1: the first block after the i-list
abbrev pub isize_of : List ℕ → ℕ
isize_of b = word_at b 0

-- the first address that is not available to files
abbrev pub fsize_of : List ℕ → ℕ
fsize_of b = long_at b 2

-- how many of the 50 listed free blocks count
abbrev pub nfree_of : List ℕ → ℕ
nfree_of b = word_at b 6

abbrev pub free_of : List ℕ → ℕ → ℕ
free_of b k = long_at b (8 + 4 * k)

-- how many of the 100 cached inode numbers count
abbrev pub ninode_of : List ℕ → ℕ
ninode_of b = word_at b 208

abbrev pub cached_of : List ℕ → ℕ → ℕ
cached_of b k = word_at b (210 + 2 * k)

-- a block of the free chain: how many of its 50 addresses count
abbrev pub chain_count : List ℕ → ℕ
chain_count b = word_at b 0

abbrev pub chain_entry : List ℕ → ℕ → ℕ
chain_entry b k = long_at b (2 + 4 * k)

-- the block in which an inode stands, and its place there
abbrev pub inode_block : ℕ → ℕ
inode_block i = 2 + (i - 1) / 8

abbrev pub inode_place : ℕ → ℕ
inode_place i = (i - 1) % 8

-- an inode
abbrev pub mode_of : List ℕ → ℕ → ℕ
mode_of b p = word_at b (64 * p)

abbrev pub nlink_of : List ℕ → ℕ → ℕ
nlink_of b p = word_at b (64 * p + 2)

abbrev pub uid_of : List ℕ → ℕ → ℕ
uid_of b p = word_at b (64 * p + 4)

abbrev pub gid_of : List ℕ → ℕ → ℕ
gid_of b p = word_at b (64 * p + 6)

abbrev pub size_of : List ℕ → ℕ → ℕ
size_of b p = long_at b (64 * p + 8)

-- its 13 addresses, and one byte that is kept as found
abbrev pub area_of : List ℕ → ℕ → List ℕ
area_of b p = take 40 (drop (64 * p + 12) b)

abbrev pub address_of : List ℕ → ℕ → ℕ → ℕ
address_of b p k = addr_at b (64 * p + 12 + 3 * k)

abbrev pub atime_of : List ℕ → ℕ → ℕ
atime_of b p = long_at b (64 * p + 52)

abbrev pub mtime_of : List ℕ → ℕ → ℕ
mtime_of b p = long_at b (64 * p + 56)

abbrev pub ctime_of : List ℕ → ℕ → ℕ
ctime_of b p = long_at b (64 * p + 60)

-- a directory's slot: the inode's number, 0 where the slot is empty, and the name, padded with 0
abbrev pub slot_ino : List ℕ → ℕ → ℕ
slot_ino b s = word_at b (16 * s)

abbrev pub slot_name : List ℕ → ℕ → List ℕ
slot_name b s = take 14 (drop (16 * s + 2) b)

-- an index block's address
abbrev pub index_entry : List ℕ → ℕ → ℕ
index_entry b k = long_at b (4 * k)
