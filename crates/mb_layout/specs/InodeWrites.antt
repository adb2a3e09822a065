-- A block of the i-list in which one inode was written, field by field (V7 filsys(5)).
use Rattle.std.specs.Prelude.{◌≡◌, ◌≢◌, ◌<◌, ◌+◌, ◌*◌, ℕ, List, length, slice_index}
use Rattle.mb_word.specs.Numbers.{SameFrom}
use Rattle.mb_word.specs.Fields.{mode_of, nlink_of, uid_of, gid_of, size_of, address_of, atime_of, mtime_of, ctime_of}
use Rattle.mb_layout.specs.Inode.{address_in}
use Rattle.mb_layout.specs.declared.dinodes.Dinode.{Dinode}

-- the inode at a place of a block has the fields and the addresses of a value
pub record HasDinode (b : List ℕ) (place : ℕ) (d : Dinode) : Type 0 where
  pub mode : mode_of b place ≡ d.mode
  pub nlink : nlink_of b place ≡ d.nlink
  pub uid : uid_of b place ≡ d.uid
  pub gid : gid_of b place ≡ d.gid
  pub size : size_of b place ≡ d.size
  pub address : (k : ℕ) → k < 13 → address_of b place k ≡ address_in d k
  -- the byte of the area that holds no address
  pub byte : slice_index b (64 * place + 51) ≡ slice_index d.area 39
  pub atime : atime_of b place ≡ d.atime
  pub mtime : mtime_of b place ≡ d.mtime
  pub ctime : ctime_of b place ≡ d.ctime

-- the inode at a place has the fields and the addresses that it had, and each of its 64 bytes stayed
pub record KeepsDinode (old new : List ℕ) (place : ℕ) : Type 0 where
  pub mode : mode_of new place ≡ mode_of old place
  pub nlink : nlink_of new place ≡ nlink_of old place
  pub uid : uid_of new place ≡ uid_of old place
  pub gid : gid_of new place ≡ gid_of old place
  pub size : size_of new place ≡ size_of old place
  pub address : (k : ℕ) → k < 13 → address_of new place k ≡ address_of old place k
  pub atime : atime_of new place ≡ atime_of old place
  pub mtime : mtime_of new place ≡ mtime_of old place
  pub ctime : ctime_of new place ≡ ctime_of old place
  pub bytes : SameFrom new old (64 * place) 64

-- a block in which one of the eight inodes was written
pub record IsDinodeWritten (old new : List ℕ) (place : ℕ) (d : Dinode) : Type 0 where
  pub sized : length new ≡ 512
  pub here : HasDinode new place d
  pub others : (other : ℕ) → other < 8 → other ≢ place → KeepsDinode old new other
