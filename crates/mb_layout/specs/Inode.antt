-- An inode as a value and as bytes (V7 filsys(5)).
use Rattle.std.specs.Prelude.{◌≡◌, ◌<◌, ◌*◌, ◌++◌, ℕ, List, length}
use Rattle.mb_word.specs.Numbers.{word_bytes, long_bytes, addr_at}
use Rattle.mb_word.specs.Fields.{mode_of, nlink_of, uid_of, gid_of, size_of, area_of, atime_of, mtime_of, ctime_of}
use Rattle.mb_layout.specs.declared.dinodes.Dinode.{Dinode}

-- the value that the bytes at a place, one of eight, of a block of the i-list stand for
abbrev pub dinode_at : List ℕ → ℕ → Dinode
dinode_at b place = record {
  mode = mode_of b place;
  nlink = nlink_of b place;
  uid = uid_of b place;
  gid = gid_of b place;
  size = size_of b place;
  area = area_of b place;
  atime = atime_of b place;
  mtime = mtime_of b place;
  ctime = ctime_of b place;
}

-- its 64 bytes
unfoldable pub dinode_bytes : Dinode → List ℕ
dinode_bytes d = word_bytes d.mode ++ word_bytes d.nlink ++ word_bytes d.uid ++ word_bytes d.gid ++ long_bytes d.size ++ d.area ++ long_bytes d.atime ++ long_bytes d.mtime ++ long_bytes d.ctime

-- the address at a place, one of 13, of its area
abbrev pub address_in : Dinode → ℕ → ℕ
address_in d k = addr_at d.area (3 * k)

-- each field is within the range of its type, and the area has its length
pub record FitsDinode (d : Dinode) : Type 0 where
  pub mode : d.mode < 65536
  pub nlink : d.nlink < 65536
  pub uid : d.uid < 65536
  pub gid : d.gid < 65536
  pub size : d.size < 4294967296
  pub area : length d.area ≡ 40
  pub atime : d.atime < 4294967296
  pub mtime : d.mtime < 4294967296
  pub ctime : d.ctime < 4294967296
