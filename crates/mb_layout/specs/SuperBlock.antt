-- The super-block as a value and as bytes (V7 filsys(5)).
use Rattle.std.specs.Prelude.{◌≡◌, ◌<◌, ◌++◌, ℕ, List, length, slice_index}
use Rattle.mb_word.specs.Numbers.{word_bytes, long_bytes}
use Rattle.mb_word.specs.Fields.{isize_of, fsize_of, nfree_of, free_of, ninode_of, cached_of}
use Rattle.mb_layout.specs.Listed.{listed, words_bytes, longs_bytes}
use Rattle.mb_layout.specs.declared.super_blocks.Super.{Super}

-- the value that the bytes of block 1 stand for
abbrev pub super_at : List ℕ → Super
super_at b = record {
  s_isize = isize_of b;
  s_fsize = fsize_of b;
  s_nfree = nfree_of b;
  s_free = listed (free_of b) 50;
  s_ninode = ninode_of b;
  s_inode = listed (cached_of b) 100;
}

-- its 410 bytes
unfoldable pub super_bytes : Super → List ℕ
super_bytes s = word_bytes s.s_isize ++ long_bytes s.s_fsize ++ word_bytes s.s_nfree ++ longs_bytes s.s_free ++ word_bytes s.s_ninode ++ words_bytes s.s_inode

-- each field is within the range of its type, and each list has its length
pub record FitsSuper (s : Super) : Type 0 where
  pub isize : s.s_isize < 65536
  pub fsize : s.s_fsize < 4294967296
  pub nfree : s.s_nfree < 65536
  pub frees : length s.s_free ≡ 50
  pub free : (k : ℕ) → slice_index s.s_free k < 4294967296
  pub ninode : s.s_ninode < 65536
  pub inodes : length s.s_inode ≡ 100
  pub inode : (k : ℕ) → slice_index s.s_inode k < 65536
