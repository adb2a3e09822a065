-- The free lists of a volume on which no file was made yet, in closed form. Blocks are freed from the last one down, so
-- a list's numbers fall from place 0 to its last place by one a place, and a full list of 50 moves into each fiftieth
-- block from the end (V7 filsys(5)).
use Rattle.std.specs.Prelude.{List, ℕ, ◌+◌, ◌-◌, ◌%◌, Bool, ◌&&◌, cond, nat_eq, nat_le, nat_lt, replicate}
use Rattle.mb_kinds.specs.Image.{zeros}
use Rattle.mb_word.specs.Numbers.{put_at}
use Rattle.mb_layout.specs.ChainBlock.{chain_bytes}
use Rattle.mb_layout.specs.Listed.{listed}
use Rattle.mb_layout.specs.SuperBlock.{super_bytes}
use Rattle.mb_layout.specs.declared.chains.Chain.{Chain}
use Rattle.mb_layout.specs.declared.super_blocks.Super.{Super}

-- place k of a list whose place `last` has the number `next`, on a volume of `top` blocks; 0 past the last block
abbrev pub number_at : ℕ → ℕ → ℕ → ℕ → ℕ
number_at top next last k = cond (nat_lt (next + last - k) top) (next + last - k) 0

-- the last place of the super-block's list where the blocks from `next` on are free
abbrev pub last_place : ℕ → ℕ → ℕ
last_place top next = (top - next) % 50

-- place k of the super-block's list. Behind the last place stand the numbers that the last full list left there
abbrev pub free_at : ℕ → ℕ → ℕ → ℕ
free_at top next k = number_at top next (cond (nat_le k (last_place top next)) (last_place top next) (last_place top next + 50)) k

-- no inode's number in any place of the cache
unfoldable pub no_numbers : List ℕ
no_numbers = replicate 100 0

-- the super-block where the blocks from `next` on are free
abbrev pub super_with : ℕ → ℕ → ℕ → Super
super_with isize top next = record {
  s_isize = isize;
  s_fsize = top;
  s_nfree = last_place top next + 1;
  s_free = listed (free_at top next) 50;
  s_ninode = 0;
  s_inode = no_numbers;
}

abbrev pub super_block : ℕ → ℕ → ℕ → List ℕ
super_block isize top next = put_at zeros 0 (super_bytes (super_with isize top next))

-- a block, free where it is from `next` on, got a full list where 49 blocks or 50 more, and so on, come after it
abbrev pub has_list : ℕ → ℕ → ℕ → Bool
has_list top next block = nat_le next block && nat_eq ((top - 1 - block) % 50) 49

-- its list: the 50 blocks after it
abbrev pub list_after : ℕ → ℕ → Chain
list_after top block = record { count = 50; list = listed (number_at top (block + 1) 49) 50 }

-- the bytes of a block that holds nothing but what the free chain has there
unfoldable pub free_block : ℕ → ℕ → ℕ → List ℕ
free_block top next block = cond (has_list top next block) (put_at zeros 0 (chain_bytes (list_after top block))) zeros
