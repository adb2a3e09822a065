-- Worked examples: the volume of 100 blocks and 16 inodes, whose i-list ends before block 4 and whose root has block 4.
use Rattle.std.specs.Prelude.{◌≡◌, ◌+◌, true, false}
use Rattle.mb_tree.specs.Volume.{IsVolume}
use Rattle.mb_nodes.specs.Fresh.{fresh_tree}
use Rattle.mb_mkfs.specs.FreeLists.{free_at, has_list, last_place, number_at}
use Rattle.mb_mkfs.specs.Sizes.{isize_for}
use Rattle.mb_mkfs.specs.Volume.{fresh}

-- 46 places of the super-block's list count, of the blocks 50 to 5; behind them stand 54 and the next lower numbers, and
-- block 50 alone holds a list, of the blocks 99 to 51 behind the 0 that ends the chain
pub record SmallIsMade : Type 0 where
  pub isize : isize_for 16 ≡ 4
  pub count : last_place 100 5 + 1 ≡ 46
  pub first : free_at 100 5 0 ≡ 50
  pub second : free_at 100 5 1 ≡ 49
  pub last : free_at 100 5 45 ≡ 5
  pub behind : free_at 100 5 46 ≡ 54
  pub held : has_list 100 5 50 ≡ true
  pub not_held : has_list 100 5 49 ≡ false
  pub end : number_at 100 51 49 0 ≡ 0
  pub highest : number_at 100 51 49 1 ≡ 99
  pub lowest : number_at 100 51 49 49 ≡ 51
  pub volume : IsVolume (fresh 100 16) (fresh_tree 4 100)
