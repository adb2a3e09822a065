-- Worked examples of a fresh volume: 8 blocks, of which block 2 has the inodes.
use Rattle.std.specs.Prelude.{[], ◌∷◌, ◌-◌, ◌+◌, ◌≡◌}
use Rattle.mb_nodes.specs.Fresh.{falling, fresh_tree}

-- blocks 7 to 4 are put back, the tree has inodes 1 to 8, and its files may have 5 blocks, the root's among them
pub record SmallVolume : Type 0 where
  pub order : falling (3 + 1) (8 - 1 - 3) ≡ 7 ∷ 6 ∷ 5 ∷ 4 ∷ []
  pub last : (fresh_tree 3 8).last ≡ 8
  pub cap : (fresh_tree 3 8).cap ≡ 5
