-- Worked examples of the free chain and of an inode's blocks.
use Rattle.std.specs.Prelude.{[], ◌∷◌, ℕ, ◌+◌, ◌≡◌, cond, nat_eq}
use Rattle.mb_tree.specs.Chain.{Listed, IsChain}
use Rattle.mb_tree.specs.Places.{Pointers}
use Rattle.mb_tree.specs.Places.Place.{Top, Under}
use Rattle.mb_blocks.specs.FreeLists.{after_freeing, onto, emptied, ended}
use Rattle.mb_blocks.specs.Growing.{missing}
use Rattle.mb_blocks.specs.Walk.{under_inode}

-- a list of the addresses 100, 101, ..
abbrev pub hundreds : ℕ → Listed
hundreds count = record { count = count; entry = λ k. 100 + k }

-- block 7 put back on lists of 0, 1, 49, 50 addresses; a count of 51 breaks rule 3 and is pushed like any other
pub record PutBack : Type 0 where
  pub none_count : (after_freeing (hundreds 0) 7).count ≡ 2
  pub none_ends : (after_freeing (hundreds 0) 7).entry 0 ≡ 0
  pub none_last : (after_freeing (hundreds 0) 7).entry 1 ≡ 7
  pub one_count : (after_freeing (hundreds 1) 7).count ≡ 2
  pub one_first : (after_freeing (hundreds 1) 7).entry 0 ≡ 100
  pub one_last : (after_freeing (hundreds 1) 7).entry 1 ≡ 7
  pub near_count : (after_freeing (hundreds 49) 7).count ≡ 50
  pub near_last : (after_freeing (hundreds 49) 7).entry 49 ≡ 7
  pub full_count : (after_freeing (hundreds 50) 7).count ≡ 1
  pub full_last : (after_freeing (hundreds 50) 7).entry 0 ≡ 7
  pub over_count : (after_freeing (hundreds 51) 7).count ≡ 52

-- the list of a fresh volume of 8 blocks and one block of inodes: 7, 6, 5, 4 put back after the end
abbrev pub fresh_list : Listed
fresh_list = after_freeing (after_freeing (after_freeing (after_freeing ended 7) 6) 5) 4

-- they are taken again in rising order
pub record FreshChain : Type 0 where
  pub taken : IsChain (λ block. emptied) fresh_list (4 ∷ 5 ∷ 6 ∷ 7 ∷ [])
  pub order : onto (7 ∷ 6 ∷ 5 ∷ 4 ∷ []) [] ≡ 4 ∷ 5 ∷ 6 ∷ 7 ∷ []

-- a file with part 0 in block 20, part 13 in block 22 under the single index block 21, and part 300 in block 25
-- under the double index block 23 and block 24
abbrev pub some_pointers : Pointers
some_pointers = record {
  top = λ ino place. cond (nat_eq place 0) 20 (cond (nat_eq place 10) 21 (cond (nat_eq place 11) 23 0));
  entry = λ block place. cond (nat_eq block 21) (cond (nat_eq place 3) 22 0) (cond (nat_eq block 23) (cond (nat_eq place 1) 24 0) (cond (nat_eq block 24) (cond (nat_eq place 34) 25 0) 0));
}

-- its blocks in the order of the walk, and what is missing for parts 1, 14, 138 and 16522
pub record SmallFile : Type 0 where
  pub walk : under_inode some_pointers 5 ≡ 23 ∷ 24 ∷ 25 ∷ 21 ∷ 22 ∷ 20 ∷ []
  pub direct : missing some_pointers (Top 5 1) ≡ 1
  pub single : missing some_pointers (Under (Top 5 10) 4) ≡ 1
  pub double : missing some_pointers (Under (Under (Top 5 11) 0) 0) ≡ 2
  pub triple : missing some_pointers (Under (Under (Under (Top 5 12) 0) 0) 0) ≡ 4
