-- Worked cases of the walk, by computing.
use Rattle.std.specs.Prelude.{◌≡◌, refl, ℕ, List, [], ◌∷◌, true, false, Err}
use Rattle.mb_word.specs.Numbers.{word_at, long_at}
use Rattle.mb_rules.specs.FreeChain.{chain_items, list_items}
use Rattle.mb_rules.specs.Items.{Holds, Held, walked, each_from}
use Rattle.mb_rules.specs.SuperBlock.{are_sizes, are_counts}

-- a test that holds, an address, and the same address again
again : walked [] (Holds true 1 4 ∷ Held 9 ∷ Held 8 ∷ Held 9 ∷ Holds false 1 4 ∷ []) ≡ Err (record { block = 9; rule = 7 })
unfolding walked
again = refl

-- the range of an address is tested before rule 7
range_first : walked (9 ∷ []) (Holds false 1 4 ∷ Held 9 ∷ []) ≡ Err (record { block = 1; rule = 4 })
unfolding walked
range_first = refl

-- the first bytes of the super-block of a fresh volume of 100 blocks and 16 inodes
abbrev fresh : List ℕ
fresh = 4 ∷ 0 ∷ 0 ∷ 0 ∷ 100 ∷ 0 ∷ 46 ∷ 0 ∷ 0 ∷ 0 ∷ 50 ∷ 0 ∷ 0 ∷ 0 ∷ 49 ∷ 0 ∷ []

sizes_fresh : are_sizes fresh 100 ≡ true
unfolding word_at long_at
sizes_fresh = refl

sizes_cut : are_sizes fresh 99 ≡ false
unfolding word_at long_at
sizes_cut = refl

counts_fresh : are_counts fresh ≡ true
unfolding word_at
counts_fresh = refl

-- a super-block that lists place 0, 1 and 2 as 6, 5 and 5: place 0 comes last
abbrev twice : List ℕ
twice = 4 ∷ 0 ∷ 0 ∷ 0 ∷ 20 ∷ 0 ∷ 3 ∷ 0 ∷ 0 ∷ 0 ∷ 99 ∷ 0 ∷ 0 ∷ 0 ∷ 5 ∷ 0 ∷ 0 ∷ 0 ∷ 5 ∷ 0 ∷ []

twice_found : walked [] (chain_items (λ block. twice)) ≡ Err (record { block = 5; rule = 7 })
unfolding word_at long_at walked list_items each_from
twice_found = refl

-- places 0, 1 as 4 and 5: block 4 holds a list of the same bytes, whose count is 4, and whose place 1 is 0
circle : walked [] (chain_items (λ block. 4 ∷ 0 ∷ 0 ∷ 0 ∷ 20 ∷ 0 ∷ 2 ∷ 0 ∷ 0 ∷ 0 ∷ 4 ∷ 0 ∷ 0 ∷ 0 ∷ 5 ∷ 0 ∷ [])) ≡ Err (record { block = 4; rule = 4 })
unfolding word_at long_at walked list_items each_from
circle = refl
