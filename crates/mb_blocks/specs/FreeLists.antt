-- The steps of the free chain: a block is taken from it or put back on it (V7 filsys(5)).
use Rattle.std.specs.Prelude.{List, [], ◌∷◌, ◌++◌, ℕ, ◌+◌, ◌<◌, ◌≡◌, ◌≢◌, Bool, length, cond, nat_eq}
use Rattle.mb_word.specs.Fields.{isize_of}
use Rattle.mb_word.specs.Numbers.{SameFrom}
use Rattle.mb_tree.specs.Blocks.{first_list, list_in}
use Rattle.mb_tree.specs.Chain.{Listed, IsNext, after_taking}
use Rattle.mb_blocks.specs.Laid.{IsLaid}
use Rattle.mb_blocks.specs.Pointing.{KeepsHeld}
use Rattle.mb_blocks.specs.Conserved.{Conserves}

-- two lists have the same addresses below their count; places past the count are rubbish
pub record IsSameList (one other : Listed) : Type 0 where
  pub count : one.count ≡ other.count
  pub entry : (k : ℕ) → k < other.count → one.entry k ≡ other.entry k

-- a block taken from the chain: the super-block's list is what is left, and every other byte is as before
pub record IsTaken (old new : ℕ → List ℕ) (block : ℕ) : Type 0 where
  pub next : IsNext (first_list old) block
  pub list : IsSameList (first_list new) (after_taking (list_in old) (first_list old) block)
  pub sized : length (new 1) ≡ 512
  pub front : SameFrom (new 1) (old 1) 0 6
  pub back : SameFrom (new 1) (old 1) 208 304
  pub others : (other : ℕ) → other ≢ 1 → new other ≡ old other

-- a list with one address more
abbrev pub pushed : Listed → ℕ → Listed
pushed it block = record { count = it.count + 1; entry = λ k. cond (nat_eq k it.count) block (it.entry k) }

-- the list that ends a chain: address 0 alone
abbrev pub ended : Listed
ended = record { count = 1; entry = λ k. 0 }

-- a list without an address
abbrev pub emptied : Listed
emptied = record { count = 0; entry = λ k. 0 }

-- the super-block's list once a block was put back: an empty list gets the end first, and a full one of 50
-- moves into that block
unfoldable pub after_freeing : Listed → ℕ → Listed
after_freeing it block = pushed (cond (nat_eq it.count 0) ended (cond (nat_eq it.count 50) emptied it)) block

-- a block put back on the chain, and every other byte as before; its own bytes change where it gets a full list
pub record IsFreed (old new : ℕ → List ℕ) (block : ℕ) : Type 0 where
  pub list : IsSameList (first_list new) (after_freeing (first_list old) block)
  pub copied : (first_list old).count ≡ 50 → IsSameList (list_in new block) (first_list old)
  pub sized : length (new 1) ≡ 512
  pub filled : length (new block) ≡ 512
  pub front : SameFrom (new 1) (old 1) 0 6
  pub back : SameFrom (new 1) (old 1) 208 304
  pub others : (other : ℕ) → other ≢ 1 → other ≢ block → new other ≡ old other

-- blocks put back one after another
abbrev pub AreFreed : (ℕ → List ℕ) → (ℕ → List ℕ) → List ℕ → Type 0
AreFreed old new [] = new ≡ old
AreFreed old new (block ∷ blocks) = (mid : ℕ → List ℕ) × IsFreed old mid block × AreFreed mid new blocks

-- the chain once blocks were put back in that order: the last one is taken first
abbrev pub onto : List ℕ → List ℕ → List ℕ
onto [] chain = chain
onto (block ∷ blocks) chain = onto blocks (block ∷ chain)

-- what no step of the free chain touches: the rest of the super-block, and the i-list
pub record KeepsRest (old new : ℕ → List ℕ) : Type 0 where
  pub front : SameFrom (new 1) (old 1) 0 6
  pub back : SameFrom (new 1) (old 1) 208 304
  pub listed : (block : ℕ) → block ≢ 1 → block < isize_of (old 1) → new block ≡ old block

-- after blocks in hand were put back
pub record HasFreed (has : ℕ → Bool) (old new : ℕ → List ℕ) (blocks loose chain left : List ℕ) : Type 0 where
  pub laid : IsLaid has new loose left
  pub held : KeepsHeld has old new
  pub rest : KeepsRest old new
  pub conserves : Conserves has has old new ((blocks ++ loose) ++ chain) (loose ++ left)

-- after a block was taken: it was the chain's first, and is in hand
pub record HasTaken (has : ℕ → Bool) (old new : ℕ → List ℕ) (block : ℕ) (loose chain : List ℕ) : Type 0 where
  pub left : List ℕ
  pub was : chain ≡ block ∷ left
  pub laid : IsLaid has new (block ∷ loose) left
  pub held : KeepsHeld has old new
  pub conserves : Conserves has has old new (loose ++ chain) (block ∷ (loose ++ left))
