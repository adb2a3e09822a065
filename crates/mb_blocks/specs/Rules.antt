-- Rules 2 to 4 of a volume alone: the sizes, the counts of the free chain's lists, and the ranges of their
-- addresses. A chain whose lists run in a circle keeps them.
use Rattle.std.specs.Prelude.{List, ℕ, zero, suc, ◌-◌, ◌<◌, ◌≤◌, ◌≡◌, ◌≢◌, ◌⊎◌, length}
use Rattle.mb_word.specs.Fields.{isize_of, fsize_of, ninode_of}
use Rattle.mb_tree.specs.Blocks.{first_list, list_in}
use Rattle.mb_tree.specs.Chain.{Listed}
use Rattle.mb_tree.specs.Volume.{IsOpenToFiles}

-- the chain's lists in their order: that of the super-block, and then each one to which place 0 of the last leads
abbrev pub nth_list : (ℕ → List ℕ) → ℕ → Listed
nth_list blocks zero = first_list blocks
nth_list blocks (suc n) = list_in blocks ((nth_list blocks n).entry 0)

-- there is such a list: each before it has an address other than 0 in its place 0
abbrev pub LeadsTo : (ℕ → List ℕ) → ℕ → Type 0
LeadsTo blocks zero = Unit {0}
LeadsTo blocks (suc n) = LeadsTo blocks n × (0 < (nth_list blocks n).count) × ((nth_list blocks n).entry 0 ≢ 0)

pub record KeepsRules (blocks : ℕ → List ℕ) : Type 0 where
  pub sized : (block : ℕ) → length (blocks block) ≡ 512
  pub some_inodes : 3 ≤ isize_of (blocks 1)
  pub few_inodes : isize_of (blocks 1) ≤ 8193
  pub few_blocks : fsize_of (blocks 1) ≤ 262144
  pub cached : ninode_of (blocks 1) ≤ 100
  pub counts : (n : ℕ) → LeadsTo blocks n → (nth_list blocks n).count ≤ 50
  pub listed : (n k : ℕ) → LeadsTo blocks n → k < (nth_list blocks n).count
      → ((k ≡ 0) × ((nth_list blocks n).entry k ≡ 0)) ⊎ IsOpenToFiles blocks ((nth_list blocks n).entry k)

-- no block can be taken from a chain with this first list: it has none, or its last address is 0
abbrev pub IsOut : Listed → Type 0
IsOut it = (it.count ≡ 0) ⊎ (it.entry (it.count - 1) ≡ 0)
