-- The blocks of an inode level by level: an index block, and then what stands under its addresses, the last first.
use Rattle.std.specs.Prelude.{List, [], ◌∷◌, ◌++◌, ℕ, zero, suc, ◌-◌, cond, nat_lt}
use Rattle.mb_tree.specs.Places.{Pointers}

-- what stands under the first count of some addresses, the last first, where one gives what a block leads to
unfoldable pub under_each : (ℕ → ℕ → List ℕ) → (ℕ → ℕ) → ℕ → List ℕ
under_each one address zero = []
under_each one address (suc count) = cond (nat_lt 0 (address count)) (one count (address count)) [] ++ under_each one address count

-- a block and all under it, by the levels of index blocks
unfoldable pub under_block : Pointers → ℕ → ℕ → List ℕ
under_block ps zero block = block ∷ []
under_block ps (suc levels) block = block ∷ under_each (λ place. under_block ps levels) (ps.entry block) 128

-- all blocks of an inode, in an order in which they may be put back on the free chain
abbrev pub under_inode : Pointers → ℕ → List ℕ
under_inode ps ino = under_each (λ place. under_block ps (place - 9)) (ps.top ino) 13
