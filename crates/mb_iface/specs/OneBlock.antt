-- One block's new bytes in a list of changes.
use Rattle.std.specs.Prelude.{List, ℕ, ◌≡◌, Option, Some, cond, nat_eq}
use Rattle.mb_kinds.specs.Changed.{ChangeList, changed, put_block}
use Rattle.mb_tree.specs.Views.{over}

-- the block has these bytes, and each other block is as before
abbrev pub ChangesOne : ChangeList → ChangeList → ℕ → List ℕ → Type 0
ChangesOne old new block bytes = (other : ℕ) → changed new other ≡ cond (nat_eq block other) (Some bytes) (changed old other)

-- over whatever blocks: the blocks with this one written
abbrev pub PutsOne : ChangeList → ChangeList → ℕ → List ℕ → Type 0
PutsOne old new block bytes = (blocks : ℕ → List ℕ) → over blocks (changed new) ≡ put_block (over blocks (changed old)) block bytes

-- over whatever blocks: the blocks with one written, and then another one
abbrev pub PutsBoth : ChangeList → ChangeList → ℕ → List ℕ → ℕ → List ℕ → Type 0
PutsBoth old new block bytes then after = (blocks : ℕ → List ℕ)
    → over blocks (changed new) ≡ put_block (put_block (over blocks (changed old)) block bytes) then after
