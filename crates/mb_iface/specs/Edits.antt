-- Bytes of a block changed, in place or in a copy of the view's block.
use Rattle.std.specs.Prelude.{List, ℕ, ◌≡◌, Option, None, IsSome}
use Rattle.mb_word.specs.Numbers.{put_at}
use Rattle.mb_tree.specs.Views.{over, IsPart}
use Rattle.mb_kinds.specs.Changed.{ChangeList, changed, put_block, IsWithinView}
use Rattle.mb_iface.specs.declared.edits.Edited.{Edited}
use Rattle.mb_iface.specs.declared.edits.Edited.TheVariants as edited

-- bytes of a block changed from an offset on
pub record HasEdited (shown : ℕ → Option (List ℕ)) (old new : ChangeList) (block at : ℕ) (bytes : List ℕ) : Type 0 where
  -- under the changes the block has the bytes there, and each other block is as before
  pub wrote : (blocks : ℕ → List ℕ) → IsPart shown blocks → over blocks (changed new) ≡ put_block (over blocks (changed old)) block (put_at (over blocks (changed old) block) at bytes)
  pub within : IsWithinView shown old → IsWithinView shown new
  -- the block is a changed one now, so that another edit of it needs no memory
  pub there : IsSome (changed new block)

abbrev pub Edits : (ℕ → Option (List ℕ)) → ChangeList → ChangeList → ℕ → ℕ → List ℕ → Edited → Type 0
Edits shown old new block at bytes edited.Done = HasEdited shown old new block at bytes
Edits shown old new block at bytes edited.Lacking = (new ≡ old) × (shown block ≡ None) × (changed old block ≡ None)
Edits shown old new block at bytes edited.NoMemory = (new ≡ old) × (changed old block ≡ None)

-- bytes of one block changed from two offsets on, one after the other
pub record HasEditedBoth (shown : ℕ → Option (List ℕ)) (old new : ChangeList) (block at : ℕ) (bytes : List ℕ) (beside : ℕ) (more : List ℕ) : Type 0 where
  pub wrote : (blocks : ℕ → List ℕ) → IsPart shown blocks
      → over blocks (changed new) ≡ put_block (over blocks (changed old)) block (put_at (put_at (over blocks (changed old) block) at bytes) beside more)
  pub within : IsWithinView shown old → IsWithinView shown new
  pub there : IsSome (changed new block)

abbrev pub EditsBoth : (ℕ → Option (List ℕ)) → ChangeList → ChangeList → ℕ → ℕ → List ℕ → ℕ → List ℕ → Edited → Type 0
EditsBoth shown old new block at bytes beside more edited.Done = HasEditedBoth shown old new block at bytes beside more
EditsBoth shown old new block at bytes beside more edited.Lacking = (new ≡ old) × (shown block ≡ None) × (changed old block ≡ None)
EditsBoth shown old new block at bytes beside more edited.NoMemory = (new ≡ old) × (changed old block ≡ None)
