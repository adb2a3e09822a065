-- Changes of two blocks, of both or of none.
use Rattle.std.specs.Prelude.{List, ℕ, ◌≡◌, ◌⊎◌, Option, None, IsSome}
use Rattle.mb_word.specs.Numbers.{put_at}
use Rattle.mb_tree.specs.Views.{over, IsPart}
use Rattle.mb_kinds.specs.Changed.{ChangeList, changed, put_block, shown_over, IsWithinView}
use Rattle.mb_iface.specs.declared.edits.Edited.{Edited}
use Rattle.mb_iface.specs.declared.edits.Edited.TheVariants as edited

-- a block made a changed one, with the bytes that it has
pub record HasHeld (shown : ℕ → Option (List ℕ)) (old new : ChangeList) (block : ℕ) : Type 0 where
  pub same : (blocks : ℕ → List ℕ) → IsPart shown blocks → over blocks (changed new) ≡ over blocks (changed old)
  pub within : IsWithinView shown old → IsWithinView shown new
  pub there : IsSome (changed new block)
  -- what is changed stays so
  pub kept : (other : ℕ) → IsSome (changed old other) → IsSome (changed new other)

abbrev pub Holds : (ℕ → Option (List ℕ)) → ChangeList → ChangeList → ℕ → Edited → Type 0
Holds shown old new block edited.Done = HasHeld shown old new block
Holds shown old new block edited.Lacking = (new ≡ old) × (shown_over shown old block ≡ None)
Holds shown old new block edited.NoMemory = new ≡ old

-- two blocks made changed ones, with the bytes that they have
pub record HasHeldBoth (shown : ℕ → Option (List ℕ)) (old new : ChangeList) (block then : ℕ) : Type 0 where
  pub same : (blocks : ℕ → List ℕ) → IsPart shown blocks → over blocks (changed new) ≡ over blocks (changed old)
  pub within : IsWithinView shown old → IsWithinView shown new
  pub first : IsSome (changed new block)
  pub second : IsSome (changed new then)

abbrev pub HoldsBoth : (ℕ → Option (List ℕ)) → ChangeList → ChangeList → ℕ → ℕ → Edited → Type 0
HoldsBoth shown old new block then edited.Done = HasHeldBoth shown old new block then
HoldsBoth shown old new block then edited.Lacking = (new ≡ old) × ((shown_over shown old block ≡ None) ⊎ (shown_over shown old then ≡ None))
HoldsBoth shown old new block then edited.NoMemory = new ≡ old

-- a block written whole, and then bytes of a block changed from an offset on
pub record HasPutAndEdited (shown : ℕ → Option (List ℕ)) (old new : ChangeList) (put : ℕ) (whole : List ℕ) (block at : ℕ) (bytes : List ℕ) : Type 0 where
  pub wrote : (blocks : ℕ → List ℕ) → IsPart shown blocks
      → over blocks (changed new) ≡ put_block (put_block (over blocks (changed old)) put whole) block (put_at (put_block (over blocks (changed old)) put whole block) at bytes)
  pub within : IsSome (shown put) → IsWithinView shown old → IsWithinView shown new

abbrev pub PutsAndEdits : (ℕ → Option (List ℕ)) → ChangeList → ChangeList → ℕ → List ℕ → ℕ → ℕ → List ℕ → Edited → Type 0
PutsAndEdits shown old new put whole block at bytes edited.Done = HasPutAndEdited shown old new put whole block at bytes
PutsAndEdits shown old new put whole block at bytes edited.Lacking = (new ≡ old) × (shown_over shown old block ≡ None)
PutsAndEdits shown old new put whole block at bytes edited.NoMemory = new ≡ old
