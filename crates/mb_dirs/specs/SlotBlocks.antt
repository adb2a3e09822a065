-- One slot written in a directory's block.
use Rattle.std.specs.Prelude.{List, ℕ, ◌≡◌, Option, None, length}
use Rattle.mb_tree.specs.Views.{over, IsPart}
use Rattle.mb_kinds.specs.Changed.{ChangeList, changed, IsWithinView}
use Rattle.mb_iface.specs.declared.edits.Edited.{Edited}
use Rattle.mb_iface.specs.declared.edits.Edited.TheVariants as edited
use Rattle.mb_nodes.specs.Bodies.{IsSlotSet}

abbrev pub PutsSlot : (ℕ → Option (List ℕ)) → ChangeList → ChangeList → ℕ → ℕ → List ℕ → ℕ → Edited → Type 0
PutsSlot shown old new block place name ino edited.Done = (IsWithinView shown old → IsWithinView shown new)
    × ((blocks : ℕ → List ℕ) → IsPart shown blocks → length (over blocks (changed old) block) ≡ 512
    → IsSlotSet (over blocks (changed old)) (over blocks (changed new)) block place (record { ino = ino; name = name }))
PutsSlot shown old new block place name ino edited.Lacking = shown block ≡ None
PutsSlot shown old new block place name ino edited.NoMemory = Unit {0}
