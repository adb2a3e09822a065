-- A slot written in a block.
use Rattle.std.proofs.Common.{ℕ, ◌≡◌, ◌*◌, ◌+◌, ◌++◌, ◌<◌, ◌≤◌, List, length, Option, append-nil, ap, ◌∙◌, arith}
use Rattle.std.proofs.Math.ListN.{drop_of_length-le}
use Rattle.mb_word.specs.Numbers.{put_at, word_bytes}
use Rattle.mb_layout.specs.SlotEntry.{slot_bytes}
use Rattle.mb_layout.specs.declared.slots.Slot.{Slot}
use Rattle.mb_layout.proofs.SlotBytes.{length-slot_bytes, slot_put}
use Rattle.mb_tree.specs.Views.{over}
use Rattle.mb_kinds.specs.Changed.{ChangeList, changed, put_block}
use Rattle.mb_iface.specs.Edits.{Edits}
use Rattle.mb_iface.specs.declared.edits.Edited.{Edited}
use Rattle.mb_iface.specs.declared.edits.Edited.TheVariants.{Done, Lacking, NoMemory}
use Rattle.mb_iface.proofs.ChangedBlocks.{put_block_same, put_block_other}
use Rattle.mb_nodes.proofs.SlotWrites.{slot_set}
use Rattle.mb_dirs.specs.SlotBlocks.{PutsSlot}

-- a slot's bytes over as many bytes are these
pub slot_written : (old one two : List ℕ) (slot : Slot) → length old ≡ 16 → length slot.name ≡ 14 → one ≡ put_at old 0 (word_bytes slot.ino) → two ≡ put_at one 2 slot.name → two ≡ slot_bytes slot
unfolding put_at
slot_written old one two slot long sized first then =
    let whole = (slot_put old one two 0 slot (omega (arith, long)) sized first then).put in
    let many = length-slot_bytes slot sized in
    whole ∙ ap (λ xs. slot_bytes slot ++ xs) (drop_of_length-le old (let l : length old ≤ 0 + length (slot_bytes slot) = omega (arith, long, many) in l)) ∙ append-nil (slot_bytes slot)

pub put_done : (shown : ℕ → Option (List ℕ)) (old new : ChangeList) (block place ino : ℕ) (name bytes : List ℕ) (result : Edited) → place < 32 → ino < 65536 → length name ≡ 14
    → bytes ≡ slot_bytes (record { ino = ino; name = name }) → Edits shown old new block (16 * place) bytes result → PutsSlot shown old new block place name ino result
put_done shown old new block place ino name bytes Done low small sized is edits = (
  edits.within,
  λ blocks part long.
      (let slot : Slot = record { ino = ino; name = name } in
      let was = over blocks (changed old) in
      let wrote : over blocks (changed new) ≡ put_block was block (put_at (was block) (16 * place) (slot_bytes slot)) =
      edits.wrote blocks part ∙ ap (λ b. put_block was block (put_at (was block) (16 * place) b)) is in
      slot_set was (over blocks (changed new)) block place slot low (record { ino = small; name = sized }) long
      (ap (λ f. f block) wrote ∙ put_block_same was block (put_at (was block) (16 * place) (slot_bytes slot)))
      (λ other apart. ap (λ f. f other) wrote ∙ put_block_other was block (put_at (was block) (16 * place) (slot_bytes slot)) other apart)),
)
put_done shown old new block place ino name bytes Lacking low small sized is edits = edits.1
put_done shown old new block place ino name bytes NoMemory low small sized is edits = tt
