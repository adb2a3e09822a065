-- A directory's slot as a value and as bytes (V7 dir(5)).
use Rattle.std.specs.Prelude.{◌≡◌, ◌<◌, ◌++◌, ℕ, List, length}
use Rattle.mb_word.specs.Numbers.{word_bytes}
use Rattle.mb_word.specs.Fields.{slot_ino, slot_name}
use Rattle.mb_layout.specs.declared.slots.Slot.{Slot}

-- the value that the bytes at a place, one of 32, of a directory's block stand for
abbrev pub slot_at : List ℕ → ℕ → Slot
slot_at b place = record { ino = slot_ino b place; name = slot_name b place }

-- its 16 bytes
unfoldable pub slot_bytes : Slot → List ℕ
slot_bytes slot = word_bytes slot.ino ++ slot.name

-- each field is within the range of its type
pub record FitsSlot (slot : Slot) : Type 0 where
  pub ino : slot.ino < 65536
  pub name : length slot.name ≡ 14
