-- A slot and its bytes: what was written reads back, what was read writes back, and the other slots of
-- the block stay.
use Rattle.std.proofs.Common.{ℕ, ◌≡◌, ◌≢◌, ◌+◌, ◌*◌, ◌≤◌, inl, inr, List, length, take, drop, sym, ap, ◌∙◌, arith}
use Rattle.std.proofs.lemmas.Bool.{cases_lt}
use Rattle.std.proofs.lemmas.List.{length-append, take_all, drop_at}
use Rattle.mb_word.specs.Numbers.{word_at, put_at, word_bytes, AreBytes}
use Rattle.mb_word.proofs.Parts.{part_unchanged, length-part}
use Rattle.mb_word.proofs.Values.{length-word_bytes, word_unchanged}
use Rattle.mb_word.proofs.Writes.{put_at_same, length-put_at}
use Rattle.mb_layout.specs.SlotEntry.{slot_at, slot_bytes, FitsSlot}
use Rattle.mb_layout.specs.declared.slots.Slot.{Slot}
use Rattle.mb_layout.proofs.Steps.{Put, more, Alike, alike_part, alike_same, alike_put, word_alike, part_alike}

-- the two writes, one behind the other, are the write of the slot's bytes
pub slot_put : (b b1 b2 : List ℕ) (at : ℕ) (slot : Slot) → at + 16 ≤ length b → length slot.name ≡ 14
    → b1 ≡ put_at b at (word_bytes slot.ino) → b2 ≡ put_at b1 (at + 2) slot.name → Put b b2 at 16 (slot_bytes slot)
unfolding slot_bytes
slot_put b b1 b2 at slot fits name e1 e2 =
    let p1 : Put b b1 at 2 (word_bytes slot.ino) = record { len = length-word_bytes slot.ino; put = e1 } in
    more p1 slot.name 14 name (omega arith) e2

pub length-slot_bytes : (slot : Slot) → length slot.name ≡ 14 → length (slot_bytes slot) ≡ 16
unfolding slot_bytes
length-slot_bytes slot name = omega (arith, length-append (word_bytes slot.ino) slot.name, length-word_bytes slot.ino)

ino_first : (slot : Slot) → FitsSlot slot → word_at (slot_bytes slot) 0 ≡ slot.ino
unfolding slot_bytes word_bytes word_at
ino_first slot fits = omega arith

name_behind : (slot : Slot) → FitsSlot slot → take 14 (drop 2 (slot_bytes slot)) ≡ slot.name
unfolding slot_bytes
name_behind slot fits = ap (take 14) (drop_at (word_bytes slot.ino) slot.name 2 (length-word_bytes slot.ino)) ∙ take_all 14 slot.name (omega arith)

-- a slot's bytes alone
pub slot_of_bytes : (slot : Slot) → FitsSlot slot → slot_at (slot_bytes slot) 0 ≡ slot
slot_of_bytes slot fits = λ i. record { ino = ino_first slot fits i; name = name_behind slot fits i }

-- a slot is read from its own 16 bytes
pub slot_alike : (a b : List ℕ) (p q : ℕ) → 16 * p + 16 ≤ length a → 16 * q + 16 ≤ length b → Alike a b (16 * p) (16 * q) 16 → slot_at a p ≡ slot_at b q
slot_alike a b p q in_a in_b same =
    let name = part_alike a b (16 * p + 2) (16 * q + 2) 14 (omega arith) (omega arith) (alike_part a b (16 * p) (16 * q) 16 2 14 same (omega arith)) in
    λ i. record { ino = word_alike a b (16 * p) (16 * q) (λ k below. same k (omega arith)) i; name = name i }

-- what was written reads back
pub slot_back : (b : List ℕ) (place : ℕ) (slot : Slot) → 16 * place + 16 ≤ length b → FitsSlot slot → slot_at (put_at b (16 * place) (slot_bytes slot)) place ≡ slot
slot_back b place slot in_b fits =
    let len = length-slot_bytes slot fits.name in
    let z = put_at b (16 * place) (slot_bytes slot) in
    let same : length z ≡ length b = length-put_at b (16 * place) (slot_bytes slot) (omega arith) in
    slot_alike z (slot_bytes slot) place 0 (omega arith) (omega arith)
    (λ k below. alike_put b (16 * place) (slot_bytes slot) (omega arith) k (omega arith))
    ∙ slot_of_bytes slot fits

-- what was read, written where it stood, changes nothing
pub slot_unchanged : (b : List ℕ) (place : ℕ) → AreBytes b → 16 * place + 16 ≤ length b → put_at b (16 * place) (slot_bytes (slot_at b place)) ≡ b
slot_unchanged b place bytes in_b =
    let at = 16 * place in
    sym (slot_put b b b at (slot_at b place) in_b (length-part b (at + 2) 14 (omega arith))
    (sym (word_unchanged b at bytes (omega arith)))
    (sym (part_unchanged b (at + 2) 14 (omega arith)))).put

-- the other slots of the block stay
pub slot_others : (b : List ℕ) (place other : ℕ) (slot : Slot) → 16 * place + 16 ≤ length b → 16 * other + 16 ≤ length b → length slot.name ≡ 14 → other ≢ place → slot_at (put_at b (16 * place) (slot_bytes slot)) other ≡ slot_at b other
slot_others b place other slot in_b other_in_b name apart =
    let len = length-slot_bytes slot name in
    let z = put_at b (16 * place) (slot_bytes slot) in
    let same : length z ≡ length b = length-put_at b (16 * place) (slot_bytes slot) (omega arith) in
    slot_alike z b other other (omega arith) other_in_b
    (alike_same z b (16 * other) 16 (put_at_same b (16 * place) (slot_bytes slot) (16 * other) 16 (omega arith) (elim (cases_lt other place) [
      | inl below ↦ inl (omega arith)
      | inr above ↦ inr (omega arith)
    ])))
