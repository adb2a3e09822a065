-- A directory's slots apart from its size, slots written into a part, and the blocks that a body lets go.
use Rattle.std.specs.Prelude.{List, [], ℕ, ◌+◌, ◌*◌, ◌<◌, ◌≤◌, ◌≡◌, ◌≢◌, ◌↔◌, true, false, IsSome, length, map}
use Rattle.std.specs.List.{range_with_len}
use Rattle.mb_word.specs.Fields.{ninode_of, inode_block, inode_place, size_of, area_of}
use Rattle.mb_word.specs.Numbers.{SameFrom}
use Rattle.mb_layout.specs.declared.slots.Slot.{Slot}
use Rattle.mb_tree.specs.Blocks.{pointers, part_in, slot_of, slot_in}
use Rattle.mb_tree.specs.Cost.{most_parts}
use Rattle.mb_tree.specs.Views.{KeepsCache}
use Rattle.mb_tree.specs.Volume.{body_has_addresses}
use Rattle.mb_tree.specs.declared.nodes.Body.{Body}
use Rattle.mb_tree.specs.declared.nodes.PlainSlot.{PlainSlot}
use Rattle.mb_blocks.specs.Owners.{Enumerates}

-- an inode's size and its address bytes stay
pub record KeepsBody (old new : ℕ → List ℕ) (ino : ℕ) : Type 0 where
  pub tops : (p : ℕ) → p < 13 → (pointers new).top ino p ≡ (pointers old).top ino p
  pub sized : size_of (new (inode_block ino)) (inode_place ino) ≡ size_of (old (inode_block ino)) (inode_place ino)
  pub area : area_of (new (inode_block ino)) (inode_place ino) ≡ area_of (old (inode_block ino)) (inode_place ino)

-- a part exactly where one of the first n slots stands
abbrev pub HasPartsBelow : (ℕ → List ℕ) → ℕ → ℕ → Type 0
HasPartsBelow blocks ino n = (part : ℕ) → part < most_parts → IsSome (part_in blocks ino part) ↔ (512 * part < 16 * n)

-- a directory's slots and parts, whatever its size says
pub record HasSlots (blocks : ℕ → List ℕ) (ino : ℕ) (slots : List PlainSlot) : Type 0 where
  pub each : slots ≡ map (slot_in blocks ino) (range_with_len 0 (length slots))
  pub parts : HasPartsBelow blocks ino (length slots)

-- slots written in a part's block from a place on
pub record HasWritten (one two : ℕ → List ℕ) (block from : ℕ) (more : List PlainSlot) : Type 0 where
  pub others : (other : ℕ) → other ≢ block → two other ≡ one other
  pub full : length (two block) ≡ 512
  pub kept : (place : ℕ) → place < from → slot_of (two block) place ≡ slot_of (one block) place
  pub here : more ≡ map (λ i. slot_of (two block) (from + i)) (range_with_len 0 (length more))

-- the blocks of a node that are let go; a special file has none
pub data LetsGo (blocks : ℕ → List ℕ) (ino : ℕ) : Body → List ℕ → Type 0 where
  listed : (body : Body) (list : List ℕ) → body_has_addresses body ≡ true → Enumerates blocks ino list → LetsGo blocks ino body list
  special : (body : Body) → body_has_addresses body ≡ false → LetsGo blocks ino body []

-- the slot of the model that a slot's value stands for
abbrev pub plain : Slot → PlainSlot
plain slot = record { ino = slot.ino; name = slot.name }

-- one slot of a part's block written
pub record IsSlotSet (old new : ℕ → List ℕ) (block place : ℕ) (slot : PlainSlot) : Type 0 where
  pub others : (other : ℕ) → other ≢ block → new other ≡ old other
  pub full : length (new block) ≡ 512
  pub kept : (beside : ℕ) → beside < 32 → beside ≢ place → slot_of (new block) beside ≡ slot_of (old block) beside
  pub here : slot_of (new block) place ≡ slot

-- the cache of free inode numbers written, in bytes 208 to 409 of the super-block
pub record IsCacheWritten (old new : ℕ → List ℕ) : Type 0 where
  pub sized : length (new 1) ≡ 512
  pub few : ninode_of (new 1) ≤ 100
  pub front : SameFrom (new 1) (old 1) 0 208
  pub back : SameFrom (new 1) (old 1) 410 102
  pub cached : KeepsCache (old 1) (new 1)
  pub others : (other : ℕ) → other ≢ 1 → new other ≡ old other
