-- The addresses and lists that the bytes of an image hold (V7 filsys(5)). The bytes of a block are
-- given by its number; block 0 holds no addresses, so that a hole leads to holes.
use Rattle.std.specs.Prelude.{List, ℕ, zero, suc, ◌/◌, ◌%◌, Option, Some, None, cond, nat_lt, unwrap_or}
use Rattle.mb_kinds.specs.Image.{zeros}
use Rattle.mb_word.specs.Fields.{nfree_of, free_of, chain_count, chain_entry, inode_block, inode_place, address_of, index_entry, slot_ino, slot_name}
use Rattle.mb_tree.specs.declared.nodes.PlainSlot.{PlainSlot}
use Rattle.mb_tree.specs.Cost.{most_parts}
use Rattle.mb_tree.specs.Chain.{Listed, IsChain}
use Rattle.mb_tree.specs.Places.{Pointers, at, place_of}

unfoldable pub entry_in : (ℕ → List ℕ) → ℕ → ℕ → ℕ
entry_in blocks zero place = 0
entry_in blocks (suc block) place = index_entry (blocks (suc block)) place

abbrev pub pointers : (ℕ → List ℕ) → Pointers
pointers blocks = record {
  top = λ ino place. address_of (blocks (inode_block ino)) (inode_place ino) place;
  entry = entry_in blocks;
}

-- the address of a part of a file, 0 where the part is missing
abbrev pub part_address : (ℕ → List ℕ) → ℕ → ℕ → ℕ
part_address blocks ino part = at (pointers blocks) (place_of ino part)

-- the bytes of a part of a file
abbrev pub bytes_at : (ℕ → List ℕ) → ℕ → Option (List ℕ)
bytes_at blocks zero = None
bytes_at blocks (suc block) = Some (blocks (suc block))

unfoldable pub part_in : (ℕ → List ℕ) → ℕ → ℕ → Option (List ℕ)
part_in blocks ino part = cond (nat_lt part most_parts) (bytes_at blocks (part_address blocks ino part)) None

-- a part as it reads: a missing one has zeros
abbrev pub part_bytes : (ℕ → List ℕ) → ℕ → ℕ → List ℕ
part_bytes blocks ino part = unwrap_or (part_in blocks ino part) zeros

-- a slot by its place among the 32 of a block
abbrev pub slot_of : List ℕ → ℕ → PlainSlot
slot_of bytes place = record { ino = slot_ino bytes place; name = slot_name bytes place }

-- a directory's slot, by its place in the directory
abbrev pub slot_in : (ℕ → List ℕ) → ℕ → ℕ → PlainSlot
slot_in blocks ino slot = slot_of (part_bytes blocks ino (slot / 32)) (slot % 32)

-- the list of free blocks in the super-block, and that in a block of the free chain
abbrev pub first_list : (ℕ → List ℕ) → Listed
first_list blocks = record { count = nfree_of (blocks 1); entry = free_of (blocks 1) }

abbrev pub list_in : (ℕ → List ℕ) → ℕ → Listed
list_in blocks block = record { count = chain_count (blocks block); entry = chain_entry (blocks block) }

-- these are the free blocks, in the order in which they are taken
abbrev pub IsFreeChain : (ℕ → List ℕ) → List ℕ → Type 0
IsFreeChain blocks chain = IsChain (list_in blocks) (first_list blocks) chain
