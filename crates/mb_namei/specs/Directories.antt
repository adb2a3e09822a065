-- A directory on blocks, and the blocks that belong to an inode.
use Rattle.std.specs.Prelude.{List, ℕ, ◌*◌, ◌<◌, ◌≡◌, ◌⊎◌, length, map, nat_eq}
use Rattle.std.specs.List.{range_with_len}
use Rattle.mb_word.specs.Fields.{inode_block}
use Rattle.mb_tree.specs.Blocks.{pointers, part_address, slot_in}
use Rattle.mb_tree.specs.Cost.{most_parts}
use Rattle.mb_tree.specs.Places.{Place, at, IsPlace}
use Rattle.mb_tree.specs.declared.nodes.PlainSlot.{PlainSlot}
use Rattle.mb_bmap.specs.Ways.{route_of}
use Rattle.mb_bmap.specs.Locating.{IsBounded}

-- a directory of so many bytes has these slots: each of its parts stands at a block, and no address of it is past
-- the greatest volume
pub record IsDirectoryOn (blocks : ℕ → List ℕ) (dir size : ℕ) (slots : List PlainSlot) : Type 0 where
  pub sized : size ≡ 16 * length slots
  pub each : slots ≡ map (slot_in blocks dir) (range_with_len 0 (length slots))
  pub held : (part : ℕ) → 512 * part < size → (part < most_parts) × (0 < part_address blocks dir part)
  pub bounded : (part : ℕ) → part < most_parts → IsBounded blocks dir (route_of part)

-- an address of the inode leads to the block
pub record IsLedTo (blocks : ℕ → List ℕ) (ino block : ℕ) : Type 0 where
  pub place : Place
  pub own : IsPlace (nat_eq ino) place
  pub leads : at (pointers blocks) place ≡ block

-- the block of the i-list in which the inode stands, or a block to which one of its addresses leads
abbrev pub IsBlockOf : (ℕ → List ℕ) → ℕ → ℕ → Type 0
IsBlockOf blocks ino block = (block ≡ inode_block ino) ⊎ IsLedTo blocks ino block
