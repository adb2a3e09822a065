-- The laws of reading and writing the parts of a block: what was written reads back, what was read
-- changes nothing where it is written, and a write leaves every other place as it reads.
use Rattle.std.specs.Prelude.{◌≡◌, ◌≤◌, ◌<◌, ◌≢◌, ◌+◌, ◌*◌, ℕ, List, length}
use Rattle.mb_word.specs.Numbers.{put_at, long_bytes, AreBytes}
use Rattle.mb_word.specs.Fields.{index_entry}
use Rattle.mb_layout.specs.ChainBlock.{chain_at, chain_bytes, FitsChain}
use Rattle.mb_layout.specs.Inode.{dinode_at, dinode_bytes, FitsDinode}
use Rattle.mb_layout.specs.InodeWrites.{IsDinodeWritten}
use Rattle.mb_layout.specs.SlotEntry.{slot_at, slot_bytes, FitsSlot}
use Rattle.mb_layout.specs.SuperBlock.{super_at, super_bytes, FitsSuper}
use Rattle.mb_layout.specs.declared.chains.Chain.{Chain}
use Rattle.mb_layout.specs.declared.dinodes.Dinode.{Dinode}
use Rattle.mb_layout.specs.declared.slots.Slot.{Slot}
use Rattle.mb_layout.specs.declared.super_blocks.Super.{Super}

-- what was written reads back
abbrev pub SuperReadsBack : Type 0
SuperReadsBack = (b : List ℕ) (s : Super) → 410 ≤ length b → FitsSuper s → super_at (put_at b 0 (super_bytes s)) ≡ s

abbrev pub ChainReadsBack : Type 0
ChainReadsBack = (b : List ℕ) (chain : Chain) → 202 ≤ length b → FitsChain chain → chain_at (put_at b 0 (chain_bytes chain)) ≡ chain

abbrev pub DinodeReadsBack : Type 0
DinodeReadsBack = (b : List ℕ) (place : ℕ) (d : Dinode) → 64 * place + 64 ≤ length b → FitsDinode d → dinode_at (put_at b (64 * place) (dinode_bytes d)) place ≡ d

abbrev pub SlotReadsBack : Type 0
SlotReadsBack = (b : List ℕ) (place : ℕ) (slot : Slot) → 16 * place + 16 ≤ length b → FitsSlot slot → slot_at (put_at b (16 * place) (slot_bytes slot)) place ≡ slot

abbrev pub IndexReadsBack : Type 0
IndexReadsBack = (b : List ℕ) (place address : ℕ) → 4 * place + 4 ≤ length b → address < 4294967296 → index_entry (put_at b (4 * place) (long_bytes address)) place ≡ address

-- what was read, written where it stood, changes nothing
abbrev pub SuperWritesBack : Type 0
SuperWritesBack = (b : List ℕ) → AreBytes b → 410 ≤ length b → put_at b 0 (super_bytes (super_at b)) ≡ b

abbrev pub ChainWritesBack : Type 0
ChainWritesBack = (b : List ℕ) → AreBytes b → 202 ≤ length b → put_at b 0 (chain_bytes (chain_at b)) ≡ b

abbrev pub DinodeWritesBack : Type 0
DinodeWritesBack = (b : List ℕ) (place : ℕ) → AreBytes b → 64 * place + 64 ≤ length b → put_at b (64 * place) (dinode_bytes (dinode_at b place)) ≡ b

abbrev pub SlotWritesBack : Type 0
SlotWritesBack = (b : List ℕ) (place : ℕ) → AreBytes b → 16 * place + 16 ≤ length b → put_at b (16 * place) (slot_bytes (slot_at b place)) ≡ b

abbrev pub IndexWritesBack : Type 0
IndexWritesBack = (b : List ℕ) (place : ℕ) → AreBytes b → 4 * place + 4 ≤ length b → put_at b (4 * place) (long_bytes (index_entry b place)) ≡ b

-- a write leaves every other place as it reads
abbrev pub DinodeKeepsOthers : Type 0
DinodeKeepsOthers = (b : List ℕ) (place other : ℕ) (d : Dinode) → 64 * place + 64 ≤ length b → 64 * other + 64 ≤ length b → length d.area ≡ 40 → other ≢ place → dinode_at (put_at b (64 * place) (dinode_bytes d)) other ≡ dinode_at b other

abbrev pub SlotKeepsOthers : Type 0
SlotKeepsOthers = (b : List ℕ) (place other : ℕ) (slot : Slot) → 16 * place + 16 ≤ length b → 16 * other + 16 ≤ length b → length slot.name ≡ 14 → other ≢ place → slot_at (put_at b (16 * place) (slot_bytes slot)) other ≡ slot_at b other

abbrev pub IndexKeepsOthers : Type 0
IndexKeepsOthers = (b : List ℕ) (place other address : ℕ) → 4 * place + 4 ≤ length b → other ≢ place → index_entry (put_at b (4 * place) (long_bytes address)) other ≡ index_entry b other

-- an inode's bytes, written at its place, are its fields and addresses there, and nothing else changed
abbrev pub DinodeWritten : Type 0
DinodeWritten = (b : List ℕ) (place : ℕ) (d : Dinode) → length b ≡ 512 → place < 8 → FitsDinode d → IsDinodeWritten b (put_at b (64 * place) (dinode_bytes d)) place d
