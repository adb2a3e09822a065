-- The laws of the steps on blocks, each the contract of a function without a body. In each of them has says which
-- inodes have addresses: at all inodes of a volume a law speaks of the volume, at some of them of what these hold.
use Rattle.std.specs.Prelude.{List, [], ◌∷◌, ◌++◌, ℕ, ◌+◌, ◌*◌, ◌<◌, ◌≤◌, ◌≡◌, ◌≢◌, ◌⊎◌, ◌↔◌, Bool, true, length, slice_index}
use Rattle.std.specs.List.{Contains}
use Rattle.mb_word.specs.Fields.{isize_of, fsize_of, ninode_of, inode_block, inode_place, index_entry}
use Rattle.mb_word.specs.Numbers.{put_at, long_bytes, addr_bytes}
use Rattle.mb_layout.specs.Inode.{dinode_at, address_in}
use Rattle.mb_layout.specs.declared.dinodes.Dinode.{Dinode}
use Rattle.mb_tree.specs.Blocks.{pointers, first_list, IsFreeChain}
use Rattle.mb_tree.specs.Chain.{IsNext}
use Rattle.mb_tree.specs.Cost.{most_parts, index_blocks}
use Rattle.mb_tree.specs.Places.{Place, Pointers, at, level, IsPlace, place_of}
use Rattle.mb_tree.specs.declared.nodes.Node.{Node}
use Rattle.mb_blocks.specs.Conserved.{Conserves}
use Rattle.mb_blocks.specs.FreeLists.{IsTaken, HasTaken, AreFreed, HasFreed, onto}
use Rattle.mb_blocks.specs.Growing.{IsEntrySet, IsTopSet, SetsPlace, Reaches, missing}
use Rattle.mb_blocks.specs.Inodes.{HasFields, HasValues, IsBorn, IsDinodeWritten, IsRewritten}
use Rattle.mb_blocks.specs.Laid.{IsLaid, IndexesLeadOn}
use Rattle.mb_blocks.specs.Owners.{without, Enumerates, HoldsParts}
use Rattle.mb_blocks.specs.Pointing.{KeepsHeld}
use Rattle.mb_blocks.specs.Reached.{HasIndexAbove, HasHung, HasReached}
use Rattle.mb_blocks.specs.Rules.{KeepsRules, IsOut}
use Rattle.mb_blocks.specs.Walk.{under_inode}

-- a taken block was the chain's first, and is in hand
abbrev pub Taken : Type 0
Taken = (has : ℕ → Bool) (old new : ℕ → List ℕ) (block : ℕ) (loose chain : List ℕ) → IsLaid has old loose chain → IsTaken old new block
    → HasTaken has old new block loose chain

-- what holds of blocks in which bytes were written but no address
pub record HasWrittenBlocks (has : ℕ → Bool) (old new : ℕ → List ℕ) (loose chain : List ℕ) : Type 0 where
  pub laid : IsLaid has new loose chain
  pub held : KeepsHeld has old new
  pub conserves : Conserves has has old new (loose ++ chain) (loose ++ chain)

-- any 512 bytes may be written in a block in hand
abbrev pub Written : Type 0
Written = (has : ℕ → Bool) (old new : ℕ → List ℕ) (block : ℕ) (loose chain : List ℕ) → IsLaid has old (block ∷ loose) chain
    → ((other : ℕ) → other ≢ block → new other ≡ old other) → length (new block) ≡ 512 → HasWrittenBlocks has old new (block ∷ loose) chain

-- an inode may be written whose addresses stay, or which has none
abbrev pub Rewritten : Type 0
Rewritten = (has : ℕ → Bool) (old new : ℕ → List ℕ) (ino : ℕ) (loose chain : List ℕ) → IsLaid has old loose chain → inode_block ino < isize_of (old 1)
    → IsRewritten old new ino → (has ino ≡ true → (p : ℕ) → p < 13 → (pointers new).top ino p ≡ (pointers old).top ino p)
    → HasWrittenBlocks has old new loose chain

-- a block of zeros in hand is hung at a hole whose index block is held
abbrev pub Hung : Type 0
Hung = (has : ℕ → Bool) (old new : ℕ → List ℕ) (r : Place) (block : ℕ) (loose chain : List ℕ) → IsLaid has old (block ∷ loose) chain
    → ((j : ℕ) → index_entry (old block) j ≡ 0) → IsPlace has r → HasIndexAbove old r → at (pointers old) r ≡ 0 → SetsPlace old new r block
    → HasHung has old new r block loose chain × Conserves has has old new (block ∷ (loose ++ chain)) (loose ++ chain)

-- blocks in hand put back: the last of them is the chain's first
abbrev pub Freed : Type 0
Freed = (has : ℕ → Bool) (old new : ℕ → List ℕ) (blocks loose chain : List ℕ) → IsLaid has old (blocks ++ loose) chain → AreFreed old new blocks
    → HasFreed has old new blocks loose chain (onto blocks chain) × (length (onto blocks chain) ≡ length blocks + length chain)

-- an inode let go: all blocks that it holds are in hand, and no byte was written
abbrev pub LetGo : Type 0
LetGo = (has : ℕ → Bool) (blocks : ℕ → List ℕ) (ino : ℕ) (held loose chain : List ℕ) → IsLaid has blocks loose chain → has ino ≡ true
    → Enumerates blocks ino held
    → IsLaid (without has ino) blocks (held ++ loose) chain × Conserves has (without has ino) blocks blocks (loose ++ chain) (held ++ (loose ++ chain))

-- inodes whose addresses are holes join those that have some
abbrev pub Joined : Type 0
Joined = (few has : ℕ → Bool) (blocks : ℕ → List ℕ) (loose chain : List ℕ) → ((i : ℕ) → few i ≡ true → has i ≡ true)
    → ((i : ℕ) → has i ≡ true → (few i ≡ true) ⊎ IsBorn blocks i) → IsLaid few blocks loose chain
    → IsLaid has blocks loose chain × Conserves few has blocks blocks (loose ++ chain) (loose ++ chain)

-- what is laid for some inodes is laid for fewer
abbrev pub LaidForFewer : Type 0
LaidForFewer = (few has : ℕ → Bool) (blocks : ℕ → List ℕ) (loose chain : List ℕ) → ((i : ℕ) → few i ≡ true → has i ≡ true)
    → IsLaid has blocks loose chain → IsLaid few blocks loose chain

-- the way to a place made, with any blocks in hand; where it ends at a part, all index blocks lead on again
abbrev pub WayMade : Type 0
WayMade = (has : ℕ → Bool) (old new : ℕ → List ℕ) (loose chain : List ℕ) (q : Place) → IsLaid has old loose chain → IsPlace has q → Reaches old new q
    → HasReached has old new loose chain q × (level q ≡ 0 → IndexesLeadOn has old → IndexesLeadOn has new)

-- the walk by levels lists the blocks of an inode
abbrev pub WalkEnumerates : Type 0
WalkEnumerates = (has : ℕ → Bool) (blocks : ℕ → List ℕ) (loose chain : List ℕ) (ino : ℕ) → IsLaid has blocks loose chain → has ino ≡ true
    → Enumerates blocks ino (under_inode (pointers blocks) ino)

-- any list of an inode's blocks is as long as its parts cost
abbrev pub CostEnumerated : Type 0
CostEnumerated = (blocks : ℕ → List ℕ) (ino : ℕ) (parts held : List ℕ) → HoldsParts (pointers blocks) ino parts → Enumerates blocks ino held
    → length held ≡ length parts + index_blocks parts

-- a part more costs the blocks that are missing on its way
abbrev pub CostMissing : Type 0
CostMissing = (ps : Pointers) (ino : ℕ) (parts more : List ℕ) (part : ℕ) → HoldsParts ps ino parts → part < most_parts → at ps (place_of ino part) ≡ 0
    → length more ≡ length parts + 1 → ((k : ℕ) → Contains more k ↔ ((k ≡ part) ⊎ Contains parts k))
    → length more + index_blocks more ≡ length parts + index_blocks parts + missing ps (place_of ino part)

-- laid blocks keep rules 2 to 4
abbrev pub LaidKeepsRules : Type 0
LaidKeepsRules = (has : ℕ → Bool) (blocks : ℕ → List ℕ) (loose chain : List ℕ) → IsLaid has blocks loose chain → isize_of (blocks 1) ≤ 8193
    → fsize_of (blocks 1) ≤ 262144 → ninode_of (blocks 1) ≤ 100 → KeepsRules blocks

-- where no block can be taken the chain is at its end, and there alone
abbrev pub OutAtEnd : Type 0
OutAtEnd = (has : ℕ → Bool) (blocks : ℕ → List ℕ) (loose chain : List ℕ) → IsLaid has blocks loose chain → IsOut (first_list blocks) ↔ (chain ≡ [])

-- four bytes written in an index block set one address
abbrev pub EntryBytes : Type 0
EntryBytes = (old new : ℕ → List ℕ) (index place value : ℕ) → place < 128 → value < 4294967296 → length (old index) ≡ 512
    → new index ≡ put_at (old index) (4 * place) (long_bytes value) → ((block : ℕ) → block ≢ index → new block ≡ old block)
    → IsEntrySet old new index place value

-- three bytes written in an inode set one address
abbrev pub TopBytes : Type 0
TopBytes = (old new : ℕ → List ℕ) (ino place value : ℕ) → 0 < ino → place < 13 → value < 16777216 → length (old (inode_block ino)) ≡ 512
    → new (inode_block ino) ≡ put_at (old (inode_block ino)) (64 * inode_place ino + 12 + 3 * place) (addr_bytes value)
    → ((block : ℕ) → block ≢ inode_block ino → new block ≡ old block) → IsTopSet old new ino place value

-- an inode let go, its bytes written, and its blocks put back
abbrev pub Dropped : Type 0
Dropped = (has : ℕ → Bool) (old mid new : ℕ → List ℕ) (ino : ℕ) (list chain : List ℕ) → IsLaid has old [] chain → has ino ≡ true → Enumerates old ino list
    → inode_block ino < isize_of (old 1) → IsRewritten old mid ino → AreFreed mid new list
    → IsLaid (without has ino) new [] (onto list chain) × Conserves has (without has ino) old new chain (onto list chain)

-- what some inodes and the chain have after the way to a place of theirs was made they had before, whichever chain is left
abbrev pub WayMadeForFewer : Type 0
WayMadeForFewer = (few has : ℕ → Bool) (old new : ℕ → List ℕ) (loose chain left : List ℕ) (q : Place) → ((i : ℕ) → few i ≡ true → has i ≡ true)
    → IsLaid has old loose chain → IsPlace few q → Reaches old new q → IsFreeChain new left → Conserves few few old new (loose ++ chain) (loose ++ left)

-- an inode's bytes written: its value reads back, its addresses are those of its area, and the other inodes stay
abbrev pub InodeBytes : Type 0
InodeBytes = (old new : ℕ → List ℕ) (ino : ℕ) (d : Dinode) → 0 < ino → length (old (inode_block ino)) ≡ 512 → IsDinodeWritten old new ino d
    → slice_index d.area 39 ≡ slice_index (old (inode_block ino)) (64 * inode_place ino + 51)
    → IsRewritten old new ino × (dinode_at (new (inode_block ino)) (inode_place ino) ≡ d) × ((p : ℕ) → p < 13 → (pointers new).top ino p ≡ address_in d p)

-- and its fields are those of a node with its values
abbrev pub InodeFields : Type 0
InodeFields = (old new : ℕ → List ℕ) (ino : ℕ) (d : Dinode) (node : Node) → 0 < ino → length (old (inode_block ino)) ≡ 512 → IsDinodeWritten old new ino d
    → HasValues d node → HasFields new ino node

-- the block that is taken next is in the chain
abbrev pub NextInChain : Type 0
NextInChain = (has : ℕ → Bool) (blocks : ℕ → List ℕ) (loose chain : List ℕ) (block : ℕ) → IsLaid has blocks loose chain → IsNext (first_list blocks) block
    → Contains chain block
