-- The laws of the steps of operations, each the contract of a function without a body. From blocks that store a tree
-- they lead to blocks that store the next one and keep what a volume keeps (Follows). The premises are the relations
-- of blocks that the contracts of code promise, in the order of the writes.
use Rattle.std.specs.Prelude.{List, ◌++◌, ℕ, ◌+◌, ◌*◌, ◌/◌, ◌%◌, ◌<◌, ◌≤◌, ◌≡◌, ◌≢◌, Some, None, length, slice_set, ◌∷◌, [], is_some, true, Err}
use Rattle.std.specs.FinMap as fin
use Rattle.mb_kinds.specs.Image.{Image, zeros}
use Rattle.mb_kinds.specs.declared.errors.Errno.TheVariants.{ENOSPC}
use Rattle.mb_word.specs.Fields.{inode_block, inode_place, mode_of, size_of}
use Rattle.mb_word.specs.Numbers.{put_at}
use Rattle.mb_layout.specs.SlotEntry.{FitsSlot, slot_bytes}
use Rattle.mb_layout.specs.declared.slots.Slot.{Slot}
use Rattle.mb_tree.specs.Blocks.{pointers, part_address}
use Rattle.mb_tree.specs.Cost.{cost, most_parts}
use Rattle.mb_tree.specs.Effect.{fitting}
use Rattle.mb_tree.specs.Maps.{Numbered}
use Rattle.mb_tree.specs.Places.{place_of}
use Rattle.mb_tree.specs.Trees.{IsSound}
use Rattle.mb_tree.specs.Views.{IsWiped}
use Rattle.mb_tree.specs.Volume.{IsVolume}
use Rattle.mb_tree.specs.declared.nodes.Body.TheVariants.{Regular, Directory}
use Rattle.mb_tree.specs.declared.nodes.Node.{Node}
use Rattle.mb_tree.specs.declared.nodes.PlainSlot.{PlainSlot}
use Rattle.mb_tree.specs.declared.trees.Tree.{Tree}
use Rattle.mb_blocks.specs.FreeLists.{AreFreed, onto}
use Rattle.mb_blocks.specs.Growing.{Reaches, missing}
use Rattle.mb_blocks.specs.Inodes.{HasFields, IsRewritten}
use Rattle.mb_nodes.specs.Bodies.{KeepsBody, HasWritten, IsCacheWritten, IsSlotSet, LetsGo, plain}
use Rattle.mb_nodes.specs.Fresh.{IsFresh, fresh_tree}
use Rattle.mb_nodes.specs.Stored.{IsStored, Follows, with_node, without_node}

-- a volume stores its tree, and a stored tree that is sound is a volume
abbrev pub StoredOf : Type 0
StoredOf = (image : Image) (tree : Tree) → (volume : IsVolume image tree) → IsStored image tree volume.chain

abbrev pub VolumeOf : Type 0
VolumeOf = (image : Image) (tree : Tree) (chain : List ℕ) → IsStored image tree chain → IsSound tree → IsVolume image tree

-- mode, owner, times or link count set
abbrev pub FieldsSet : Type 0
FieldsSet = (image : Image) (tree : Tree) (chain : List ℕ) → IsStored image tree chain → (ino : ℕ) (node changed : Node) → fin.get tree.nodes ino ≡ Some node
    → changed.body ≡ node.body → (new : ℕ → List ℕ) → IsRewritten image.at new ino → KeepsBody image.at new ino → HasFields new ino changed
    → Follows image tree new (with_node tree ino changed) chain

-- the bytes of a part that is there
abbrev pub PartPut : Type 0
PartPut = (image : Image) (tree : Tree) (chain : List ℕ) → IsStored image tree chain → (ino : ℕ) (node : Node) → fin.get tree.nodes ino ≡ Some node
    → (size : ℕ) (parts : Numbered (List ℕ)) (part : ℕ) (was : List ℕ) → node.body ≡ Regular size parts → fin.get parts part ≡ Some was
    → (new : ℕ → List ℕ) → ((block : ℕ) → block ≢ part_address image.at ino part → new block ≡ image.at block)
    → length (new (part_address image.at ino part)) ≡ 512
    → Follows image tree new (with_node tree ino (record node { body = Regular size (fin.insert parts part (new (part_address image.at ino part))) })) chain

-- a file with a hole filled with zeros
abbrev pub filled : Tree → ℕ → Node → ℕ → Numbered (List ℕ) → ℕ → Tree
filled tree ino node size parts part = with_node tree ino (record node { body = Regular size (fin.insert parts part zeros) })

-- a hole of a file filled, with the index blocks that are missing on the way: the chain is shorter by them
abbrev pub HoleFilled : Type 0
HoleFilled = (image : Image) (tree : Tree) (chain : List ℕ) → IsStored image tree chain → (ino : ℕ) (node : Node) → fin.get tree.nodes ino ≡ Some node
    → (size : ℕ) (parts : Numbered (List ℕ)) (part : ℕ) → node.body ≡ Regular size parts → fin.get parts part ≡ None → part < most_parts
    → (new : ℕ → List ℕ) → Reaches image.at new (place_of ino part)
    → (left : List ℕ) × Follows image tree new (filled tree ino node size parts part) left × (length chain ≡ length left + missing (pointers image.at) (place_of ino part))

-- where the chain has fewer blocks than are missing, the tree with the part would pass the capacity
abbrev pub FillRefused : Type 0
FillRefused = (image : Image) (tree : Tree) (chain : List ℕ) → IsStored image tree chain → (ino : ℕ) (node : Node) → fin.get tree.nodes ino ≡ Some node
    → (size : ℕ) (parts : Numbered (List ℕ)) (part : ℕ) → node.body ≡ Regular size parts → fin.get parts part ≡ None → part < most_parts
    → length chain < missing (pointers image.at) (place_of ino part) → tree.cap < cost (filled tree ino node size parts part)

-- slots added to a directory in the part where its next slot stands, which is made where it is missing
abbrev pub DirectoryGrown : Type 0
DirectoryGrown = (image : Image) (tree : Tree) (chain : List ℕ) → IsStored image tree chain → (ino : ℕ) (node changed : Node) → fin.get tree.nodes ino ≡ Some node
    → (slots more : List PlainSlot) → node.body ≡ Directory slots → changed.body ≡ Directory (slots ++ more) → 0 < length more → length slots % 32 + length more ≤ 32
    → (one two new : ℕ → List ℕ) → Reaches image.at one (place_of ino (length slots / 32))
    → HasWritten one two (part_address one ino (length slots / 32)) (length slots % 32) more
    → IsRewritten two new ino → ((p : ℕ) → p < 13 → (pointers new).top ino p ≡ (pointers two).top ino p) → HasFields new ino changed
    → size_of (new (inode_block ino)) (inode_place ino) ≡ 16 * length (slots ++ more)
    → (left : List ℕ) × Follows image tree new (with_node tree ino changed) left × (length chain ≡ length left + missing (pointers image.at) (place_of ino (length slots / 32)))

-- an empty file made in a free inode
abbrev pub FileMade : Type 0
FileMade = (image : Image) (tree : Tree) (chain : List ℕ) → IsStored image tree chain → (ino : ℕ) → (1 ≤ ino) × (ino ≤ tree.last) → fin.get tree.nodes ino ≡ None
    → (new : ℕ → List ℕ) → IsRewritten image.at new ino → ((p : ℕ) → p < 13 → (pointers new).top ino p ≡ 0)
    → (node : Node) (size : ℕ) → node.body ≡ Regular size fin.empty → HasFields new ino node → size_of (new (inode_block ino)) (inode_place ino) ≡ size
    → Follows image tree new (with_node tree ino node) chain

-- a directory made in a free inode: the inode is written, its first part made, and its slots written
abbrev pub DirectoryMade : Type 0
DirectoryMade = (image : Image) (tree : Tree) (chain : List ℕ) → IsStored image tree chain → (ino : ℕ) → (1 ≤ ino) × (ino ≤ tree.last) → fin.get tree.nodes ino ≡ None
    → (mid : ℕ → List ℕ) → IsRewritten image.at mid ino → ((p : ℕ) → p < 13 → (pointers mid).top ino p ≡ 0)
    → (node : Node) (slots : List PlainSlot) → node.body ≡ Directory slots → HasFields mid ino node → size_of (mid (inode_block ino)) (inode_place ino) ≡ 16 * length slots
    → 0 < length slots → length slots ≤ 32 → (one new : ℕ → List ℕ) → Reaches mid one (place_of ino 0) → HasWritten one new (part_address one ino 0) 0 slots
    → (left : List ℕ) × Follows image tree new (with_node tree ino node) left × (length chain ≡ length left + missing (pointers mid) (place_of ino 0))

-- a node's inode written as an empty file, and its blocks put back
abbrev pub Cleared : Type 0
Cleared = (image : Image) (tree : Tree) (chain : List ℕ) → IsStored image tree chain → (ino : ℕ) (node left : Node) → fin.get tree.nodes ino ≡ Some node
    → (mid new : ℕ → List ℕ) (list : List ℕ) → LetsGo image.at ino node.body list → IsRewritten image.at mid ino → AreFreed mid new list
    → (size : ℕ) → left.body ≡ Regular size fin.empty → HasFields mid ino left → size_of (mid (inode_block ino)) (inode_place ino) ≡ size
    → ((p : ℕ) → p < 13 → (pointers mid).top ino p ≡ 0)
    → Follows image tree new (with_node tree ino left) (onto list chain)

-- a node's inode written as a free one, and its blocks put back
abbrev pub Erased : Type 0
Erased = (image : Image) (tree : Tree) (chain : List ℕ) → IsStored image tree chain → (ino : ℕ) (node : Node) → fin.get tree.nodes ino ≡ Some node
    → (mid new : ℕ → List ℕ) (list : List ℕ) → LetsGo image.at ino node.body list → IsRewritten image.at mid ino → AreFreed mid new list
    → mode_of (mid (inode_block ino)) (inode_place ino) ≡ 0 → IsWiped (mid (inode_block ino)) (inode_place ino)
    → Follows image tree new (without_node tree ino) (onto list chain)

-- the size of a file set, with its other fields
abbrev pub SizeSet : Type 0
SizeSet = (image : Image) (tree : Tree) (chain : List ℕ) → IsStored image tree chain → (ino : ℕ) (node changed : Node) → fin.get tree.nodes ino ≡ Some node
    → (size more : ℕ) (parts : Numbered (List ℕ)) → node.body ≡ Regular size parts → changed.body ≡ Regular more parts
    → (new : ℕ → List ℕ) → IsRewritten image.at new ino → ((p : ℕ) → p < 13 → (pointers new).top ino p ≡ (pointers image.at).top ino p)
    → HasFields new ino changed → size_of (new (inode_block ino)) (inode_place ino) ≡ more
    → Follows image tree new (with_node tree ino changed) chain

-- a slot of a directory written where it stands
abbrev pub SlotSet : Type 0
SlotSet = (image : Image) (tree : Tree) (chain : List ℕ) → IsStored image tree chain → (ino : ℕ) (node : Node) → fin.get tree.nodes ino ≡ Some node
    → (slots : List PlainSlot) → node.body ≡ Directory slots → (at : ℕ) → at < length slots → (slot : PlainSlot) (new : ℕ → List ℕ)
    → IsSlotSet image.at new (part_address image.at ino (at / 32)) (at % 32) slot
    → Follows image tree new (with_node tree ino (record node { body = Directory (slice_set slots at slot) })) chain

-- the cache of free inode numbers written: the tree stays
abbrev pub CacheWritten : Type 0
CacheWritten = (image : Image) (tree : Tree) (chain : List ℕ) → IsStored image tree chain → (new : ℕ → List ℕ) → IsCacheWritten image.at new
    → Follows image tree new tree chain

-- a slot's bytes written in a block set the slot
abbrev pub SlotBytesSet : Type 0
SlotBytesSet = (old new : ℕ → List ℕ) (block place : ℕ) (slot : Slot) → place < 32 → FitsSlot slot → length (old block) ≡ 512
    → new block ≡ put_at (old block) (16 * place) (slot_bytes slot) → ((other : ℕ) → other ≢ block → new other ≡ old other)
    → IsSlotSet old new block place (plain slot)

-- one slot set is slots written, and so are slots behind slots
abbrev pub SlotsJoin : Type 0
SlotsJoin = ((old new : ℕ → List ℕ) (block place : ℕ) (slot : PlainSlot) → place < 32 → IsSlotSet old new block place slot → HasWritten old new block place (slot ∷ []))
    × ((one mid two : ℕ → List ℕ) (block from : ℕ) (xs ys : List PlainSlot) → HasWritten one mid block from xs → HasWritten mid two block (from + length xs) ys
    → HasWritten one two block from (xs ++ ys))

-- a fresh image is a volume of the fresh tree
abbrev pub FreshIsVolume : Type 0
FreshIsVolume = (image : Image) (isize fsize : ℕ) → IsFresh image isize fsize → IsVolume image (fresh_tree isize fsize)

-- where a hole of a file cannot be filled for want of blocks, any file with that part and the parts that are there
-- costs more than the volume has: what an operation wanted is refused, whichever of its holes is the first
abbrev pub WantedRefused : Type 0
WantedRefused = (image : Image) (tree : Tree) (chain : List ℕ) → IsStored image tree chain → (ino : ℕ) (node : Node) → fin.get tree.nodes ino ≡ Some node
    → (size : ℕ) (parts : Numbered (List ℕ)) (part : ℕ) → node.body ≡ Regular size parts → fin.get parts part ≡ None → part < most_parts
    → length chain < missing (pointers image.at) (place_of ino part)
    → (wanted : Node) (other : ℕ) (more : Numbered (List ℕ)) → wanted.body ≡ Regular other more → is_some (fin.get more part) ≡ true
    → ((k : ℕ) → is_some (fin.get parts k) ≡ true → is_some (fin.get more k) ≡ true)
    → fitting tree (fin.insert tree.nodes ino wanted) ≡ Err ENOSPC

-- where the part for a directory's new slots cannot be made for want of blocks, the directory with them is refused
abbrev pub GrowRefused : Type 0
GrowRefused = (image : Image) (tree : Tree) (chain : List ℕ) → IsStored image tree chain → (ino : ℕ) (node : Node) → fin.get tree.nodes ino ≡ Some node
    → (slots more : List PlainSlot) → node.body ≡ Directory slots → 0 < length more → length slots % 32 + length more ≤ 32
    → length chain < missing (pointers image.at) (place_of ino (length slots / 32))
    → (wanted : Node) → wanted.body ≡ Directory (slots ++ more) → fitting tree (fin.insert tree.nodes ino wanted) ≡ Err ENOSPC

-- where no block is free, a new directory is refused
abbrev pub MakeRefused : Type 0
MakeRefused = (image : Image) (tree : Tree) (chain : List ℕ) → IsStored image tree chain → (ino : ℕ) → (1 ≤ ino) × (ino ≤ tree.last) → fin.get tree.nodes ino ≡ None
    → chain ≡ [] → (wanted : Node) (slots : List PlainSlot) → wanted.body ≡ Directory slots → 0 < length slots
    → fitting tree (fin.insert tree.nodes ino wanted) ≡ Err ENOSPC
