-- The laws of steps in a row, each the contract of a function without a body: the steps of stored trees, with what is
-- near. Whatever the inodes are at which an operation looks, a step leaves no block near that was not near before; a
-- step that frees an inode's blocks is one at an inode that is looked at.
use Rattle.std.specs.Prelude.{List, [], ◌++◌, ℕ, ◌+◌, ◌*◌, ◌/◌, ◌%◌, ◌<◌, ◌≤◌, ◌≡◌, ◌≢◌, Bool, true, Option, Some, None, Ok, Err, length, slice_set}
use Rattle.std.specs.FinMap as fin
use Rattle.mb_kinds.specs.Image.{Image}
use Rattle.mb_kinds.specs.declared.errors.Errno.{Errno}
use Rattle.mb_word.specs.Fields.{inode_block, inode_place, mode_of, size_of}
use Rattle.mb_tree.specs.Blocks.{pointers, part_address}
use Rattle.mb_tree.specs.Cost.{most_parts}
use Rattle.mb_tree.specs.Effect.{tree_after}
use Rattle.mb_tree.specs.Fits.{Fits}
use Rattle.mb_tree.specs.Maps.{Numbered}
use Rattle.mb_tree.specs.Places.{place_of}
use Rattle.mb_tree.specs.Sessions.{Counts}
use Rattle.mb_tree.specs.Views.{IsWiped}
use Rattle.mb_tree.specs.Volume.{IsVolume}
use Rattle.mb_tree.specs.declared.nodes.Body.TheVariants.{Regular, Directory}
use Rattle.mb_tree.specs.declared.nodes.Node.{Node}
use Rattle.mb_tree.specs.declared.nodes.PlainSlot.{PlainSlot}
use Rattle.mb_tree.specs.declared.operations.FsOp.{FsOp}
use Rattle.mb_tree.specs.declared.trees.Tree.{Tree}
use Rattle.mb_iface.specs.Acting.{HasDone, HasRefused, Picks, with_changes}
use Rattle.mb_kinds.specs.Changed.{ChangeList, IsWithinView}
use Rattle.mb_blocks.specs.FreeLists.{AreFreed, onto}
use Rattle.mb_blocks.specs.Growing.{Reaches, missing}
use Rattle.mb_blocks.specs.Inodes.{HasFields, IsRewritten}
use Rattle.mb_nodes.specs.Bodies.{KeepsBody, HasWritten, IsCacheWritten, IsSlotSet, LetsGo}
use Rattle.mb_nodes.specs.Laws.{filled}
use Rattle.mb_nodes.specs.Stored.{IsStored, with_node, without_node}
use Rattle.mb_moves.specs.Advancing.{Advances, AdvancesTo, IsNearTo}

-- nothing done
abbrev pub NothingDone : Type 0
NothingDone = (image : Image) (tree : Tree) (chain : List ℕ) (looks : ℕ → Bool) → IsStored image tree chain → Advances image tree looks image.at tree chain

-- one step after another
abbrev pub OneAfterAnother : Type 0
OneAfterAnother = (image : Image) (tree next last : Tree) (looks : ℕ → Bool) (mid new : ℕ → List ℕ) (between left : List ℕ)
    → Advances image tree looks mid next between → Advances (record image { at = mid }) next looks new last left → Advances image tree looks new last left

-- both for changes over an image
abbrev pub NothingChanged : Type 0
NothingChanged = (image : Image) (tree : Tree) (chain : List ℕ) (looks : ℕ → Bool) (old : ChangeList) → IsStored (with_changes image old) tree chain
    → AdvancesTo image tree looks old old tree

abbrev pub ChangedInTurn : Type 0
ChangedInTurn = (image : Image) (tree next last : Tree) (looks : ℕ → Bool) (old mid new : ChangeList) → AdvancesTo image tree looks old mid next
    → AdvancesTo image next looks mid new last → AdvancesTo image tree looks old new last

-- after a step the next tree is stored, and what is near then was near before
abbrev pub StoredAfter : Type 0
StoredAfter = (image : Image) (tree next : Tree) (looks : ℕ → Bool) (old new : ChangeList) → AdvancesTo image tree looks old new next
    → (left : List ℕ) × IsStored (with_changes image new) next left

abbrev pub NearBefore : Type 0
NearBefore = (image : Image) (tree next : Tree) (looks : ℕ → Bool) (old new : ChangeList) (block : ℕ) → AdvancesTo image tree looks old new next → 0 < block
    → IsNearTo (with_changes image new) next looks block → IsNearTo (with_changes image old) tree looks block

-- an image without changes is itself, and a volume stores its tree in it
abbrev pub StoredAtFirst : Type 0
StoredAtFirst = (image : Image) (tree : Tree) → IsVolume image tree → (with_changes image [] ≡ image) × (chain : List ℕ) × IsStored (with_changes image []) tree chain

-- steps that end at the tree after an operation's effect do the operation
abbrev pub OperationDone : Type 0
OperationDone = (shown : ℕ → Option (List ℕ)) (image : Image) (tree next : Tree) (looks : ℕ → Bool) (opens : Counts) (op : FsOp) (demanded picked : Option ℕ) (changes : ChangeList)
    → IsVolume image tree → Fits tree opens op demanded → Picks tree op demanded picked → tree_after tree opens op picked ≡ Ok next
    → AdvancesTo image tree looks [] changes next → IsWithinView shown changes → HasDone shown image tree opens op demanded changes picked

-- an operation whose effect on the tree is refused is refused
abbrev pub OperationRefused : Type 0
OperationRefused = (tree : Tree) (opens : Counts) (op : FsOp) (demanded picked : Option ℕ) (e : Errno) → Picks tree op demanded picked → tree_after tree opens op picked ≡ Err e
    → HasRefused tree opens op demanded e

-- mode, owner, times or link count set
abbrev pub FieldsAdvance : Type 0
FieldsAdvance = (image : Image) (tree : Tree) (chain : List ℕ) (looks : ℕ → Bool) → IsStored image tree chain → (ino : ℕ) (node changed : Node) → fin.get tree.nodes ino ≡ Some node
    → changed.body ≡ node.body → (new : ℕ → List ℕ) → IsRewritten image.at new ino → KeepsBody image.at new ino → HasFields new ino changed
    → Advances image tree looks new (with_node tree ino changed) chain

-- the bytes of a part that is there
abbrev pub PartAdvances : Type 0
PartAdvances = (image : Image) (tree : Tree) (chain : List ℕ) (looks : ℕ → Bool) → IsStored image tree chain → (ino : ℕ) (node : Node) → fin.get tree.nodes ino ≡ Some node
    → (size : ℕ) (parts : Numbered (List ℕ)) (part : ℕ) (was : List ℕ) → node.body ≡ Regular size parts → fin.get parts part ≡ Some was
    → (new : ℕ → List ℕ) → ((block : ℕ) → block ≢ part_address image.at ino part → new block ≡ image.at block)
    → length (new (part_address image.at ino part)) ≡ 512
    → Advances image tree looks new (with_node tree ino (record node { body = Regular size (fin.insert parts part (new (part_address image.at ino part))) })) chain

-- a hole of a file filled with zeros
abbrev pub HoleAdvances : Type 0
HoleAdvances = (image : Image) (tree : Tree) (chain : List ℕ) (looks : ℕ → Bool) → IsStored image tree chain → (ino : ℕ) (node : Node) → fin.get tree.nodes ino ≡ Some node
    → (size : ℕ) (parts : Numbered (List ℕ)) (part : ℕ) → node.body ≡ Regular size parts → fin.get parts part ≡ None → part < most_parts
    → (new : ℕ → List ℕ) → Reaches image.at new (place_of ino part)
    → (left : List ℕ) × Advances image tree looks new (filled tree ino node size parts part) left × (length chain ≡ length left + missing (pointers image.at) (place_of ino part))

-- slots added to a directory
abbrev pub GrowthAdvances : Type 0
GrowthAdvances = (image : Image) (tree : Tree) (chain : List ℕ) (looks : ℕ → Bool) → IsStored image tree chain → (ino : ℕ) (node changed : Node) → fin.get tree.nodes ino ≡ Some node
    → (slots more : List PlainSlot) → node.body ≡ Directory slots → changed.body ≡ Directory (slots ++ more) → 0 < length more → length slots % 32 + length more ≤ 32
    → (one two new : ℕ → List ℕ) → Reaches image.at one (place_of ino (length slots / 32))
    → HasWritten one two (part_address one ino (length slots / 32)) (length slots % 32) more
    → IsRewritten two new ino → ((p : ℕ) → p < 13 → (pointers new).top ino p ≡ (pointers two).top ino p) → HasFields new ino changed
    → size_of (new (inode_block ino)) (inode_place ino) ≡ 16 * length (slots ++ more)
    → (left : List ℕ) × Advances image tree looks new (with_node tree ino changed) left × (length chain ≡ length left + missing (pointers image.at) (place_of ino (length slots / 32)))

-- an empty file made in a free inode, which need not be looked at
abbrev pub FileAdvances : Type 0
FileAdvances = (image : Image) (tree : Tree) (chain : List ℕ) (looks : ℕ → Bool) → IsStored image tree chain → (ino : ℕ) → (1 ≤ ino) × (ino ≤ tree.last) → fin.get tree.nodes ino ≡ None
    → (new : ℕ → List ℕ) → IsRewritten image.at new ino → ((p : ℕ) → p < 13 → (pointers new).top ino p ≡ 0)
    → (node : Node) (size : ℕ) → node.body ≡ Regular size fin.empty → HasFields new ino node → size_of (new (inode_block ino)) (inode_place ino) ≡ size
    → Advances image tree looks new (with_node tree ino node) chain

-- a directory made in a free inode, which need not be looked at
abbrev pub DirectoryAdvances : Type 0
DirectoryAdvances = (image : Image) (tree : Tree) (chain : List ℕ) (looks : ℕ → Bool) → IsStored image tree chain → (ino : ℕ) → (1 ≤ ino) × (ino ≤ tree.last) → fin.get tree.nodes ino ≡ None
    → (mid : ℕ → List ℕ) → IsRewritten image.at mid ino → ((p : ℕ) → p < 13 → (pointers mid).top ino p ≡ 0)
    → (node : Node) (slots : List PlainSlot) → node.body ≡ Directory slots → HasFields mid ino node → size_of (mid (inode_block ino)) (inode_place ino) ≡ 16 * length slots
    → 0 < length slots → length slots ≤ 32 → (one new : ℕ → List ℕ) → Reaches mid one (place_of ino 0) → HasWritten one new (part_address one ino 0) 0 slots
    → (left : List ℕ) × Advances image tree looks new (with_node tree ino node) left × (length chain ≡ length left + missing (pointers mid) (place_of ino 0))

-- a node that is looked at emptied, and its blocks put back
abbrev pub ClearedAdvances : Type 0
ClearedAdvances = (image : Image) (tree : Tree) (chain : List ℕ) (looks : ℕ → Bool) → IsStored image tree chain → (ino : ℕ) (node left : Node) → looks ino ≡ true
    → fin.get tree.nodes ino ≡ Some node → (mid new : ℕ → List ℕ) (list : List ℕ) → LetsGo image.at ino node.body list → IsRewritten image.at mid ino → AreFreed mid new list
    → (size : ℕ) → left.body ≡ Regular size fin.empty → HasFields mid ino left → size_of (mid (inode_block ino)) (inode_place ino) ≡ size
    → ((p : ℕ) → p < 13 → (pointers mid).top ino p ≡ 0)
    → Advances image tree looks new (with_node tree ino left) (onto list chain)

-- a node that is looked at gone, and its blocks put back
abbrev pub ErasedAdvances : Type 0
ErasedAdvances = (image : Image) (tree : Tree) (chain : List ℕ) (looks : ℕ → Bool) → IsStored image tree chain → (ino : ℕ) (node : Node) → looks ino ≡ true
    → fin.get tree.nodes ino ≡ Some node → (mid new : ℕ → List ℕ) (list : List ℕ) → LetsGo image.at ino node.body list → IsRewritten image.at mid ino → AreFreed mid new list
    → mode_of (mid (inode_block ino)) (inode_place ino) ≡ 0 → IsWiped (mid (inode_block ino)) (inode_place ino)
    → Advances image tree looks new (without_node tree ino) (onto list chain)

-- the size of a file set, with its other fields
abbrev pub SizeAdvances : Type 0
SizeAdvances = (image : Image) (tree : Tree) (chain : List ℕ) (looks : ℕ → Bool) → IsStored image tree chain → (ino : ℕ) (node changed : Node) → fin.get tree.nodes ino ≡ Some node
    → (size more : ℕ) (parts : Numbered (List ℕ)) → node.body ≡ Regular size parts → changed.body ≡ Regular more parts
    → (new : ℕ → List ℕ) → IsRewritten image.at new ino → ((p : ℕ) → p < 13 → (pointers new).top ino p ≡ (pointers image.at).top ino p)
    → HasFields new ino changed → size_of (new (inode_block ino)) (inode_place ino) ≡ more
    → Advances image tree looks new (with_node tree ino changed) chain

-- a slot of a directory written where it stands
abbrev pub SlotAdvances : Type 0
SlotAdvances = (image : Image) (tree : Tree) (chain : List ℕ) (looks : ℕ → Bool) → IsStored image tree chain → (ino : ℕ) (node : Node) → fin.get tree.nodes ino ≡ Some node
    → (slots : List PlainSlot) → node.body ≡ Directory slots → (at : ℕ) → at < length slots → (slot : PlainSlot) (new : ℕ → List ℕ)
    → IsSlotSet image.at new (part_address image.at ino (at / 32)) (at % 32) slot
    → Advances image tree looks new (with_node tree ino (record node { body = Directory (slice_set slots at slot) })) chain

-- the cache of free inode numbers written: the tree stays
abbrev pub CacheAdvances : Type 0
CacheAdvances = (image : Image) (tree : Tree) (chain : List ℕ) (looks : ℕ → Bool) → IsStored image tree chain → (new : ℕ → List ℕ) → IsCacheWritten image.at new
    → Advances image tree looks new tree chain
