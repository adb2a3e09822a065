-- The laws of what a step may ask for, each the contract of a function without a body: which blocks are near.
use Rattle.std.specs.Prelude.{List, [], ℕ, ◌<◌, ◌≤◌, ◌≡◌, ◌≢◌, ◌⊎◌, Bool, true, Some, None, Err, length}
use Rattle.std.specs.FinMap as fin
use Rattle.mb_kinds.specs.Image.{Image}
use Rattle.mb_kinds.specs.declared.errors.Errno.TheVariants.{ENOSPC}
use Rattle.mb_word.specs.Fields.{isize_of, inode_block}
use Rattle.mb_tree.specs.Blocks.{pointers, first_list, part_address}
use Rattle.mb_tree.specs.Chain.{IsNext}
use Rattle.mb_tree.specs.Cost.{most_parts}
use Rattle.mb_tree.specs.Effect.{fitting}
use Rattle.mb_tree.specs.Places.{Place, at, IsPlace, place_of}
use Rattle.mb_tree.specs.Volume.{body_has_addresses, has_addresses}
use Rattle.mb_tree.specs.declared.nodes.Body.TheVariants.{Directory}
use Rattle.mb_tree.specs.declared.nodes.Node.{Node}
use Rattle.mb_tree.specs.declared.nodes.PlainSlot.{PlainSlot}
use Rattle.mb_tree.specs.declared.operations.FsOp.{FsOp}
use Rattle.mb_tree.specs.declared.trees.Tree.{Tree}
use Rattle.mb_iface.specs.Acting.{with_changes}
use Rattle.mb_iface.specs.Near.{IsNear, IsTouched}
use Rattle.mb_blocks.specs.Growing.{Reaches, missing}
use Rattle.mb_blocks.specs.Inodes.{IsRewritten}
use Rattle.mb_blocks.specs.Laid.{IsHad}
use Rattle.mb_blocks.specs.Rules.{KeepsRules}
use Rattle.mb_bmap.specs.Reaching.{IsReady}
use Rattle.mb_nodes.specs.Stored.{IsStored}
use Rattle.mb_moves.specs.Advancing.{IsNearTo}
use Rattle.mb_moves.specs.Looking.{looked_at, and_one, touches}
use Rattle.mb_moves.specs.Midway.{IsMidway}

-- stored blocks keep the rules that taking and freeing a block ask for
abbrev pub StoredKeepsRules : Type 0
StoredKeepsRules = (image : Image) (tree : Tree) (chain : List ℕ) → IsStored image tree chain → KeepsRules image.at

-- the parts of a node with addresses can be reached, whatever inodes are looked at beside it
abbrev pub ReadyFor : Type 0
ReadyFor = (image : Image) (tree : Tree) (chain : List ℕ) → IsStored image tree chain → (ino : ℕ) (node : Node) → fin.get tree.nodes ino ≡ Some node → body_has_addresses node.body ≡ true
    → IsReady (has_addresses tree) image.at chain ino × ((looks : ℕ → Bool) → looks ino ≡ true → IsReady (looked_at tree looks) image.at chain ino)

-- what the looked-at inodes hold is near, and so is what is free
abbrev pub HadIsNear : Type 0
HadIsNear = (image : Image) (tree : Tree) (chain : List ℕ) (looks : ℕ → Bool) (block : ℕ) → IsStored image tree chain → IsHad (looked_at tree looks) image.at chain block
    → IsNearTo image tree looks block

-- the block at a place of a looked-at inode
abbrev pub PlaceIsNear : Type 0
PlaceIsNear = (image : Image) (tree : Tree) (looks : ℕ → Bool) (q : Place) → IsPlace (looked_at tree looks) q → IsNearTo image tree looks (at (pointers image.at) q)

-- the block of a part of a looked-at node
abbrev pub PartIsNear : Type 0
PartIsNear = (image : Image) (tree : Tree) (looks : ℕ → Bool) (ino part : ℕ) (node : Node) → fin.get tree.nodes ino ≡ Some node → body_has_addresses node.body ≡ true → looks ino ≡ true
    → part < most_parts → IsNearTo image tree looks (part_address image.at ino part)

-- the super-block, the i-list, and the block that is taken next, whichever inodes are looked at
abbrev pub ListIsNear : Type 0
ListIsNear = (image : Image) (tree : Tree) (chain : List ℕ) (looks : ℕ → Bool) (block : ℕ) → IsStored image tree chain
    → (block ≡ 1) ⊎ ((2 ≤ block) × (block < isize_of (image.at 1))) ⊎ IsNext (first_list image.at) block → IsNearTo image tree looks block

-- the block of an inode of the i-list
abbrev pub InodeIsNear : Type 0
InodeIsNear = (image : Image) (tree : Tree) (chain : List ℕ) (looks : ℕ → Bool) (ino : ℕ) → IsStored image tree chain → 1 ≤ ino → ino ≤ tree.last → IsNearTo image tree looks (inode_block ino)

-- what reaching a part asks for
abbrev pub ReachingIsNear : Type 0
ReachingIsNear = (image : Image) (tree : Tree) (chain : List ℕ) (looks : ℕ → Bool) (ino block : ℕ) → IsStored image tree chain → 1 ≤ ino → ino ≤ tree.last
    → (block ≡ 1) ⊎ ((block ≡ inode_block ino) ⊎ IsHad (looked_at tree looks) image.at chain block) → IsNearTo image tree looks block

-- within a step at a looked-at node, and at a free inode written with holes for addresses
abbrev pub MidwayAtNode : Type 0
MidwayAtNode = (image : Image) (tree : Tree) (chain : List ℕ) (looks : ℕ → Bool) → IsStored image tree chain → (ino : ℕ) (node : Node) → fin.get tree.nodes ino ≡ Some node
    → body_has_addresses node.body ≡ true → looks ino ≡ true → IsMidway image tree looks (looked_at tree looks) image.at ino

abbrev pub MidwayAtBirth : Type 0
MidwayAtBirth = (image : Image) (tree : Tree) (chain : List ℕ) (looks : ℕ → Bool) → IsStored image tree chain → (ino : ℕ) → (1 ≤ ino) × (ino ≤ tree.last) → fin.get tree.nodes ino ≡ None
    → (mid : ℕ → List ℕ) → IsRewritten image.at mid ino → ((p : ℕ) → p < 13 → (pointers mid).top ino p ≡ 0)
    → IsMidway image tree looks (and_one (looked_at tree looks) ino) mid ino

-- a part reached, or a part's bytes written, one is still within the step
abbrev pub MidwayReached : Type 0
MidwayReached = (image : Image) (tree : Tree) (looks has : ℕ → Bool) (old new : ℕ → List ℕ) (ino part : ℕ) → IsMidway image tree looks has old ino → part < most_parts
    → Reaches old new (place_of ino part) → IsMidway image tree looks has new ino

abbrev pub MidwayWritten : Type 0
MidwayWritten = (image : Image) (tree : Tree) (looks has : ℕ → Bool) (old new : ℕ → List ℕ) (ino part : ℕ) → IsMidway image tree looks has old ino → part < most_parts
    → 0 < part_address old ino part → ((block : ℕ) → block ≢ part_address old ino part → new block ≡ old block) → length (new (part_address old ino part)) ≡ 512
    → IsMidway image tree looks has new ino

-- what is asked for within a step is near: the super-block, the inode's block, what is held, and a part's block
abbrev pub MidwayIsNear : Type 0
MidwayIsNear = (image : Image) (tree : Tree) (chain : List ℕ) (looks has : ℕ → Bool) (now : ℕ → List ℕ) (ino : ℕ) → IsStored image tree chain → 1 ≤ ino → ino ≤ tree.last
    → (midway : IsMidway image tree looks has now ino)
    → ((block : ℕ) → 0 < block → (block ≡ 1) ⊎ ((block ≡ inode_block ino) ⊎ IsHad has now midway.left block) → IsNearTo image tree looks block)
    × ((part : ℕ) → part < most_parts → 0 < part_address now ino part → IsNearTo image tree looks (part_address now ino part))

-- a new directory whose first part cannot be reached is refused
abbrev pub MakingRefused : Type 0
MakingRefused = (image : Image) (tree : Tree) (chain : List ℕ) → IsStored image tree chain → (ino : ℕ) → (1 ≤ ino) × (ino ≤ tree.last) → fin.get tree.nodes ino ≡ None
    → (mid : ℕ → List ℕ) → IsRewritten image.at mid ino → ((p : ℕ) → p < 13 → (pointers mid).top ino p ≡ 0)
    → ((has : ℕ → Bool) (left : List ℕ) → IsReady has mid left ino → length left < missing (pointers mid) (place_of ino 0))
    → (wanted : Node) (slots : List PlainSlot) → wanted.body ≡ Directory slots → 0 < length slots → fitting tree (fin.insert tree.nodes ino wanted) ≡ Err ENOSPC

-- an inode that an operation touches is one at which it looks, and the other way round
abbrev pub TouchedIsLookedAt : Type 0
TouchedIsLookedAt = (tree : Tree) (op : FsOp) (ino : ℕ) → (IsTouched tree op ino → touches tree op ino ≡ true) × (touches tree op ino ≡ true → IsTouched tree op ino)

-- what is near to the inodes at which it looks is near to those that it touches, also before its first change
abbrev pub TouchedIsNear : Type 0
TouchedIsNear = (image : Image) (tree : Tree) (op : FsOp) (block : ℕ)
    → (IsNearTo image tree (touches tree op) block → IsNear image tree (IsTouched tree op) block)
    × (IsNearTo (with_changes image []) tree (touches tree op) block → IsNear image tree (IsTouched tree op) block)
