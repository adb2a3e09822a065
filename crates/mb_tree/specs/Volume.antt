-- When an image is a volume of a tree: the layout of V7 filsys(5) and dir(5) as a relation without
-- an order of reading. An image is a volume of at most one tree (law one_tree).
use Rattle.std.specs.Prelude.{List, ℕ, Bool, true, false, ◌+◌, ◌-◌, ◌*◌, ◌<◌, ◌≤◌, ◌≡◌, ◌≢◌, ◌↔◌, Option, Some, None, IsSome, length, map, All, AllPairs}
use Rattle.std.specs.List.{range_with_len}
use Rattle.std.specs.Ordering.{nat_cmp}
use Rattle.std.specs.FinMap as fin
use Rattle.mb_kinds.specs.Image.{Image}
use Rattle.mb_word.specs.Fields.{isize_of, fsize_of, ninode_of, inode_block, inode_place, mode_of, nlink_of, uid_of, gid_of, size_of, area_of, atime_of, mtime_of, ctime_of, index_entry}
use Rattle.mb_tree.specs.declared.nodes.Body.{Body}
use Rattle.mb_tree.specs.declared.nodes.Body.TheVariants.{Regular, Directory, Special}
use Rattle.mb_tree.specs.declared.nodes.Node.{Node}
use Rattle.mb_tree.specs.declared.nodes.PlainSlot.{PlainSlot}
use Rattle.mb_tree.specs.declared.trees.Tree.{Tree}
use Rattle.mb_tree.specs.Blocks.{pointers, part_in, slot_in, IsFreeChain}
use Rattle.mb_tree.specs.Cost.{cost, most_parts}
use Rattle.mb_tree.specs.Trees.{IsSound}
use Rattle.mb_tree.specs.Places.{Place, at, level, IsPlace}

-- the image has a block 1 (rule 1), and the sizes that this names are in their ranges (rule 2)
pub record HasSizes (image : Image) : Type 0 where
  pub blocks : 2 ≤ image.count
  pub some_inodes : 3 ≤ isize_of (image.at 1)
  pub few_inodes : isize_of (image.at 1) ≤ 8193
  pub some_blocks : isize_of (image.at 1) < fsize_of (image.at 1)
  pub few_blocks : fsize_of (image.at 1) ≤ 262144
  pub present : fsize_of (image.at 1) ≤ image.count

-- the number of the last inode
abbrev pub last_inode : (ℕ → List ℕ) → ℕ
last_inode blocks = 8 * (isize_of (blocks 1) - 2)

-- a regular file: its size, and each part at the block to which its address leads
pub record HasFile (blocks : ℕ → List ℕ) (ino size : ℕ) (parts : fin.FinMap nat_cmp (List ℕ)) : Type 0 where
  pub sized : size_of (blocks (inode_block ino)) (inode_place ino) ≡ size
  pub each : (part : ℕ) → fin.get parts part ≡ part_in blocks ino part

-- a directory: the slots below its size, and a part exactly where one of them stands
pub record HasDirectory (blocks : ℕ → List ℕ) (ino : ℕ) (slots : List PlainSlot) : Type 0 where
  pub sized : size_of (blocks (inode_block ino)) (inode_place ino) ≡ 16 * length slots
  pub each : slots ≡ map (slot_in blocks ino) (range_with_len 0 (length slots))
  pub parts : (part : ℕ) → part < most_parts → IsSome (part_in blocks ino part) ↔ (512 * part < 16 * length slots)

-- a special file: its size, and the 40 address bytes, which are kept as found
pub record HasSpecial (blocks : ℕ → List ℕ) (ino size : ℕ) (area : List ℕ) : Type 0 where
  pub sized : size_of (blocks (inode_block ino)) (inode_place ino) ≡ size
  pub kept : area_of (blocks (inode_block ino)) (inode_place ino) ≡ area

abbrev pub HasBody : (ℕ → List ℕ) → ℕ → Body → Type 0
HasBody blocks ino (Regular size parts) = HasFile blocks ino size parts
HasBody blocks ino (Directory slots) = HasDirectory blocks ino slots
HasBody blocks ino (Special size area) = HasSpecial blocks ino size area

-- the fields of the inode with that number are the node's
pub record HasNode (blocks : ℕ → List ℕ) (ino : ℕ) (node : Node) : Type 0 where
  pub used : mode_of (blocks (inode_block ino)) (inode_place ino) ≢ 0
  pub mode : mode_of (blocks (inode_block ino)) (inode_place ino) ≡ node.mode
  pub nlink : nlink_of (blocks (inode_block ino)) (inode_place ino) ≡ node.nlink
  pub uid : uid_of (blocks (inode_block ino)) (inode_place ino) ≡ node.uid
  pub gid : gid_of (blocks (inode_block ino)) (inode_place ino) ≡ node.gid
  pub atime : atime_of (blocks (inode_block ino)) (inode_place ino) ≡ node.atime
  pub mtime : mtime_of (blocks (inode_block ino)) (inode_place ino) ≡ node.mtime
  pub ctime : ctime_of (blocks (inode_block ino)) (inode_place ino) ≡ node.ctime
  pub body : HasBody blocks ino node.body

-- an inode is free, with mode 0, exactly where the tree has no node of its number
abbrev pub HasInode : (ℕ → List ℕ) → ℕ → Option Node → Type 0
HasInode blocks ino None = mode_of (blocks (inode_block ino)) (inode_place ino) ≡ 0
HasInode blocks ino (Some node) = HasNode blocks ino node

-- the inodes whose area holds addresses
abbrev pub body_has_addresses : Body → Bool
body_has_addresses (Regular size parts) = true
body_has_addresses (Directory slots) = true
body_has_addresses (Special size area) = false

abbrev pub node_has_addresses : Option Node → Bool
node_has_addresses None = false
node_has_addresses (Some node) = body_has_addresses node.body

abbrev pub has_addresses : Tree → ℕ → Bool
has_addresses tree ino = node_has_addresses (fin.get tree.nodes ino)

-- an address that is open to files
pub record IsOpenToFiles (blocks : ℕ → List ℕ) (block : ℕ) : Type 0 where
  pub from : isize_of (blocks 1) ≤ block
  pub below : block < fsize_of (blocks 1)

-- an index block that is held leads somewhere
abbrev pub LeadsOn : (ℕ → List ℕ) → ℕ → Type 0
LeadsOn blocks block = (place : ℕ) × (place < 128) × (index_entry (blocks block) place ≢ 0)

-- the addresses that the inodes hold, with their index blocks
pub record HoldsBlocks (tree : Tree) (blocks : ℕ → List ℕ) : Type 0 where
  pub in_range : (q : Place) → IsPlace (has_addresses tree) q → 0 < at (pointers blocks) q → IsOpenToFiles blocks (at (pointers blocks) q)
  pub once : (q r : Place) → IsPlace (has_addresses tree) q → IsPlace (has_addresses tree) r → 0 < at (pointers blocks) q → at (pointers blocks) q ≡ at (pointers blocks) r → q ≡ r
  pub leads_on : (q : Place) → IsPlace (has_addresses tree) q → 0 < level q → 0 < at (pointers blocks) q → LeadsOn blocks (at (pointers blocks) q)

-- the free blocks: each once, and none that an inode holds
pub record SparesBlocks (tree : Tree) (blocks : ℕ → List ℕ) (chain : List ℕ) : Type 0 where
  pub listed : IsFreeChain blocks chain
  pub in_range : All (IsOpenToFiles blocks) chain
  pub once : AllPairs (λ one other. one ≢ other) chain
  pub apart : All (λ block. (q : Place) → IsPlace (has_addresses tree) q → at (pointers blocks) q ≢ block) chain

-- an image of blocks of 512 bytes that is a volume of the tree. Nothing is asked of a byte's value, of block 0, or of
-- what is read from s_fsize on: the other blocks alone make it one (law volume_by_its_blocks). That a device reads zeros
-- past its end, and that what is read and written are bytes below 256, the trait of devices says (Disk of mb_edge)
pub record IsVolume (image : Image) (tree : Tree) : Type 0 where
  pub chain : List ℕ
  pub bytes : (block : ℕ) → length (image.at block) ≡ 512
  pub sizes : HasSizes image
  pub cached : ninode_of (image.at 1) ≤ 100
  pub last : tree.last ≡ last_inode image.at
  pub inodes : (ino : ℕ) → 0 < ino → ino ≤ tree.last → HasInode image.at ino (fin.get tree.nodes ino)
  pub held : HoldsBlocks tree image.at
  pub spare : SparesBlocks tree image.at chain
  pub capacity : tree.cap ≡ cost tree + length chain
  pub sound : IsSound tree
