-- A part of a file found by its inode's addresses.
use Rattle.std.specs.Prelude.{List, ℕ, ◌<◌, ◌≡◌, ◌⊎◌, nat_eq, Option, None, IfSome, length}
use Rattle.std.specs.List.{Contains}
use Rattle.mb_word.specs.Fields.{inode_block}
use Rattle.mb_tree.specs.Blocks.{pointers, entry_in, part_address, part_in, IsFreeChain}
use Rattle.mb_tree.specs.Cost.{most_parts}
use Rattle.mb_tree.specs.Places.{Place, at, IsPlace}
use Rattle.mb_tree.specs.Views.{over, IsPart}
use Rattle.mb_kinds.specs.Changed.{ChangeList, changed}
use Rattle.mb_iface.specs.Needs.{IsNeed}
use Rattle.mb_iface.specs.declared.replies.Need.{Need}
use Rattle.mb_file.specs.declared.parts.PartAt.{PartAt}
use Rattle.mb_file.specs.declared.parts.PartAt.TheVariants as found
use Rattle.mb_file.specs.declared.parts.Looked.{Looked}
use Rattle.mb_file.specs.declared.parts.Looked.TheVariants as looked

-- blocks of 512 bytes in which each address of an inode is one that a volume can have
pub record HasSmallAddresses (blocks : ℕ → List ℕ) (ino : ℕ) : Type 0 where
  pub sized : (block : ℕ) → length (blocks block) ≡ 512
  pub small : (q : Place) → IsPlace (nat_eq ino) q → at (pointers blocks) q < 262144

-- what a view with changes over it says, of whatever blocks it is a part, where the inode's addresses are such ones
abbrev pub OnInode : (ℕ → Option (List ℕ)) → ChangeList → ℕ → ((ℕ → List ℕ) → Type 0) → Type 0
OnInode shown changes ino says = (blocks : ℕ → List ℕ) → IsPart shown blocks → HasSmallAddresses (over blocks (changed changes)) ino → says (over blocks (changed changes))

-- the block in which an inode stands, or one to which an address of it leads
pub data IsBlockOfInode (blocks : ℕ → List ℕ) (ino block : ℕ) : Type 0 where
  inode : block ≡ inode_block ino → IsBlockOfInode blocks ino block
  led_to : (q : Place) → IsPlace (nat_eq ino) q → at (pointers blocks) q ≡ block → IsBlockOfInode blocks ino block

-- a need of such a block
abbrev pub AsksForOwn : (ℕ → Option (List ℕ)) → ChangeList → ℕ → Need → Type 0
AsksForOwn shown changes ino need = IsNeed shown need × OnInode shown changes ino (λ now. IsBlockOfInode now ino need.first)

abbrev pub FindsPart : (ℕ → Option (List ℕ)) → ChangeList → ℕ → ℕ → PartAt → Type 0
FindsPart shown changes ino part (found.Block block) = (0 < block) × (block < 262144) × (part < most_parts) × OnInode shown changes ino (λ now. part_address now ino part ≡ block)
FindsPart shown changes ino part found.Hole = OnInode shown changes ino (λ now. part_in now ino part ≡ None)
FindsPart shown changes ino part (found.Need need) = AsksForOwn shown changes ino need

-- parts looked at
abbrev pub Looks : (ℕ → Option (List ℕ)) → ChangeList → ℕ → Looked → Type 0
Looks shown changes ino (looked.Missing count) = Unit {0}
Looks shown changes ino (looked.Need need) = AsksForOwn shown changes ino need

-- an index block, or one to which an address in it leads
abbrev pub IsUnder : (ℕ → List ℕ) → ℕ → ℕ → Type 0
IsUnder blocks index block = (block ≡ index) ⊎ ((place : ℕ) × (place < 128) × (entry_in blocks index place ≡ block))

-- parts looked at under an index block
abbrev pub LooksUnder : (ℕ → Option (List ℕ)) → ChangeList → ℕ → Looked → Type 0
LooksUnder shown changes index (looked.Missing count) = Unit {0}
LooksUnder shown changes index (looked.Need need) = IsNeed shown need × ((blocks : ℕ → List ℕ) → IsPart shown blocks → IsUnder (over blocks (changed changes)) index need.first)

-- the free chain looked at: block 1, or a block of the chain
abbrev pub LacksFree : (ℕ → Option (List ℕ)) → ChangeList → Option Need → Type 0
LacksFree shown changes result = IfSome result (λ need. IsNeed shown need
    × ((blocks : ℕ → List ℕ) (chain : List ℕ) → IsPart shown blocks → IsFreeChain (over blocks (changed changes)) chain → (need.first ≡ 1) ⊎ Contains chain need.first))
