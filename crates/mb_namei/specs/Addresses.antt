-- The addresses of a file's first parts at hand (V7 filsys(5)).
use Rattle.std.specs.Prelude.{List, ℕ, ◌≡◌, ◌<◌, Option, IfSome}
use Rattle.mb_word.specs.Fields.{address_of, inode_block, inode_place}
use Rattle.mb_tree.specs.Blocks.{part_address}
use Rattle.mb_tree.specs.Views.{over, IsPart}
use Rattle.mb_kinds.specs.Changed.{ChangeList, changed}
use Rattle.mb_bmap.specs.Locating.{OnWay}
use Rattle.mb_bmap.specs.Ways.{route_of}
use Rattle.mb_namei.specs.declared.addresses.Addresses.{Addresses}

-- an address that leads to a block which a volume may have
abbrev pub IsAddress : ℕ → ℕ → Type 0
IsAddress address block = (block ≡ address) × (0 < block) × (block < 262144)

-- the bytes of a block under changes, of whatever blocks a view is a part
abbrev pub AreBlockBytes : (ℕ → Option (List ℕ)) → ChangeList → ℕ → List ℕ → Type 0
AreBlockBytes shown changes block bytes = (blocks : ℕ → List ℕ) → IsPart shown blocks → over blocks (changed changes) block ≡ bytes

-- what is at hand is of that file: the bytes of its inode, and those of the index block to which its eleventh address leads
pub record AreOf (shown : ℕ → Option (List ℕ)) (changes : ChangeList) (ino : ℕ) (known : Addresses) : Type 0 where
  pub own : known.ino ≡ ino
  pub inode : AreBlockBytes shown changes (inode_block ino) known.inode.now
  pub index : IfSome known.index (λ index. (block : ℕ) × (IsAddress (address_of known.inode.now (inode_place ino) 10) block × AreBlockBytes shown changes block index.now))

-- the addresses lead from a part of their file to a block
abbrev pub LeadsTo : Addresses → ℕ → ℕ → Type 0
LeadsTo known part block = (0 < block)
    × ((shown : ℕ → Option (List ℕ)) (changes : ChangeList) (ino : ℕ) → AreOf shown changes ino known → OnWay shown changes ino (route_of part) (λ blocks. part_address blocks ino part ≡ block))
