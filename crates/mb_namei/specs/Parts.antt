-- A part of a file, read from its block.
use Rattle.std.specs.Prelude.{List, ℕ, ◌≡◌, Option, Some}
use Rattle.mb_tree.specs.Blocks.{part_in}
use Rattle.mb_bmap.specs.Locating.{OnWay}
use Rattle.mb_bmap.specs.Ways.{route_of}
use Rattle.mb_kinds.specs.Changed.{ChangeList}
use Rattle.mb_iface.specs.Needs.{IsNeed}
use Rattle.mb_tree.specs.Blocks.{part_address}
use Rattle.mb_namei.specs.Directories.{IsBlockOf}
use Rattle.mb_namei.specs.declared.parts.Fetched.{Fetched}
use Rattle.mb_namei.specs.declared.parts.Fetched.TheVariants as fetched

-- the part's bytes, or that it has no block, or a block of the inode is asked for
abbrev pub Fetches : (ℕ → Option (List ℕ)) → ChangeList → ℕ → ℕ → Fetched → Type 0
Fetches shown changes ino part (fetched.Bytes bytes) = OnWay shown changes ino (route_of part) (λ blocks. part_in blocks ino part ≡ Some bytes.now)
Fetches shown changes ino part fetched.Hole = OnWay shown changes ino (route_of part) (λ blocks. part_address blocks ino part ≡ 0)
Fetches shown changes ino part (fetched.Need need) = IsNeed shown need × OnWay shown changes ino (route_of part) (λ blocks. IsBlockOf blocks ino need.first)
