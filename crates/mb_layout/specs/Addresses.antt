-- An inode's addresses in its area, and in the block in which it stands.
use Rattle.std.specs.Prelude.{◌≡◌, ◌≤◌, ◌<◌, ◌+◌, ◌*◌, ℕ, List, length}
use Rattle.mb_word.specs.Fields.{address_of}
use Rattle.mb_layout.specs.Inode.{dinode_at, address_in}

-- the address at a place of an inode is read from the inode's area
abbrev pub AddressesInArea : Type 0
AddressesInArea = (b : List ℕ) (place k : ℕ) → 64 * place + 64 ≤ length b → k < 13 → address_of b place k ≡ address_in (dinode_at b place) k
