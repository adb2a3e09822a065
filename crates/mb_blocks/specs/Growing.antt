-- A block taken, filled with zeros and hung at a place, and so down the way to a part (V7 filsys(5)).
use Rattle.std.specs.Prelude.{List, ℕ, ◌+◌, ◌*◌, ◌<◌, ◌≡◌, ◌≢◌, ◌⊎◌, length, cond, nat_lt}
use Rattle.mb_kinds.specs.Image.{zeros}
use Rattle.mb_word.specs.Fields.{inode_block, inode_place, index_entry}
use Rattle.mb_word.specs.Numbers.{SameFrom}
use Rattle.mb_tree.specs.Blocks.{pointers}
use Rattle.mb_tree.specs.Places.{Place, Pointers, at}
use Rattle.mb_tree.specs.Places.Place.{Top, Under}
use Rattle.mb_blocks.specs.FreeLists.{IsTaken}
use Rattle.mb_blocks.specs.Inodes.{IsRewritten}

-- a block filled with zeros
pub record IsZeroed (old new : ℕ → List ℕ) (block : ℕ) : Type 0 where
  pub here : new block ≡ zeros
  pub others : (other : ℕ) → other ≢ block → new other ≡ old other

-- an address written in an index block, every other address and block as before
pub record IsEntrySet (old new : ℕ → List ℕ) (index place value : ℕ) : Type 0 where
  pub sized : length (new index) ≡ 512
  pub here : index_entry (new index) place ≡ value
  pub beside : (other : ℕ) → other ≢ place → index_entry (new index) other ≡ index_entry (old index) other
  pub others : (block : ℕ) → block ≢ index → new block ≡ old block

-- an address written in an inode, its other addresses and fields as before
pub record IsTopSet (old new : ℕ → List ℕ) (ino place value : ℕ) : Type 0 where
  pub written : IsRewritten old new ino
  pub here : (pointers new).top ino place ≡ value
  pub tops : (other : ℕ) → other < 13 → other ≢ place → (pointers new).top ino other ≡ (pointers old).top ino other
  pub head : SameFrom (new (inode_block ino)) (old (inode_block ino)) (64 * inode_place ino) 12
  pub tail : SameFrom (new (inode_block ino)) (old (inode_block ino)) (64 * inode_place ino + 51) 13

-- an address written at a place
abbrev pub SetsPlace : (ℕ → List ℕ) → (ℕ → List ℕ) → Place → ℕ → Type 0
SetsPlace old new (Top ino place) value = IsTopSet old new ino place value
SetsPlace old new (Under above place) value = IsEntrySet old new (at (pointers old) above) place value

-- a block taken, filled with zeros and hung at a place, with the blocks between these three writes
pub record Grows (old new : ℕ → List ℕ) (place : Place) (block : ℕ) : Type 0 where
  pub one : ℕ → List ℕ
  pub two : ℕ → List ℕ
  pub taken : IsTaken old one block
  pub zeroed : IsZeroed one two block
  pub hung : SetsPlace two new place block

-- one place made: where it holds an address nothing happens, and where it is a hole it grows
abbrev pub MakesPlace : (ℕ → List ℕ) → (ℕ → List ℕ) → Place → Type 0
MakesPlace old new place = ((0 < at (pointers old) place) × (new ≡ old)) ⊎ ((at (pointers old) place ≡ 0) × (block : ℕ) × Grows old new place block)

-- the whole way to a place made, from the inode down
abbrev pub Reaches : (ℕ → List ℕ) → (ℕ → List ℕ) → Place → Type 0
Reaches old new (Top ino place) = MakesPlace old new (Top ino place)
Reaches old new (Under above place) = (mid : ℕ → List ℕ) × Reaches old mid above × MakesPlace mid new (Under above place)

-- one block is missing where an address is a hole
abbrev pub hole : ℕ → ℕ
hole address = cond (nat_lt 0 address) 0 1

-- how many blocks are missing on the way to a place, its own among them
abbrev pub missing : Pointers → Place → ℕ
missing ps (Top ino place) = hole (at ps (Top ino place))
missing ps (Under above place) = missing ps above + hole (at ps (Under above place))
