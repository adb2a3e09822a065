-- The blocks that an inode's addresses lead to, listed (V7 filsys(5)).
use Rattle.std.specs.Prelude.{List, [], ◌∷◌, ◌++◌, ℕ, ◌+◌, ◌-◌, ◌<◌, ◌≤◌, ◌≡◌, cond, nat_lt, Option, IfSome, length}
use Rattle.std.specs.List.{Contains}
use Rattle.mb_word.specs.Fields.{index_entry}
use Rattle.mb_layout.specs.Inode.{address_in}
use Rattle.mb_layout.specs.declared.dinodes.Dinode.{Dinode}
use Rattle.mb_tree.specs.Blocks.{pointers}
use Rattle.mb_tree.specs.Places.{Pointers}
use Rattle.mb_tree.specs.Views.{over, IsPart}
use Rattle.mb_blocks.specs.Walk.{under_block, under_each}
use Rattle.mb_kinds.specs.Changed.{ChangeList, changed}
use Rattle.mb_iface.specs.Needs.{IsNeed}
use Rattle.mb_iface.specs.declared.replies.Need.{Need}
use Rattle.mb_file.specs.declared.walks.Collected.{Collected}
use Rattle.mb_file.specs.declared.walks.Collected.TheVariants as collected
use Rattle.mb_file.specs.declared.walks.Walked.{Walked}
use Rattle.mb_file.specs.declared.walks.Walked.TheVariants as walked

-- what an address leads to, with all that stands under it; nothing for a hole
abbrev pub under_address : Pointers → ℕ → ℕ → List ℕ
under_address ps levels address = cond (nat_lt 0 address) (under_block ps levels address) []

-- what an inode's thirteen addresses lead to, the last first
abbrev pub under_dinode : Pointers → Dinode → List ℕ
under_dinode ps d = under_each (λ place. under_block ps (place - 9)) (address_in d) 13

-- no more blocks than a volume has, behind those that are listed already
pub record IsListable (before more : List ℕ) : Type 0 where
  pub small : (block : ℕ) → Contains more block → block < 262144
  pub few : length before + length more ≤ 262144

-- the parts to which an index block's addresses lead, the last first
abbrev pub parts_in : List ℕ → List ℕ
parts_in index = under_each (λ place part. part ∷ []) (index_entry index) 128

abbrev pub PushesParts : List ℕ → List ℕ → List ℕ → Type 0
PushesParts index before after = IsListable before (parts_in index) → after ≡ before ++ parts_in index

abbrev pub PushesUnder : (ℕ → Option (List ℕ)) → ChangeList → ℕ → ℕ → List ℕ → List ℕ → Walked → Type 0
PushesUnder shown changes address levels before after walked.Done = (blocks : ℕ → List ℕ) → IsPart shown blocks
    → IsListable before (under_address (pointers (over blocks (changed changes))) levels address)
    → after ≡ before ++ under_address (pointers (over blocks (changed changes))) levels address
PushesUnder shown changes address levels before after (walked.Need need) = IsNeed shown need
    × ((blocks : ℕ → List ℕ) → IsPart shown blocks → Contains (under_address (pointers (over blocks (changed changes))) levels address) need.first)
PushesUnder shown changes address levels before after walked.NoMemory = Unit {0}

-- a block asked for
abbrev pub LacksBlock : (ℕ → Option (List ℕ)) → ℕ → Option Need → Type 0
LacksBlock shown block result = IfSome result (λ need. IsNeed shown need × (need.first ≡ block))

-- index blocks looked at
abbrev pub LacksIndex : (ℕ → Option (List ℕ)) → ChangeList → ℕ → ℕ → Option Need → Type 0
LacksIndex shown changes address levels result = IfSome result (λ need. IsNeed shown need
    × ((blocks : ℕ → List ℕ) → IsPart shown blocks → Contains (under_address (pointers (over blocks (changed changes))) levels address) need.first))

abbrev pub Collects : (ℕ → Option (List ℕ)) → ChangeList → Dinode → Collected → Type 0
Collects shown changes d (collected.Blocks list) = (blocks : ℕ → List ℕ) → IsPart shown blocks
    → IsListable [] (under_dinode (pointers (over blocks (changed changes))) d) → list.items ≡ under_dinode (pointers (over blocks (changed changes))) d
Collects shown changes d (collected.Need need) = IsNeed shown need
    × ((blocks : ℕ → List ℕ) → IsPart shown blocks → Contains (under_dinode (pointers (over blocks (changed changes))) d) need.first)
Collects shown changes d collected.NoMemory = Unit {0}

-- no more blocks than a volume has
abbrev pub FitsVolume : Collected → Type 0
FitsVolume (collected.Blocks list) = length list.items ≤ 262144
FitsVolume (collected.Need need) = Unit {0}
FitsVolume collected.NoMemory = Unit {0}
