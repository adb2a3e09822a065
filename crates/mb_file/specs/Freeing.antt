-- Blocks in hand put back on the free chain one after another.
use Rattle.std.specs.Prelude.{List, [], ◌∷◌, ℕ, ◌<◌, ◌≤◌, ◌≡◌, ◌⊎◌, Bool, Option, IfSome, drop, replicate, take}
use Rattle.std.specs.List.{Contains}
use Rattle.std.specs.List.Sorted.{IsPermutation}
use Rattle.mb_word.specs.Fields.{fsize_of, isize_of, nfree_of, ninode_of}
use Rattle.mb_word.specs.Numbers.{put_at}
use Rattle.mb_layout.specs.declared.dinodes.Dinode.{Dinode}
use Rattle.mb_tree.specs.Blocks.{pointers}
use Rattle.mb_tree.specs.Places.{Pointers}
use Rattle.mb_tree.specs.Views.{over, IsPart}
use Rattle.mb_blocks.specs.FreeLists.{AreFreed, IsFreed}
use Rattle.mb_blocks.specs.Laid.{IsLaid}
use Rattle.mb_blocks.specs.Rules.{KeepsRules}
use Rattle.mb_kinds.specs.Changed.{ChangeList, changed, put_block, IsWithinView}
use Rattle.mb_iface.specs.Needs.{IsNeed}
use Rattle.mb_iface.specs.declared.replies.Need.{Need}
use Rattle.mb_alloc.specs.declared.frees.Hung.{Hung}
use Rattle.mb_alloc.specs.declared.frees.Hung.TheVariants as hung
use Rattle.mb_file.specs.Walking.{IsListable, under_dinode}
use Rattle.mb_file.specs.declared.walks.Collected.{Collected}
use Rattle.mb_file.specs.declared.walks.Collected.TheVariants as collected

-- a step of the chain on any blocks whose block 1 has these bytes: an address more in a list with room
abbrev pub HangsOne : List ℕ → List ℕ → ℕ → Type 0
HangsOne first after block = (blocks : ℕ → List ℕ) → blocks 1 ≡ first → KeepsRules blocks → 1 < block → block < 262144 → IsFreed blocks (put_block blocks 1 after) block

-- the step at a full list, which the block holds then
abbrev pub MovesList : List ℕ → List ℕ → List ℕ → ℕ → Type 0
MovesList first after held block = (blocks : ℕ → List ℕ) → blocks 1 ≡ first → KeepsRules blocks → 1 < block → block < 262144
    → IsFreed blocks (put_block (put_block blocks block held) 1 after) block

-- a block that holds the super-block's list, and zeros behind it
abbrev pub list_block : List ℕ → List ℕ
list_block first = put_at (replicate 512 0) 0 (take 202 (drop 6 first))

-- steps at lists with room, one after another
abbrev pub HangsEach : List ℕ → List ℕ → List ℕ → Type 0
HangsEach first after [] = after ≡ first
HangsEach first after (block ∷ blocks) = (mid : List ℕ) × HangsOne first mid block × (nfree_of mid ≤ 50) × HangsEach mid after blocks

-- the step with block 1 apart: its bytes before and after in place of those under the changes
abbrev pub PutsBack : (ℕ → Option (List ℕ)) → ChangeList → ChangeList → List ℕ → List ℕ → ℕ → Hung → Type 0
PutsBack shown old new first after block hung.Done = (IsWithinView shown old → IsWithinView shown new)
    × ((blocks : ℕ → List ℕ) → IsPart shown blocks → KeepsRules (put_block (over blocks (changed old)) 1 first) → 1 < block → block < 262144
    → IsFreed (put_block (over blocks (changed old)) 1 first) (put_block (over blocks (changed new)) 1 after) block)
PutsBack shown old new first after block (hung.Need need) = IsNeed shown need × (need.first ≡ block)
PutsBack shown old new first after block hung.NoMemory = Unit {0}

-- blocks in hand that can be put back
pub record AreInHand (has : ℕ → Bool) (blocks : ℕ → List ℕ) (hand chain : List ℕ) : Type 0 where
  pub laid : IsLaid has blocks hand chain
  pub few_inodes : isize_of (blocks 1) ≤ 8193
  pub few_blocks : fsize_of (blocks 1) ≤ 262144
  pub cached : ninode_of (blocks 1) ≤ 100

abbrev pub PutsAllBack : (ℕ → Option (List ℕ)) → ChangeList → ChangeList → List ℕ → Hung → Type 0
PutsAllBack shown old new list hung.Done = (IsWithinView shown old → IsWithinView shown new)
    × ((blocks : ℕ → List ℕ) (has : ℕ → Bool) (chain : List ℕ) → IsPart shown blocks → AreInHand has (over blocks (changed old)) list chain
    → AreFreed (over blocks (changed old)) (over blocks (changed new)) list)
PutsAllBack shown old new list (hung.Need need) = IsNeed shown need × ((need.first ≡ 1) ⊎ Contains list need.first)
PutsAllBack shown old new list hung.NoMemory = Unit {0}

-- block 1, or one of those that are to be put back, asked for
abbrev pub LacksLists : (ℕ → Option (List ℕ)) → List ℕ → Option Need → Type 0
LacksLists shown list result = IfSome result (λ need. IsNeed shown need × ((need.first ≡ 1) ⊎ Contains list need.first))

-- a block that an inode holds asked for
abbrev pub LacksHeld : (ℕ → Option (List ℕ)) → ChangeList → Dinode → Option Need → Type 0
LacksHeld shown changes d result = IfSome result (λ need. IsNeed shown need
    × ((blocks : ℕ → List ℕ) → IsPart shown blocks → Contains (under_dinode (pointers (over blocks (changed changes))) d) need.first))

-- block 1, or a block that an inode holds, asked for
abbrev pub LacksFirst : (ℕ → Option (List ℕ)) → ChangeList → Dinode → Option Need → Type 0
LacksFirst shown changes d result = IfSome result (λ need. IsNeed shown need
    × ((blocks : ℕ → List ℕ) → IsPart shown blocks → (need.first ≡ 1) ⊎ Contains (under_dinode (pointers (over blocks (changed changes))) d) need.first))

-- the blocks that an inode holds, by what the addresses of blocks lead to, listed in the order in which they are put
-- back; or block 1 or one of them asked for
abbrev pub ListsToFree : (ℕ → Option (List ℕ)) → ChangeList → (Pointers → List ℕ) → Collected → Type 0
ListsToFree shown changes holds (collected.Blocks list) = (blocks : ℕ → List ℕ) → IsPart shown blocks
    → IsListable [] (holds (pointers (over blocks (changed changes)))) → IsPermutation (holds (pointers (over blocks (changed changes)))) list.items
ListsToFree shown changes holds (collected.Need need) = IsNeed shown need
    × ((blocks : ℕ → List ℕ) → IsPart shown blocks → IsListable [] (holds (pointers (over blocks (changed changes))))
    → (need.first ≡ 1) ⊎ Contains (holds (pointers (over blocks (changed changes)))) need.first)
ListsToFree shown changes holds collected.NoMemory = Unit {0}
