-- The block of a part, taken, zeroed and hung where it is missing, and the index blocks on the way to it.
use Rattle.std.specs.Prelude.{List, [], ℕ, ◌<◌, ◌≤◌, ◌≡◌, ◌⊎◌, Bool, true, Option, length}
use Rattle.mb_word.specs.Fields.{fsize_of, isize_of, ninode_of, inode_block, inode_place, address_of, index_entry}
use Rattle.mb_tree.specs.Blocks.{pointers, first_list}
use Rattle.mb_tree.specs.Chain.{IsNext}
use Rattle.mb_tree.specs.Places.{at, place_of}
use Rattle.mb_tree.specs.Views.{over, IsPart}
use Rattle.mb_kinds.specs.Changed.{ChangeList, changed, IsWithinView}
use Rattle.mb_iface.specs.Needs.{IsNeed}
use Rattle.mb_blocks.specs.Laid.{IsLaid, IsHad}
use Rattle.mb_blocks.specs.Growing.{IsEntrySet, IsTopSet, Reaches, missing}
use Rattle.mb_blocks.specs.Rules.{KeepsRules, IsOut}
use Rattle.mb_alloc.specs.Taking.{IsTakenZeroed}
use Rattle.mb_bmap.specs.declared.reaches.Reached.{Reached}
use Rattle.mb_bmap.specs.declared.reaches.Reached.TheVariants as reached

-- an address that is there, or a block taken, zeroed and written where there was none
abbrev pub GrowsBy : (ℕ → List ℕ) → (ℕ → List ℕ) → ℕ → ℕ → ((ℕ → List ℕ) → Type 0) → Type 0
GrowsBy old new was block sets =
    ((was ≡ block) × (new ≡ old)) ⊎ ((was ≡ 0) × (two : ℕ → List ℕ) × IsTakenZeroed old two block × sets two)

-- what one step answers, where the address before it is read from the blocks, and written into them
abbrev pub StepsBy : (ℕ → Option (List ℕ)) → ChangeList → ChangeList → ((ℕ → List ℕ) → ℕ) → ((ℕ → List ℕ) → (ℕ → List ℕ) → ℕ → Type 0) → ((ℕ → List ℕ) → Type 0) → (ℕ → Type 0) → Reached → Type 0
StepsBy shown old new was sets fine asks (reached.At block) = (0 < block) × (IsWithinView shown old → IsWithinView shown new)
    × ((blocks : ℕ → List ℕ) → IsPart shown blocks → KeepsRules (over blocks (changed old)) → fine (over blocks (changed old))
    → GrowsBy (over blocks (changed old)) (over blocks (changed new)) (was (over blocks (changed old))) block (λ two. sets two (over blocks (changed new)) block))
StepsBy shown old new was sets fine asks reached.NoneLeft = (blocks : ℕ → List ℕ) → IsPart shown blocks → KeepsRules (over blocks (changed old)) → fine (over blocks (changed old))
    → (was (over blocks (changed old)) ≡ 0) × IsOut (first_list (over blocks (changed old)))
StepsBy shown old new was sets fine asks (reached.Need need) = IsNeed shown need
    × ((blocks : ℕ → List ℕ) → IsPart shown blocks → KeepsRules (over blocks (changed old)) → fine (over blocks (changed old))
    → asks need.first ⊎ ((need.first ≡ 1) ⊎ IsNext (first_list (over blocks (changed old))) need.first))
StepsBy shown old new was sets fine asks reached.NoMemory = Unit {0}

abbrev pub StepsTop : (ℕ → Option (List ℕ)) → ChangeList → ChangeList → ℕ → ℕ → Reached → Type 0
StepsTop shown old new ino place result =
    StepsBy shown old new (λ blocks. address_of (blocks (inode_block ino)) (inode_place ino) place) (λ two now block. IsTopSet two now ino place block) (λ blocks. 0 < ino) (λ first. first ≡ inode_block ino) result

abbrev pub StepsUnder : (ℕ → Option (List ℕ)) → ChangeList → ChangeList → ℕ → ℕ → Reached → Type 0
StepsUnder shown old new index place result =
    StepsBy shown old new (λ blocks. index_entry (blocks index) place) (λ two now block. IsEntrySet two now index place block) (λ blocks. (0 < index) × (index < 262144)) (λ first. first ≡ index) result

-- what the blocks keep, and the inode whose part is reached
pub record IsReady (has : ℕ → Bool) (blocks : ℕ → List ℕ) (chain : List ℕ) (ino : ℕ) : Type 0 where
  pub laid : IsLaid has blocks [] chain
  pub is : has ino ≡ true
  pub few_inodes : isize_of (blocks 1) ≤ 8193
  pub few_blocks : fsize_of (blocks 1) ≤ 262144
  pub cached : ninode_of (blocks 1) ≤ 100

abbrev pub ReachesPart : (ℕ → Option (List ℕ)) → ChangeList → ChangeList → ℕ → ℕ → Reached → Type 0
ReachesPart shown old new ino part (reached.At block) = (IsWithinView shown old → IsWithinView shown new)
    × ((blocks : ℕ → List ℕ) (has : ℕ → Bool) (chain : List ℕ) → IsPart shown blocks → IsReady has (over blocks (changed old)) chain ino
    → Reaches (over blocks (changed old)) (over blocks (changed new)) (place_of ino part) × (at (pointers (over blocks (changed new))) (place_of ino part) ≡ block))
ReachesPart shown old new ino part reached.NoneLeft = (blocks : ℕ → List ℕ) (has : ℕ → Bool) (chain : List ℕ) → IsPart shown blocks → IsReady has (over blocks (changed old)) chain ino
    → length chain < missing (pointers (over blocks (changed old))) (place_of ino part)
ReachesPart shown old new ino part (reached.Need need) = IsNeed shown need
    × ((blocks : ℕ → List ℕ) (has : ℕ → Bool) (chain : List ℕ) → IsPart shown blocks → IsReady has (over blocks (changed old)) chain ino
    → (need.first ≡ 1) ⊎ ((need.first ≡ inode_block ino) ⊎ IsHad has (over blocks (changed old)) chain need.first))
ReachesPart shown old new ino part reached.NoMemory = Unit {0}
