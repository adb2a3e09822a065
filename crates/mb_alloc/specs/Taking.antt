-- A block taken from the free chain.
use Rattle.std.specs.Prelude.{List, ℕ, ◌≡◌, ◌<◌, ◌+◌, ◌⊎◌, Option, None, MatchOption}
use Rattle.mb_tree.specs.Blocks.{first_list}
use Rattle.mb_tree.specs.Chain.{IsNext}
use Rattle.mb_tree.specs.Views.{over, IsPart}
use Rattle.mb_kinds.specs.Changed.{ChangeList, changed, IsWithinView}
use Rattle.mb_iface.specs.Places.{StandsAt}
use Rattle.mb_iface.specs.Needs.{IsNeed}
use Rattle.mb_blocks.specs.FreeLists.{IsTaken}
use Rattle.mb_blocks.specs.Growing.{IsZeroed}
use Rattle.mb_blocks.specs.Rules.{KeepsRules, IsOut}
use Rattle.mb_alloc.specs.declared.takes.Next.{Next}
use Rattle.mb_alloc.specs.declared.takes.Next.TheVariants as next
use Rattle.mb_alloc.specs.declared.takes.Taken.{Taken}
use Rattle.mb_alloc.specs.declared.takes.Taken.TheVariants as taken

-- the next block that is taken from the chain, behind so many addresses of the super-block's list
pub record IsNextBehind (blocks : ℕ → List ℕ) (block left : ℕ) : Type 0 where
  pub next : IsNext (first_list blocks) block
  pub behind : (first_list blocks).count ≡ left + 1

-- where the super-block stands in the changes, if it does
abbrev pub IsSuperPlace : ChangeList → Option ℕ → Type 0
IsSuperPlace changes place = MatchOption place (changed changes 1 ≡ None) (λ p. StandsAt changes p 1)

-- the bytes of the super-block, with its place in the changes
pub record IsSuper (shown : ℕ → Option (List ℕ)) (changes : ChangeList) (bytes : List ℕ) (place : Option ℕ) : Type 0 where
  pub found : (blocks : ℕ → List ℕ) → IsPart shown blocks → over blocks (changed changes) 1 ≡ bytes
  pub placed : IsSuperPlace changes place

abbrev pub TellsNext : (ℕ → Option (List ℕ)) → ChangeList → Next → Type 0
TellsNext shown changes (next.Block b left place) = (0 < b) × (b < 262144) × IsSuperPlace changes place × ((blocks : ℕ → List ℕ) → IsPart shown blocks → IsNextBehind (over blocks (changed changes)) b left)
TellsNext shown changes next.NoneLeft = (blocks : ℕ → List ℕ) → IsPart shown blocks → KeepsRules (over blocks (changed changes)) → IsOut (first_list (over blocks (changed changes)))
TellsNext shown changes (next.Need need) = IsNeed shown need × (need.first ≡ 1)

abbrev pub Takes : (ℕ → Option (List ℕ)) → ChangeList → ChangeList → Taken → Type 0
Takes shown old new (taken.Block b) = (0 < b) × (b < 262144) × (IsWithinView shown old → IsWithinView shown new)
    × ((blocks : ℕ → List ℕ) → IsPart shown blocks → KeepsRules (over blocks (changed old)) → IsTaken (over blocks (changed old)) (over blocks (changed new)) b)
Takes shown old new taken.NoneLeft = (new ≡ old) × ((blocks : ℕ → List ℕ) → IsPart shown blocks → KeepsRules (over blocks (changed old)) → IsOut (first_list (over blocks (changed old))))
Takes shown old new (taken.Need need) = (new ≡ old) × IsNeed shown need
    × ((blocks : ℕ → List ℕ) → IsPart shown blocks → KeepsRules (over blocks (changed old)) → (need.first ≡ 1) ⊎ IsNext (first_list (over blocks (changed old))) need.first)
Takes shown old new taken.NoMemory = new ≡ old

-- a block taken and filled with zeros
pub record IsTakenZeroed (old new : ℕ → List ℕ) (block : ℕ) : Type 0 where
  pub between : ℕ → List ℕ
  pub taken : IsTaken old between block
  pub zeroed : IsZeroed between new block

abbrev pub TakesZeroed : (ℕ → Option (List ℕ)) → ChangeList → ChangeList → Taken → Type 0
TakesZeroed shown old new (taken.Block b) = (0 < b) × (b < 262144) × (IsWithinView shown old → IsWithinView shown new)
    × ((blocks : ℕ → List ℕ) → IsPart shown blocks → KeepsRules (over blocks (changed old)) → IsTakenZeroed (over blocks (changed old)) (over blocks (changed new)) b)
TakesZeroed shown old new taken.NoneLeft = (new ≡ old) × ((blocks : ℕ → List ℕ) → IsPart shown blocks → KeepsRules (over blocks (changed old)) → IsOut (first_list (over blocks (changed old))))
TakesZeroed shown old new (taken.Need need) = (new ≡ old) × IsNeed shown need
    × ((blocks : ℕ → List ℕ) → IsPart shown blocks → KeepsRules (over blocks (changed old)) → (need.first ≡ 1) ⊎ IsNext (first_list (over blocks (changed old))) need.first)
TakesZeroed shown old new taken.NoMemory = new ≡ old
