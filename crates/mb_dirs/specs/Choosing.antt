-- The number of a new inode: the demanded one, or V7's pick.
use Rattle.std.specs.Prelude.{List, ℕ, ◌≡◌, Bool, Option, Some, None}
use Rattle.mb_tree.specs.Step.{IsFreeNumber}
use Rattle.mb_tree.specs.Views.{over}
use Rattle.mb_alloc.specs.Numbers.{pick_of}
use Rattle.mb_kinds.specs.Changed.{ChangeList, changed, IsWithinView}
use Rattle.mb_iface.specs.Needs.{IsNeed}
use Rattle.mb_moves.specs.Advancing.{OnStored, AdvancesTo}
use Rattle.mb_dirs.specs.Steps.{IsNearFirst}
use Rattle.mb_dirs.specs.declared.choices.Chosen.{Chosen}
use Rattle.mb_dirs.specs.declared.choices.Chosen.TheVariants as chosen

-- the number with the cache that the pick leaves
abbrev pub IsPickOf : (ℕ → List ℕ) → ℕ → Type 0
IsPickOf blocks ino = (rest : List ℕ) × (pick_of blocks ≡ Some (ino, rest))

-- a demanded number: it is taken where it is free, and nothing changes
abbrev pub ChecksNumber : (ℕ → Option (List ℕ)) → ChangeList → ℕ → Chosen → Type 0
ChecksNumber shown changes ino (chosen.Number number) = number ≡ ino
ChecksNumber shown changes ino chosen.NoneLeft = OnStored shown changes (λ image tree chain. IsFreeNumber tree ino → ⊥)
ChecksNumber shown changes ino (chosen.Need need) = IsNeed shown need × OnStored shown changes (λ image tree chain. (looks : ℕ → Bool) → IsNearFirst changes need.first image tree looks)
ChecksNumber shown changes ino chosen.NoMemory = ⊥

-- V7's pick: a free number, and a tree that stays
abbrev pub PicksNumberOf : (ℕ → Option (List ℕ)) → ChangeList → ChangeList → Chosen → Type 0
PicksNumberOf shown old new (chosen.Number ino) = (IsWithinView shown old → IsWithinView shown new)
    × OnStored shown old (λ image tree chain. (looks : ℕ → Bool) → IsFreeNumber tree ino × IsPickOf (over image.at (changed old)) ino × AdvancesTo image tree looks old new tree)
PicksNumberOf shown old new chosen.NoneLeft = OnStored shown old (λ image tree chain. (ino : ℕ) → IsFreeNumber tree ino → ⊥)
PicksNumberOf shown old new (chosen.Need need) = IsNeed shown need × OnStored shown old (λ image tree chain. (looks : ℕ → Bool) → IsNearFirst old need.first image tree looks)
PicksNumberOf shown old new chosen.NoMemory = Unit {0}

-- what a chosen number is: the demanded one, and where none is demanded V7's pick
abbrev pub IsChoice : (ℕ → Option (List ℕ)) → ChangeList → Option ℕ → ℕ → Type 0
IsChoice shown old (Some demanded) ino = ino ≡ demanded
IsChoice shown old None ino = OnStored shown old (λ image tree chain. IsPickOf (over image.at (changed old)) ino)

abbrev pub Chooses : (ℕ → Option (List ℕ)) → ChangeList → ChangeList → Option ℕ → Chosen → Type 0
Chooses shown old new (Some demanded) result = (new ≡ old) × ChecksNumber shown old demanded result
Chooses shown old new None result = PicksNumberOf shown old new result
