-- What is asked for before a number is picked.
use Rattle.std.specs.Prelude.{List, ℕ, ◌≤◌, ◌<◌, ◌≡◌, ◌⊎◌, Option, IfSome}
use Rattle.mb_word.specs.Fields.{isize_of}
use Rattle.mb_tree.specs.Views.{over, IsPart}
use Rattle.mb_kinds.specs.Changed.{ChangeList, changed}
use Rattle.mb_iface.specs.Needs.{IsNeed}
use Rattle.mb_iface.specs.declared.replies.Need.{Need}

-- block 1, or a block of the i-list
abbrev pub LacksForPick : (ℕ → Option (List ℕ)) → ChangeList → Option Need → Type 0
LacksForPick shown changes result = IfSome result (λ need. IsNeed shown need
    × ((blocks : ℕ → List ℕ) → IsPart shown blocks → (need.first ≡ 1) ⊎ ((2 ≤ need.first) × (need.first < isize_of (over blocks (changed changes) 1)))))

-- a block of the i-list, which ends before a block
abbrev pub LacksInList : (ℕ → Option (List ℕ)) → ℕ → Option Need → Type 0
LacksInList shown size result = IfSome result (λ need. IsNeed shown need × (2 ≤ need.first) × (need.first < size))
