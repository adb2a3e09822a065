-- The laws of changes over blocks and over views.
use Rattle.std.specs.Prelude.{List, [], ℕ, ◌≡◌, ◌≢◌, Option, IsSome}
use Rattle.mb_tree.specs.Views.{over, IsPart}
use Rattle.mb_kinds.specs.Changed.{ChangeList, changed, put_block, shown_over, IsWithinView}

-- without changes the blocks read as they are
abbrev pub NoChangeKeeps : Type 0
NoChangeKeeps = (blocks : ℕ → List ℕ) → over blocks (changed []) ≡ blocks

-- a block written reads as its new bytes, and every other one as before
abbrev pub WrittenReads : Type 0
WrittenReads = (blocks : ℕ → List ℕ) (block : ℕ) (bytes : List ℕ) → put_block blocks block bytes block ≡ bytes

abbrev pub OthersKept : Type 0
OthersKept = (blocks : ℕ → List ℕ) (block : ℕ) (bytes : List ℕ) (other : ℕ) → other ≢ block → put_block blocks block bytes other ≡ blocks other

-- a part of the blocks is, under changes, a part of the blocks under them
abbrev pub PartUnderChanges : Type 0
PartUnderChanges = (shown : ℕ → Option (List ℕ)) (changes : ChangeList) (blocks : ℕ → List ℕ) → IsPart shown blocks → IsPart (shown_over shown changes) (over blocks (changed changes))

-- where each changed block is one of the view, so is each block that is found under the changes
abbrev pub FoundWithinView : Type 0
FoundWithinView = (shown : ℕ → Option (List ℕ)) (changes : ChangeList) (block : ℕ) → IsWithinView shown changes → IsSome (shown_over shown changes block) → IsSome (shown block)
