-- Changes of blocks that a view has: a block that was looked up and then changed is one of them.
use Rattle.std.proofs.Common.{ℕ, ◌≡◌, List, Option, Some, None, IsSome, Bool, true, false, cond, nat_eq, refl, subst, arith}
use Rattle.std.specs.Option.{option_or}
use Rattle.std.proofs.lemmas.Bool.Decides.{nat_tests}
use Rattle.mb_kinds.specs.Changed.{ChangeList, changed, shown_over, IsWithinView}

-- a block that is found under changes of blocks of the view is one of the view
from_under : (c s : Option (List ℕ)) → (IsSome c → IsSome s) → IsSome (option_or c s) → IsSome s
from_under None s below some = some
from_under (Some bytes) s below some = below some

pub found_within : (shown : ℕ → Option (List ℕ)) (changes : ChangeList) (block : ℕ) → IsWithinView shown changes → IsSome (shown_over shown changes block) → IsSome (shown block)
found_within shown changes block within some = from_under (changed changes block) (shown block) (within block) some

either_within : (b : Bool) (bytes : List ℕ) (old s : Option (List ℕ)) → (b ≡ true → IsSome s) → (IsSome old → IsSome s) → IsSome (cond b (Some bytes) old) → IsSome s
either_within true bytes old s here there some = here refl
either_within false bytes old s here there some = there some

-- one block changed that was found
pub within_put : (shown : ℕ → Option (List ℕ)) (old new : ChangeList) (block : ℕ) (bytes : List ℕ)
    → ((other : ℕ) → changed new other ≡ cond (nat_eq block other) (Some bytes) (changed old other))
    → IsSome (shown_over shown old block) → IsWithinView shown old → IsWithinView shown new
within_put shown old new block bytes each found within other some =
    either_within (nat_eq block other) bytes (changed old other) (shown other)
    (λ same. let e : block ≡ other = grind (arith, nat_tests) in subst (λ k. IsSome (shown k)) e (found_within shown old block within found))
    (within other)
    (subst IsSome (each other) some)
