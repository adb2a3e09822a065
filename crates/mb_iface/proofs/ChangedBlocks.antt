-- Blocks under changes: reading after a write, and views under changes.
use Rattle.std.proofs.Common.{ℕ, ◌≡◌, ◌≢◌, Option, Some, None, Bool, true, false, cond, nat_eq, unwrap_or, IfSome, List, [], refl, sym, ap, subst, ◌∙◌, arith, Bor, option_copied}
use Rattle.std.specs.Option.{option_or}
use Rattle.std.proofs.lemmas.Bool.Decides.{nat_tests}
use mathlib.Core.Path.{fun_ext}
use Rattle.mb_tree.specs.Views.{over, IsPart}
use Rattle.mb_kinds.specs.Changed.{ChangeList, changed, put_block, shown_over}

pub put_block_same : (blocks : ℕ → List ℕ) (block : ℕ) (bytes : List ℕ) → put_block blocks block bytes block ≡ bytes
unfolding put_block
put_block_same blocks block bytes = grind (arith, nat_tests)

pub put_block_other : (blocks : ℕ → List ℕ) (block : ℕ) (bytes : List ℕ) (other : ℕ) → other ≢ block → put_block blocks block bytes other ≡ blocks other
unfolding put_block
put_block_other blocks block bytes other apart = grind (arith, nat_tests)

either_over : (b : Bool) (bytes : List ℕ) (o : Option (List ℕ)) (below : List ℕ) → unwrap_or (cond b (Some bytes) o) below ≡ cond b bytes (unwrap_or o below)
either_over true bytes o below = refl
either_over false bytes o below = refl

later_over : (later earlier : Option (List ℕ)) (below : List ℕ) → unwrap_or (option_or later earlier) below ≡ unwrap_or later (unwrap_or earlier below)
later_over None earlier below = refl
later_over (Some bytes) earlier below = refl

-- a block changed is a block written
pub over_put : (old new : ChangeList) (block : ℕ) (bytes : List ℕ) → ((other : ℕ) → changed new other ≡ cond (nat_eq block other) (Some bytes) (changed old other))
    → (blocks : ℕ → List ℕ) → over blocks (changed new) ≡ put_block (over blocks (changed old)) block bytes
unfolding over put_block
over_put old new block bytes each blocks = fun_ext (λ other.
    ap (λ o. unwrap_or o (blocks other)) (each other) ∙ either_over (nat_eq block other) bytes (changed old other) (blocks other))

-- two blocks changed are two written
pub over_both : (old new : ChangeList) (block : ℕ) (bytes : List ℕ) (then : ℕ) (after : List ℕ)
    → ((other : ℕ) → changed new other ≡ cond (nat_eq then other) (Some after) (cond (nat_eq block other) (Some bytes) (changed old other)))
    → (blocks : ℕ → List ℕ) → over blocks (changed new) ≡ put_block (put_block (over blocks (changed old)) block bytes) then after
unfolding over put_block
over_both old new block bytes then after each blocks = fun_ext (λ other.
    ap (λ o. unwrap_or o (blocks other)) (each other)
    ∙ either_over (nat_eq then other) after (cond (nat_eq block other) (Some bytes) (changed old other)) (blocks other)
    ∙ ap (cond (nat_eq then other) after) (either_over (nat_eq block other) bytes (changed old other) (blocks other)))

-- later changes lie over earlier ones
pub over_later : (old later new : ChangeList) → ((other : ℕ) → changed new other ≡ option_or (changed later other) (changed old other))
    → (blocks : ℕ → List ℕ) → over blocks (changed new) ≡ over (over blocks (changed old)) (changed later)
unfolding over
over_later old later new each blocks = fun_ext (λ other.
    ap (λ o. unwrap_or o (blocks other)) (each other) ∙ later_over (changed later other) (changed old other) (blocks other))

-- without changes the blocks read as they are
pub over_none : (blocks : ℕ → List ℕ) → over blocks (changed []) ≡ blocks
unfolding over
over_none blocks = fun_ext (λ other. refl)

part_over : (c s : Option (List ℕ)) (below : List ℕ) → IfSome s (λ bytes. below ≡ bytes) → IfSome (option_or c s) (λ bytes. unwrap_or c below ≡ bytes)
part_over None s below part = part
part_over (Some bytes) s below part = refl

-- a part of the blocks is, under the changes, a part of the blocks under them
pub shown_part : (shown : ℕ → Option (List ℕ)) (changes : ChangeList) (blocks : ℕ → List ℕ) → IsPart shown blocks → IsPart (shown_over shown changes) (over blocks (changed changes))
unfolding over
shown_part shown changes blocks part block = part_over (changed changes block) (shown block) (blocks block) (part block)

-- what a look finds under the changes is what the blocks read there
at_found : (o : Option (List ℕ)) (bytes here : List ℕ) → o ≡ Some bytes → IfSome o (λ found. here ≡ found) → here ≡ bytes
at_found o bytes here found part = subst (λ p. IfSome p (λ found. here ≡ found)) found part

pub found_under : (shown : ℕ → Option (List ℕ)) (changes : ChangeList) (block : ℕ) (r : Option (Bor (List ℕ))) → option_copied r ≡ shown_over shown changes block
    → IfSome r (λ bytes. (blocks : ℕ → List ℕ) → IsPart shown blocks → over blocks (changed changes) block ≡ bytes.now)
found_under shown changes block None looked = tt
found_under shown changes block (Some bytes) looked = λ blocks part. at_found (shown_over shown changes block) bytes.now (over blocks (changed changes) block) (sym looked) (shown_part shown changes blocks part block)
