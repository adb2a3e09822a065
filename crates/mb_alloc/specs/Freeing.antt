-- A block put back on the free chain (V7 filsys(5)).
use Rattle.std.specs.Prelude.{List, ℕ, ◌≡◌, ◌<◌, ◌≢◌, Option, IsSome, IfSome}
use Rattle.mb_word.specs.Fields.{nfree_of}
use Rattle.mb_tree.specs.Blocks.{first_list}
use Rattle.mb_tree.specs.Views.{over, IsPart}
use Rattle.mb_kinds.specs.Changed.{ChangeList, changed, shown_over, IsWithinView}
use Rattle.mb_iface.specs.Needs.{IsNeed}
use Rattle.mb_blocks.specs.FreeLists.{IsFreed}
use Rattle.mb_blocks.specs.Rules.{KeepsRules}
use Rattle.mb_alloc.specs.declared.frees.Hung.{Hung}
use Rattle.mb_alloc.specs.declared.frees.Hung.TheVariants as hung

-- a block put back, whose own bytes stay unless it gets a full list
pub record IsPutBack (old new : ℕ → List ℕ) (block : ℕ) : Type 0 where
  pub freed : IsFreed old new block
  pub kept : (first_list old).count ≢ 50 → new block ≡ old block

-- a view with changes over it shows that the super-block's list is not full, so that the block put back is not written
abbrev pub ShowsRoom : (ℕ → Option (List ℕ)) → ChangeList → Type 0
ShowsRoom shown changes = IfSome (shown_over shown changes 1) (λ first. nfree_of first ≢ 50)

abbrev pub Frees : (ℕ → Option (List ℕ)) → ChangeList → ChangeList → ℕ → Hung → Type 0
Frees shown old new block hung.Done = (IsSome (shown block) → IsWithinView shown old → IsWithinView shown new)
    × ((blocks : ℕ → List ℕ) → IsPart shown blocks → KeepsRules (over blocks (changed old)) → 1 < block → IsPutBack (over blocks (changed old)) (over blocks (changed new)) block)
    × (ShowsRoom shown old → IsWithinView shown old → IsWithinView shown new)
Frees shown old new block (hung.Need need) = (new ≡ old) × IsNeed shown need × (need.first ≡ 1)
Frees shown old new block hung.NoMemory = new ≡ old
