-- A block hung at a level of the way to a part.
use Rattle.std.specs.Prelude.{List, ℕ, ◌<◌, ◌≡◌, ◌⊎◌, Bool, cond, Option, IsSome, length}
use Rattle.mb_kinds.specs.Image.{zeros}
use Rattle.mb_word.specs.Numbers.{put_at}
use Rattle.mb_tree.specs.Views.{over, IsPart}
use Rattle.mb_kinds.specs.Changed.{ChangeList, changed, put_block, IsWithinView}
use Rattle.mb_iface.specs.Needs.{IsNeed}
use Rattle.mb_blocks.specs.Growing.{IsZeroed, SetsPlace}
use Rattle.mb_bmap.specs.Ways.{way}
use Rattle.mb_bmap.specs.Locating.{address_on, IsBounded, IsOnWayTo, OnWay}
use Rattle.mb_bmap.specs.declared.routes.Route.{Route}
use Rattle.mb_alloc.specs.declared.frees.Hung.{Hung}
use Rattle.mb_alloc.specs.declared.frees.Hung.TheVariants as hung

-- a block may be hung at a level: no address before it is a hole, and the block is none of those on the way there
pub record IsHangable (blocks : ℕ → List ℕ) (ino : ℕ) (r : Route) (level block : ℕ) : Type 0 where
  pub sized : (other : ℕ) → length (blocks other) ≡ 512
  pub some : 0 < ino
  pub bounded : IsBounded blocks ino r
  pub held : (above : ℕ) → above < level → 0 < address_on blocks ino r above
  pub apart : IsOnWayTo blocks ino r level block → ⊥

-- an index block is filled with zeros, and a part's block stays as it is
abbrev pub FillsIndex : (ℕ → List ℕ) → (ℕ → List ℕ) → Route → ℕ → ℕ → Type 0
FillsIndex old new r level block = ((level < r.depth) × IsZeroed old new block) ⊎ ((level ≡ r.depth) × (new ≡ old))

-- a block hung: filled where it is an index block, and then its address written at that place
pub record IsHung (old new : ℕ → List ℕ) (ino : ℕ) (r : Route) (level block : ℕ) : Type 0 where
  pub filled : ℕ → List ℕ
  pub fills : FillsIndex old filled r level block
  pub set : SetsPlace filled new (way ino r.places level) block

abbrev pub HangsAt : (ℕ → Option (List ℕ)) → ChangeList → ChangeList → ℕ → Route → ℕ → ℕ → Hung → Type 0
HangsAt shown old new ino r level block hung.Done = (IsSome (shown block) → IsWithinView shown old → IsWithinView shown new)
    × ((blocks : ℕ → List ℕ) → IsPart shown blocks → IsHangable (over blocks (changed old)) ino r level block → IsHung (over blocks (changed old)) (over blocks (changed new)) ino r level block)
HangsAt shown old new ino r level block (hung.Need need) = (new ≡ old) × IsNeed shown need × OnWay shown old ino r (λ blocks. IsOnWayTo blocks ino r level need.first)
HangsAt shown old new ino r level block hung.NoMemory = new ≡ old

-- bytes of a block changed from an offset on
abbrev pub IsSetAt : (ℕ → List ℕ) → (ℕ → List ℕ) → ℕ → ℕ → List ℕ → Type 0
IsSetAt old new holder at bytes = new ≡ put_block old holder (put_at (old holder) at bytes)

-- bytes of a block changed, and before that another block filled with zeros where it is an index block
abbrev pub SetsBytes : (ℕ → Option (List ℕ)) → ChangeList → ChangeList → ℕ → ℕ → List ℕ → Bool → ℕ → Hung → Type 0
SetsBytes shown old new holder at bytes is_index block hung.Done = (IsSome (shown block) → IsWithinView shown old → IsWithinView shown new)
    × ((blocks : ℕ → List ℕ) → IsPart shown blocks
    → IsSetAt (cond is_index (put_block (over blocks (changed old)) block zeros) (over blocks (changed old))) (over blocks (changed new)) holder at bytes)
SetsBytes shown old new holder at bytes is_index block (hung.Need need) = (new ≡ old) × IsNeed shown need × (need.first ≡ holder)
SetsBytes shown old new holder at bytes is_index block hung.NoMemory = new ≡ old
