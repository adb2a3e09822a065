-- What a read of blocks gives, and what is kept of it.
use Rattle.std.specs.Prelude.{List, ℕ, ◌≡◌, Option, Some, IfSome, IsSome, map, nat_eq, option_map, slice_get, unwrap_or}
use Rattle.std.specs.List.{AllByRecursion}
use Rattle.indexmap.specs.IndexMap.{insert_all, insert_entry}
use Rattle.mb_kinds.specs.Changed.{ChangeList, changed}
use Rattle.mb_iface.specs.Needs.{blocks_of}
use Rattle.mb_iface.specs.declared.replies.Need.{Need}
use Rattle.mb_kinds.specs.Image.{Image}
use Rattle.mb_cache.specs.Stamps.{Stamps, stamp_of}
use Rattle.mb_tree.specs.Views.{IsPart}
use Rattle.mb_cache.specs.Kept.{CopyList, KeptBlock, shown}

-- a block with its bytes as they are seen, and its present stamp
pub record IsRead (view : Option Image) (stamps : Stamps) (read : ℕ × KeptBlock) : Type 0 where
  pub bytes : IfSome view (λ (image : Image). read.1.bytes ≡ image.at read.0)
  pub stamp : read.1.stamp ≡ stamp_of stamps read.0

-- each of them is so
abbrev pub AreRead : Option Image → Stamps → CopyList → Type 0
AreRead view stamps reads = AllByRecursion (IsRead view stamps) reads

-- the numbers of the blocks that were read
abbrev pub numbers : CopyList → List ℕ
numbers reads = map (λ (read : ℕ × KeptBlock). read.0) reads

-- blocks that were copies of what is seen are so with those that were read; none is lost, and all that was asked for is there
pub record GathersSeen (view : Option Image) (need : Need) (old new : CopyList) : Type 0 where
  pub part : (image : Image) → view ≡ Some image → IsPart (shown old) image.at → IsPart (shown new) image.at
  pub stays : (block : ℕ) → IsSome (shown old block) → IsSome (shown new block)
  pub there : AllByRecursion (λ block. IsSome (shown new block)) (blocks_of need)

-- copies with those of a list, each in the place of its block's copy where it has one, else behind the others
abbrev pub stored : CopyList → CopyList → CopyList
stored copies reads = insert_all nat_eq copies reads

-- copies with the one that stands at a place of a list, in the place of its block's copy, else behind the others
abbrev pub TakesFrom : CopyList → ℕ → CopyList → CopyList → Type 0
TakesFrom reads at old new = (block : ℕ) (kept : KeptBlock) → slice_get reads at ≡ Some (block, kept) → new ≡ insert_entry nat_eq old block kept

-- a view whose blocks have the new bytes, where they are changed; no other block comes
abbrev pub renewed : ChangeList → (ℕ → Option (List ℕ)) → ℕ → Option (List ℕ)
renewed changes shown block = option_map (λ bytes. unwrap_or (changed changes block) bytes) (shown block)
