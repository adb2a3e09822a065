-- Blocks that are read as they are seen are a part of what is seen.
use Rattle.std.proofs.Common.{◌≡◌, ℕ, refl, Option, None, Some, IfSome, IsSome, inl, inr, option_map, sym, subst}
use Rattle.std.specs.List.{AllByRecursion}
use Rattle.mb_iface.specs.Needs.{blocks_of}
use Rattle.mb_iface.specs.declared.replies.Need.{Need}
use Rattle.mb_kinds.specs.Image.{Image}
use Rattle.mb_tree.specs.Views.{IsPart}
use Rattle.mb_cache.specs.Stamps.{Stamps}
use Rattle.mb_cache.specs.Kept.{CopyList, KeptBlock, kept_at, shown}
use Rattle.mb_copies.specs.Reads.{AreRead, GathersSeen, numbers, stored}
use Rattle.mb_copies.proofs.Stored.{stored_kept, stored_stays, stored_there}

module _ (view : Option Image) (stamps : Stamps) (copies reads : CopyList) (need : Need) (are : AreRead view stamps reads) where
  part_at : (image : Image) → view ≡ Some image → IsPart (shown copies) image.at → (block : ℕ) (found : Option KeptBlock) → kept_at (stored copies reads) block ≡ found
      → IfSome (option_map (λ (k : KeptBlock). k.bytes) found) (λ bytes. image.at block ≡ bytes)
  part_at image tells part block None is = tt
  part_at image tells part block (Some kept) is = elim (stored_kept view stamps copies reads block kept are is) [
    | inl old ↦ subst (λ (o : Option KeptBlock). IfSome (option_map (λ (k : KeptBlock). k.bytes) o) (λ bytes. image.at block ≡ bytes)) old (part block)
    | inr new ↦ sym (subst (λ (v : Option Image). IfSome v (λ (i : Image). kept.bytes ≡ i.at block)) tells new.bytes)
  ]

  part_of : (image : Image) → view ≡ Some image → IsPart (shown copies) image.at → IsPart (shown (stored copies reads)) image.at
  part_of image tells part block = part_at image tells part block (kept_at (stored copies reads) block) refl

  pub gathers_seen : numbers reads ≡ blocks_of need → GathersSeen view need copies (stored copies reads)
  gathers_seen numbers_are = record {
    part = part_of;
    stays = stored_stays copies reads;
    there = subst (AllByRecursion (λ block. IsSome (shown (stored copies reads) block))) numbers_are (stored_there copies reads);
  }
