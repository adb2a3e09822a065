-- How far a loop over copies has come.
use Rattle.std.proofs.Common.{◌≡◌, ℕ, zero, suc, ◌+◌, List, [], ◌∷◌, ◌++◌, Option, Some, refl, sym, ap, subst, ◌∙◌, arith, slice_get, slice_set, drop, take, fold, nat_eq}
use Rattle.indexmap.specs.IndexMap.{insert_entry}
use Rattle.mb_kinds.specs.Image.{Image}
use Rattle.mb_iface.proofs.NeedBlocks.{all_append}
use Rattle.mb_cache.proofs.PageLoops.{next_first}
use Rattle.mb_cache.specs.Stamps.{Stamps}
use Rattle.mb_cache.specs.Kept.{CopyList, KeptBlock}
use Rattle.mb_copies.specs.Reads.{AreRead, IsRead, stored}

-- one copy more is stored
pub stored_more : (copies new reads goal : CopyList) (at block : ℕ) (kept : KeptBlock) → stored copies (drop at reads) ≡ goal → slice_get reads at ≡ Some (block, kept) → new ≡ insert_entry nat_eq copies block kept
    → stored new (drop (at + 1) reads) ≡ goal
stored_more copies new reads goal at block kept so_far here one =
    ap (λ p. stored p (drop (at + 1) reads)) one ∙ sym (ap (stored copies) (next_first reads at (block, kept) here)) ∙ so_far

-- one element more is folded
pub folded_more : {A B : Type 0} (f : B → A → B) (b new goal : B) (xs : List A) (at : ℕ) (x : A) → fold f b (drop at xs) ≡ goal → slice_get xs at ≡ Some x → new ≡ f b x → fold f new (drop (at + 1) xs) ≡ goal
folded_more f b new goal xs at x so_far here one =
    ap (λ y. fold f y (drop (at + 1) xs)) one ∙ sym (ap (fold f b) (next_first xs at x here)) ∙ so_far

-- one block more is read
pub read_more : (view : Option Image) (stamps : Stamps) (reads : CopyList) (read : ℕ × KeptBlock) → AreRead view stamps reads → IsRead view stamps read → AreRead view stamps (reads ++ read ∷ [])
read_more view stamps reads read before is = all_append (IsRead view stamps) reads (read ∷ []) before (is, tt)

-- an item that is set changes nothing behind it
set_before : (count at : ℕ) (reads : CopyList) (read : ℕ × KeptBlock) → drop (suc at) (take count (slice_set reads at read)) ≡ drop (suc at) (take count reads)
set_before zero at reads read = refl
set_before (suc count) at [] read = refl
set_before (suc count) zero (first ∷ reads) read = refl
set_before (suc count) (suc at) (first ∷ reads) read = set_before count at reads read

pub behind_set : (count at : ℕ) (reads : CopyList) (read : ℕ × KeptBlock) → drop (at + 1) (take count (slice_set reads at read)) ≡ drop (at + 1) (take count reads)
behind_set count at reads read = let next : suc at ≡ at + 1 = omega arith in subst (λ n. drop n (take count (slice_set reads at read)) ≡ drop n (take count reads)) next (set_before count at reads read)

-- one copy more is taken, and what is behind it stands
pub taken_more : (copies new now next goal : CopyList) (at block : ℕ) (kept : KeptBlock) → stored copies (drop at now) ≡ goal → slice_get now at ≡ Some (block, kept) → new ≡ insert_entry nat_eq copies block kept
    → drop (at + 1) next ≡ drop (at + 1) now → stored new (drop (at + 1) next) ≡ goal
taken_more copies new now next goal at block kept so_far here one behind =
    ap (stored new) behind ∙ stored_more copies new now goal at block kept so_far here one

-- the block that stands at a place is one
pub same_read : (reads : CopyList) (at block other : ℕ) (kept copy : KeptBlock) → slice_get reads at ≡ Some (block, kept) → slice_get reads at ≡ Some (other, copy) → block ≡ other
same_read reads at block other kept copy one two = let same : (block, kept) ≡ (other, copy) = cc in ap (λ (read : ℕ × KeptBlock). read.0) same
