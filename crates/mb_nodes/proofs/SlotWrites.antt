-- The bytes of slots written in a part's block.
use Rattle.std.proofs.Common.{ℕ, ◌≡◌, ◌≢◌, ◌+◌, ◌*◌, ◌<◌, List, [], ◌∷◌, ◌++◌, length, map, sym, ap, ◌∙◌, arith}
use Rattle.std.specs.List.{range_with_len}
use Rattle.std.proofs.lemmas.List.{length-append}
use Rattle.mb_word.specs.Numbers.{put_at}
use Rattle.mb_word.proofs.Writes.{length-put_at}
use Rattle.mb_layout.specs.SlotEntry.{FitsSlot, slot_at, slot_bytes}
use Rattle.mb_layout.specs.declared.slots.Slot.{Slot}
use Rattle.mb_layout.proofs.SlotBytes.{length-slot_bytes, slot_back, slot_others}
use Rattle.mb_tree.specs.Blocks.{slot_of}
use Rattle.mb_tree.specs.declared.nodes.PlainSlot.{PlainSlot}
use Rattle.mb_nodes.specs.Bodies.{HasWritten, IsSlotSet, plain}
use Rattle.mb_nodes.proofs.SlotRanges.{map_range_split, map_range_to}

module _ (old new : ℕ → List ℕ) (block place : ℕ) (slot : Slot) (low : place < 32) (fits : FitsSlot slot) (long : length (old block) ≡ 512)
    (is : new block ≡ put_at (old block) (16 * place) (slot_bytes slot)) (others : (other : ℕ) → other ≢ block → new other ≡ old other) where
  pub slot_set : IsSlotSet old new block place (plain slot)
  slot_set = record {
    others = others;
    full = ap length is ∙ length-put_at (old block) (16 * place) (slot_bytes slot) (let n = length-slot_bytes slot fits.name in omega (arith, n, long, low)) ∙ long;
    kept = λ beside few apart.
        ap (λ (b : List ℕ). plain (slot_at b beside)) is
        ∙ ap plain (slot_others (old block) place beside slot (omega (arith, long, low)) (omega (arith, long, few)) fits.name apart);
    here = ap (λ (b : List ℕ). plain (slot_at b place)) is ∙ ap plain (slot_back (old block) place slot (omega (arith, long, low)) fits);
  }

-- one slot, and slots behind slots
pub one_written : (old new : ℕ → List ℕ) (block place : ℕ) (slot : PlainSlot) → place < 32 → IsSlotSet old new block place slot → HasWritten old new block place (slot ∷ [])
one_written old new block place slot low sets = record {
  others = sets.others;
  full = sets.full;
  kept = λ beside less. sets.kept beside (omega (arith, less, low)) (omega (arith, less));
  here = ap (λ (x : PlainSlot). x ∷ []) (sym sets.here ∙ ap (slot_of (new block)) (let e : place ≡ place + 0 = omega arith in e));
}

pub written_then : (one mid two : ℕ → List ℕ) (block from : ℕ) (xs ys : List PlainSlot) → HasWritten one mid block from xs → HasWritten mid two block (from + length xs) ys → HasWritten one two block from (xs ++ ys)
written_then one mid two block from xs ys front back = record {
  others = λ other off. back.others other off ∙ front.others other off;
  full = back.full;
  kept = λ place low. back.kept place (omega (arith, low)) ∙ front.kept place low;
  here =
      (let n = length xs in
      let first : map (λ i. slot_of (mid block) (from + i)) (range_with_len 0 n) ≡ map (λ i. slot_of (two block) (from + i)) (range_with_len 0 n) =
      map_range_to (λ i. slot_of (mid block) (from + i)) (λ i. slot_of (two block) (from + i)) 0 0 n (λ i low. sym (back.kept (from + (0 + i)) (omega (arith, low)))) in
      let second : map (λ i. slot_of (two block) (from + n + i)) (range_with_len 0 (length ys)) ≡ map (λ i. slot_of (two block) (from + i)) (range_with_len (0 + n) (length ys)) =
      map_range_to (λ i. slot_of (two block) (from + n + i)) (λ i. slot_of (two block) (from + i)) 0 (0 + n) (length ys)
      (λ i low. ap (slot_of (two block)) (let e : from + n + (0 + i) ≡ from + (0 + n + i) = omega arith in e)) in
      ap (λ zs. zs ++ ys) (front.here ∙ first) ∙ ap (λ zs. map (λ i. slot_of (two block) (from + i)) (range_with_len 0 n) ++ zs) (back.here ∙ second)
      ∙ sym (map_range_split (λ i. slot_of (two block) (from + i)) 0 n (length ys))
      ∙ ap (λ k. map (λ i. slot_of (two block) (from + i)) (range_with_len 0 k)) (sym (length-append xs ys)));
}
