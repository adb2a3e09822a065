-- Two super-blocks of a volume that differ in their lists of free blocks alone.
use Rattle.std.proofs.Common.{ℕ, ◌≡◌, ◌+◌, ◌-◌, ◌<◌, ◌≤◌, inl, inr, List, ◌++◌, length, get_or, sym, ap, ◌∙◌, arith}
use Rattle.std.proofs.lemmas.Bool.{cases_lt}
use Rattle.std.proofs.lemmas.List.{append_assoc, length-append, get_or_append_left, get_or-append_right}
use Rattle.mb_kinds.specs.Image.{zeros}
use Rattle.mb_word.specs.Numbers.{SameFrom, long_bytes, word_bytes}
use Rattle.mb_word.proofs.Values.{length-long_bytes, length-word_bytes}
use Rattle.mb_word.proofs.Writes.{put_at_in, put_at_kept}
use Rattle.mb_layout.specs.Listed.{longs_bytes, words_bytes}
use Rattle.mb_layout.specs.SuperBlock.{super_bytes}
use Rattle.mb_layout.specs.declared.super_blocks.Super.{Super}
use Rattle.mb_layout.proofs.NumberLists.{length-listed, length-longs_bytes}
use Rattle.mb_layout.proofs.SuperBlockBytes.{length-super_bytes}
use Rattle.mb_mkfs.specs.FreeLists.{free_at, super_block, super_with}
use Rattle.mb_mkfs.proofs.Values.{length_no_numbers, length_zeros}

sizes : Super → List ℕ
sizes s = word_bytes s.s_isize ++ long_bytes s.s_fsize

numbers : Super → List ℕ
numbers s = word_bytes s.s_ninode ++ words_bytes s.s_inode

lists : Super → List ℕ
lists s = word_bytes s.s_nfree ++ longs_bytes s.s_free

pieces : (s : Super) → super_bytes s ≡ sizes s ++ (lists s ++ numbers s)
unfolding super_bytes sizes numbers lists
pieces s = simp append_assoc

length_sizes : (s : Super) → length (sizes s) ≡ 6
unfolding sizes
length_sizes s = length-append (word_bytes s.s_isize) (long_bytes s.s_fsize) ∙ omega (arith, length-word_bytes s.s_isize, length-long_bytes s.s_fsize)

length_lists : (s : Super) → length s.s_free ≡ 50 → length (lists s) ≡ 202
unfolding lists
length_lists s many = length-append (word_bytes s.s_nfree) (longs_bytes s.s_free) ∙ omega (arith, length-word_bytes s.s_nfree, length-longs_bytes s.s_free, many)

module _ (isize top : ℕ) where
  abbrev bytes : ℕ → List ℕ
  bytes next = super_bytes (super_with isize top next)

  long : (next : ℕ) → length (bytes next) ≡ 410
  long next = length-super_bytes (super_with isize top next) (length-listed (free_at top next) 50) length_no_numbers

  within : (next k : ℕ) → k < 410 → get_or (super_block isize top next) k 0 ≡ get_or (bytes next) k 0
  within next k low =
      let many = long next in
      let room = length_zeros in
      let same : k ≡ 0 + k = omega arith in
      ap (λ j. get_or (super_block isize top next) j 0) same ∙ put_at_in zeros 0 (bytes next) k (omega (arith, many, room)) (omega (arith, many, low))

  early : (next k : ℕ) → k < 6 → get_or (bytes next) k 0 ≡ get_or (sizes (super_with isize top next)) k 0
  early next k low =
      let s = super_with isize top next in
      let many = length_sizes s in
      ap (λ xs. get_or xs k 0) (pieces s) ∙ get_or_append_left (sizes s) (lists s ++ numbers s) 0 k (omega (arith, low, many))

  late : (next k : ℕ) → 208 ≤ k → get_or (bytes next) k 0 ≡ get_or (numbers (super_with isize top next)) (k - 6 - 202) 0
  late next k high =
      let s = super_with isize top next in
      ap (λ xs. get_or xs k 0) (pieces s)
      ∙ get_or-append_right (sizes s) (lists s ++ numbers s) 6 k 0 (length_sizes s) (omega (arith, high))
      ∙ get_or-append_right (lists s) (numbers s) 202 (k - 6) 0 (length_lists s (length-listed (free_at top next) 50)) (omega (arith, high))

  pub same_front : (next other : ℕ) → SameFrom (super_block isize top next) (super_block isize top other) 0 6
  unfolding sizes
  same_front next other k from to = (let low : k < 6 = omega (arith, to) in
      within next k (omega (arith, low)) ∙ early next k low ∙ sym (within other k (omega (arith, low)) ∙ early other k low))

  pub same_back : (next other : ℕ) → SameFrom (super_block isize top next) (super_block isize top other) 208 304
  unfolding numbers
  same_back next other k from to = elim (cases_lt k 410) [
    | inl low ↦ within next k low ∙ late next k from ∙ sym (within other k low ∙ late other k from)
    | inr past ↦
        (let room = length_zeros in let one = long next in let two = long other in
        put_at_kept zeros 0 (bytes next) k (omega (arith, one, room)) (inr (omega (arith, one, past)))
        ∙ sym (put_at_kept zeros 0 (bytes other) k (omega (arith, two, room)) (inr (omega (arith, two, past)))))
  ]
