-- Bytes of a file copied part after part.
use Rattle.std.proofs.Common.{ℕ, zero, suc, ◌≡◌, inl, inr, ◌+◌, ◌-◌, ◌*◌, ◌/◌, ◌%◌, ◌≤◌, Option, List, [], ◌∷◌, ◌++◌, length, take, drop, get_or, replicate, unwrap_or, length-append, drop-cons, refl, sym, ap, subst, ◌∙◌, arith}
use Rattle.std.proofs.lemmas.Bool.{cases_eq, cases_lt}
use Rattle.mb_kinds.specs.Image.{zeros}
use Rattle.mb_word.specs.Numbers.{AreBytes}
use Rattle.mb_tree.specs.Blocks.{part_address, part_bytes}
use Rattle.mb_tree.specs.Cost.{most_parts}
use Rattle.mb_tree.specs.Views.{over, IsPart}
use Rattle.mb_kinds.specs.Changed.{ChangeList, changed}
use Rattle.mb_blocks.proofs.PartBytes.{part_found, part_missing}
use Rattle.mb_blocks.proofs.Taking.{length-zeros}
use Rattle.mb_alloc.proofs.Within.{length-take_drop}
use Rattle.mb_file.specs.Finding.{FindsPart, OnInode}
use Rattle.mb_file.specs.Reading.{Appends, CopiesPart, HasBytesAt, bytes_on}
use Rattle.mb_file.specs.declared.parts.PartAt.TheVariants as found
use Rattle.mb_file.specs.declared.walks.Walked.{Walked}
use Rattle.mb_file.specs.declared.walks.Walked.TheVariants as walked

-- ---- the bytes of a part

pub whole_part : (blocks : ℕ → List ℕ) (ino part : ℕ) → ((block : ℕ) → length (blocks block) ≡ 512) → length (part_bytes blocks ino part) ≡ 512
whole_part blocks ino part sized = elim (cases_lt part most_parts) [
  | inl below ↦ elim (cases_eq (part_address blocks ino part) 0) [
    | inl none ↦ ap (λ o. length (unwrap_or o zeros)) (part_missing blocks ino part (λ low. none)) ∙ length-zeros
    | inr some ↦ ap (λ o. length (unwrap_or o zeros)) (part_found blocks ino part (part_address blocks ino part) below refl (omega (arith, some))) ∙ sized (part_address blocks ino part)
  ]
  | inr past ↦ ap (λ o. length (unwrap_or o zeros)) (part_missing blocks ino part (λ low. absurd (omega (arith, past, low)))) ∙ length-zeros
]

none_in : (n k : ℕ) → get_or (replicate {A = ℕ} n 0) k 0 ≡ 0
none_in zero k = refl
none_in (suc n) zero = refl
none_in (suc n) (suc k) = none_in n k

zeros_are : AreBytes zeros
unfolding zeros
zeros_are k = (let e = none_in 512 k in omega (arith, e))

module _ (blocks : ℕ → List ℕ) (ino : ℕ) where
  -- within one part
  pub in_part : (n place index part : ℕ) → index ≡ 512 * part + place → place + n ≤ 512 → length (part_bytes blocks ino part) ≡ 512 → take n (drop place (part_bytes blocks ino part)) ≡ bytes_on blocks ino index n
  in_part zero place index part is fits long = refl
  in_part (suc n) place index part is fits long =
      let of : index / 512 ≡ part = omega (arith, is, fits) in
      let its : index % 512 ≡ place = omega (arith, is, fits) in
      ap (take (suc n)) (drop-cons (part_bytes blocks ino part) place 0 (omega (arith, fits, long)))
      ∙ ap (λ p. get_or (part_bytes blocks ino p) place 0 ∷ take n (drop (suc place) (part_bytes blocks ino part))) (sym of)
      ∙ ap (λ k. get_or (part_bytes blocks ino (index / 512)) k 0 ∷ take n (drop (suc place) (part_bytes blocks ino part))) (sym its)
      ∙ ap (λ xs. get_or (part_bytes blocks ino (index / 512)) (index % 512) 0 ∷ xs) (in_part n (suc place) (index + 1) part (omega (arith, is)) (omega (arith, fits)) long)

  pub on_more : (m n index : ℕ) → bytes_on blocks ino index m ++ bytes_on blocks ino (index + m) n ≡ bytes_on blocks ino index (m + n)
  on_more zero n index = ap (λ i. bytes_on blocks ino i n) (let e : index + 0 ≡ index = omega arith in e) ∙ ap (bytes_on blocks ino index) (let e : n ≡ 0 + n = omega arith in e)
  on_more (suc m) n index =
      let step : index + suc m ≡ index + 1 + m = omega arith in
      let sum : suc (m + n) ≡ suc m + n = omega arith in
      ap (λ xs. get_or (part_bytes blocks ino (index / 512)) (index % 512) 0 ∷ xs) (ap (λ i. bytes_on blocks ino (index + 1) m ++ bytes_on blocks ino i n) step ∙ on_more m n (index + 1))
      ∙ ap (bytes_on blocks ino index) sum

-- ---- one part copied

module _ (shown : ℕ → Option (List ℕ)) (changes : ChangeList) (ino part place some : ℕ) (fits : place + some ≤ 512) (before after : List ℕ) where
  long_after : (block : List ℕ) → length block ≡ 512 → after ≡ before ++ take some (drop place block) → length after ≡ length before + some
  long_after block long is =
      ap length is ∙ length-append before (take some (drop place block)) ∙ ap (λ n. length before + n) (length-take_drop block some place (omega (arith, fits, long)))

  pub copied_found : (block : ℕ) (bytes : List ℕ) → length bytes ≡ 512 → AreBytes bytes → FindsPart shown changes ino part (found.Block block) → ((blocks : ℕ → List ℕ) → IsPart shown blocks → over blocks (changed changes) block ≡ bytes)
      → after ≡ before ++ take some (drop place bytes) → CopiesPart shown changes ino part place some before after walked.Done
  copied_found block bytes long are finds reads is = (
    long_after bytes long is,
    λ blocks is_part has.
        (let now = over blocks (changed changes) in
        let real = finds.0 in
        let here : part_bytes now ino part ≡ bytes = ap (λ o. unwrap_or o zeros) (part_found now ino part block finds.2 (finds.3 blocks is_part has) (omega (arith, real))) ∙ reads blocks is_part in
        (is ∙ ap (λ xs. before ++ take some (drop place xs)) (sym here), subst AreBytes (sym here) are)),
  )

  pub copied_hole : FindsPart shown changes ino part found.Hole → after ≡ before ++ take some (drop place zeros) → CopiesPart shown changes ino part place some before after walked.Done
  copied_hole finds is = (
    long_after zeros length-zeros is,
    λ blocks is_part has.
        (let now = over blocks (changed changes) in
        let here : part_bytes now ino part ≡ zeros = ap (λ o. unwrap_or o zeros) (finds blocks is_part has) in
        (is ∙ ap (λ xs. before ++ take some (drop place xs)) (sym here), subst AreBytes (sym here) zeros_are)),
  )

-- ---- some bytes copied

pub record HasCopied (shown : ℕ → Option (List ℕ)) (changes : ChangeList) (ino offset done : ℕ) (items : List ℕ) : Type 0 where
  pub sized : length items ≡ done
  pub copied : OnInode shown changes ino (λ now. (items ≡ bytes_on now ino offset done) × HasBytesAt now ino offset done)

module _ (shown : ℕ → Option (List ℕ)) (changes : ChangeList) (ino offset : ℕ) where
  pub copied_next : (done some next : ℕ) (before after : List ℕ) → next ≡ done + some → (offset + done) % 512 + some ≤ 512
      → CopiesPart shown changes ino ((offset + done) / 512) ((offset + done) % 512) some before after walked.Done → HasCopied shown changes ino offset done before → HasCopied shown changes ino offset next after
  copied_next done some next before after sum fits copies was = record {
    sized = (let a = copies.0 in let b = was.sized in omega (arith, a, b, sum));
    copied = λ blocks part has.
        (let now = over blocks (changed changes) in
        let index = offset + done in
        let old = was.copied blocks part has in
        let one = copies.1 blocks part has in
        let same : take some (drop (index % 512) (part_bytes now ino (index / 512))) ≡ bytes_on now ino index some =
        in_part now ino some (index % 512) index (index / 512) (omega arith) fits (whole_part now ino (index / 512) has.sized) in (
          one.0 ∙ ap (λ xs. xs ++ take some (drop (index % 512) (part_bytes now ino (index / 512)))) old.0 ∙ ap (λ xs. bytes_on now ino offset done ++ xs) same ∙ on_more now ino done some offset ∙ ap (bytes_on now ino offset) (sym sum),
          λ k low high. elim (cases_lt k index) [
            | inl before_it ↦ old.1 k low before_it
            | inr in_it ↦ (let of : k / 512 ≡ index / 512 = omega (arith, in_it, high, sum, fits) in subst (λ p. AreBytes (part_bytes now ino p)) (sym of) one.1)
          ],
        ));
  }

-- ---- what was appended

module _ (shown : ℕ → Option (List ℕ)) (changes : ChangeList) (ino part place some from to : ℕ) (fits : place + some ≤ 512) (begins : from ≡ place) (ends : to ≡ place + some) (before after : List ℕ) where
  appended : (block : List ℕ) → after ≡ before ++ take (to - from) (drop from block) → after ≡ before ++ take some (drop place block)
  appended block is = is ∙ ap (λ n. before ++ take n (drop from block)) (let e : to - from ≡ some = omega (arith, begins, ends) in e) ∙ ap (λ n. before ++ take some (drop n block)) begins

  pub appends_found : (block : ℕ) (bytes : List ℕ) → FindsPart shown changes ino part (found.Block block) → ((blocks : ℕ → List ℕ) → IsPart shown blocks → over blocks (changed changes) block ≡ bytes)
      → (result : Walked) → Appends before bytes from to after result → CopiesPart shown changes ino part place some before after result
  appends_found block bytes finds reads walked.Done appends = copied_found shown changes ino part place some fits before after block bytes appends.1 appends.2 finds reads (appended bytes appends.0)
  appends_found block bytes finds reads (walked.Need need) appends = absurd appends
  appends_found block bytes finds reads walked.NoMemory appends = tt

  pub appends_hole : FindsPart shown changes ino part found.Hole → (block : List ℕ) → block ≡ zeros → (result : Walked) → Appends before block from to after result → CopiesPart shown changes ino part place some before after result
  appends_hole finds block is walked.Done appends = copied_hole shown changes ino part place some fits before after finds (appended zeros (appends.0 ∙ ap (λ b. before ++ take (to - from) (drop from b)) is))
  appends_hole finds block is (walked.Need need) appends = absurd appends
  appends_hole finds block is walked.NoMemory appends = tt

pub zeros_is : replicate {A = ℕ} 512 0 ≡ zeros
unfolding zeros
zeros_is = refl
