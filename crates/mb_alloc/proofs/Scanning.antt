-- The i-list scanned: the free numbers below one, as words that are written from the end of a list.
use Rattle.std.proofs.Common.{ℕ, zero, suc, ◌≡◌, ◌≢◌, ◌⊎◌, inl, inr, ◌+◌, ◌-◌, ◌*◌, ◌<◌, ◌≤◌, Bool, true, false, cond, nat_lt, nat_eq, ◌&&◌, Option, Some, None, List, [], ◌∷◌, ◌++◌, length, take, drop, get_or, All, refl, sym, ap, subst, ◌∙◌, arith}
use Rattle.std.specs.Option.{option_or}
use Rattle.std.proofs.lemmas.Bool.{cases_eq}
use Rattle.std.proofs.lemmas.Bool.Decides.{nat_tests}
use Rattle.std.proofs.lemmas.List.{append-nil, length-append, take_all, take-append-le, get_or-take, get_or-drop}
use Rattle.std.proofs.lemmas.List.Elements.{All-nil, All-cons, All-take, All-head, All-append}
use Rattle.mb_word.specs.Fields.{isize_of, ninode_of, cached_of, inode_block, inode_place, mode_of}
use Rattle.mb_word.specs.Numbers.{word_at, put_at, word_bytes, SameFrom}
use Rattle.mb_word.proofs.Writes.{put_at_same, put_at_in, length-put_at}
use Rattle.mb_word.proofs.Values.{word_back, word_at-same, length-word_bytes}
use Rattle.mb_layout.proofs.Steps.{word_alike}
use Rattle.mb_tree.specs.Views.{over, IsPart}
use Rattle.mb_tree.specs.Volume.{last_inode}
use Rattle.mb_kinds.specs.Changed.{ChangeList, changed, put_block}
use Rattle.mb_iface.proofs.ChangedBlocks.{put_block_same, put_block_other}
use Rattle.mb_blocks.specs.Rules.{KeepsRules}
use Rattle.mb_alloc.specs.Numbers.{is_free_number, cached_below, cached_in, free_below, free_numbers, pick_from, pick_of, IsCacheSet, Picks, PicksCached}
use Rattle.mb_alloc.specs.Scanning.{words_back, PicksListed}
use Rattle.mb_alloc.specs.Worked.{NoneFree, PickWorked}
use Rattle.mb_alloc.specs.declared.picks.Picked.{Picked}
use Rattle.mb_alloc.specs.declared.picks.Picked.TheVariants as picked

-- ---- the words at the end of a list

length-words_back : (list : List ℕ) (from n : ℕ) → length (words_back list from n) ≡ n
length-words_back list from zero = refl
length-words_back list from (suc n) = ap suc (length-words_back list (suc from) n)

-- one word more, before the others
words_more : (list : List ℕ) (from n : ℕ) → words_back list from (suc n) ≡ words_back list from n ++ word_at list (198 - 2 * (from + n)) ∷ []
words_more list from zero = ap (λ k. word_at list k ∷ []) (omega arith)
words_more list from (suc n) = ap (λ l. word_at list (198 - 2 * from) ∷ l) (words_more list (suc from) n ∙ ap (λ k. words_back list (suc from) n ++ word_at list k ∷ []) (omega arith))

words_same : (a b : List ℕ) (from n : ℕ) → ((k : ℕ) → from ≤ k → k < from + n → word_at a (198 - 2 * k) ≡ word_at b (198 - 2 * k)) → words_back a from n ≡ words_back b from n
words_same a b from zero same = refl
words_same a b from (suc n) same =
    ap (λ w. w ∷ words_back a (suc from) n) (same from (omega arith) (omega arith))
    ∙ ap (λ l. word_at b (198 - 2 * from) ∷ l) (words_same a b (suc from) n (λ k lo hi. same k (omega (arith, lo)) (omega (arith, hi))))

-- a word written before the others
word_put : (list now : List ℕ) (count ino : ℕ) → length list ≡ 200 → count < 100 → ino < 65536 → now ≡ put_at list (198 - 2 * count) (word_bytes ino)
    → words_back now 0 (count + 1) ≡ words_back list 0 count ++ ino ∷ []
word_put list now count ino long few small wrote =
    let w = length-word_bytes ino in
    let fits : 198 - 2 * count + length (word_bytes ino) ≤ length list = omega (arith, long, w, few) in
    let here : 198 - 2 * (0 + count) ≡ 198 - 2 * count = omega arith in
    let next : count + 1 ≡ suc count = omega arith in
    let last : word_at now (198 - 2 * (0 + count)) ≡ ino = ap (word_at now) here ∙ ap (λ b. word_at b (198 - 2 * count)) wrote ∙ word_back list (198 - 2 * count) ino (omega (arith, long, few)) small in
    let others : words_back now 0 count ≡ words_back list 0 count = words_same now list 0 count (λ k lo hi.
    ap (λ b. word_at b (198 - 2 * k)) wrote
    ∙ word_at-same (put_at list (198 - 2 * count) (word_bytes ino)) list (198 - 2 * k) (put_at_same list (198 - 2 * count) (word_bytes ino) (198 - 2 * k) 2 fits (inr (omega (arith, w, hi, few))))) in
    ap (words_back now 0) next ∙ words_more now 0 count ∙ ap (λ x. words_back now 0 count ++ x ∷ []) last ∙ ap (λ l. l ++ ino ∷ []) others

-- ---- free numbers

free_grown : (blocks : ℕ → List ℕ) (m n : ℕ) → m ≤ n → length (free_below blocks m) ≤ length (free_below blocks n)
free_grown blocks m zero low = (let z : m ≡ 0 = omega (arith, low) in subst (λ k. length (free_below blocks k) ≤ 0) (sym z) (omega arith))
free_grown blocks m (suc n) low = elim (cases_eq m (suc n)) [
  | inl e ↦ subst (λ k. length (free_below blocks k) ≤ length (free_below blocks (suc n))) (sym e) (omega arith)
  | inr apart ↦
      let before = free_grown blocks m n (omega (arith, low, apart)) in
      let l = length-append (free_below blocks n) (cond (is_free_number blocks n) (n ∷ []) []) in
      omega (arith, before, l)
]

-- the first hundred are there once a hundred are
free_prefix : (blocks : ℕ → List ℕ) (m n : ℕ) → m ≤ n → length (free_below blocks m) ≡ 100 → take 100 (free_below blocks n) ≡ free_below blocks m
free_prefix blocks m zero low full =
    let z : m ≡ 0 = omega (arith, low) in
    subst (λ k. take 100 (free_below blocks 0) ≡ free_below blocks k) (sym z) refl
free_prefix blocks m (suc n) low full = elim (cases_eq m (suc n)) [
  | inl e ↦ subst (λ k. take 100 (free_below blocks k) ≡ free_below blocks m) e (take_all 100 (free_below blocks m) (omega (arith, full)))
  | inr apart ↦
      let more = free_grown blocks m n (omega (arith, low, apart)) in
      take-append-le 100 (free_below blocks n) (cond (is_free_number blocks n) (n ∷ []) []) (omega (arith, more, full)) ∙ free_prefix blocks m n (omega (arith, low, apart)) full
]

pub all_free : (blocks : ℕ → List ℕ) (n : ℕ) → All (λ k. is_free_number blocks k ≡ true) (free_below blocks n)
all_free blocks zero = All-nil (λ k. is_free_number blocks k ≡ true)
all_free blocks (suc n) = All-append (λ k. is_free_number blocks k ≡ true) (free_below blocks n) (cond (is_free_number blocks n) (n ∷ []) []) (all_free blocks n) (one (is_free_number blocks n) refl)
  where
    one : (b : Bool) → is_free_number blocks n ≡ b → All (λ k. is_free_number blocks k ≡ true) (cond b (n ∷ []) [])
    one true e = All-cons (λ k. is_free_number blocks k ≡ true) n [] e (All-nil (λ k. is_free_number blocks k ≡ true))
    one false e = All-nil (λ k. is_free_number blocks k ≡ true)

none_below : (blocks : ℕ → List ℕ) (n k : ℕ) → k < n → free_below blocks n ≡ [] → is_free_number blocks k ≡ false
none_below blocks zero k low none = absurd (omega (arith, low))
none_below blocks (suc n) k low none =
    let l = length-append (free_below blocks n) (cond (is_free_number blocks n) (n ∷ []) []) in
    let z : length (free_below blocks n) + length (cond (is_free_number blocks n) (n ∷ []) []) ≡ 0 = sym l ∙ ap length none in
    elim (cases_eq k n) [
      | inl e ↦ subst (λ x. is_free_number blocks x ≡ false) (sym e) (here (is_free_number blocks n) refl (omega (arith, z)))
      | inr apart ↦ none_below blocks n k (omega (arith, low, apart)) (empty (free_below blocks n) (omega (arith, z)))
    ]
  where
    here : (b : Bool) → is_free_number blocks n ≡ b → length (cond b (n ∷ []) []) ≡ 0 → is_free_number blocks n ≡ false
    here true e none = absurd (omega (arith, none))
    here false e none = e

    empty : (l : List ℕ) → length l ≡ 0 → l ≡ []
    empty [] e = refl
    empty (x ∷ xs) e = absurd (omega (arith, e))

and_false : (a b c : Bool) → b ≡ false → (a && (b && c)) ≡ false
and_false true b c e = ap (λ x. x && c) e
and_false false b c e = refl

-- past the last number none is free
none_past : (blocks : ℕ → List ℕ) (k : ℕ) → last_inode blocks < k → is_free_number blocks k ≡ false
none_past blocks k far =
    let t : nat_lt (inode_block k) (isize_of (blocks 1)) ≡ false = (let past : isize_of (blocks 1) ≤ inode_block k = omega (arith, far) in grind (arith, nat_tests)) in
    and_false (nat_lt 2 k) (nat_lt (inode_block k) (isize_of (blocks 1))) (nat_eq (mode_of (blocks (inode_block k)) (inode_place k)) 0) t

pub none_free : (blocks : ℕ → List ℕ) → free_numbers blocks ≡ [] → (k : ℕ) → is_free_number blocks k ≡ false
none_free blocks none k = elim (cases_eq (k - last_inode blocks) 0) [
  | inl low ↦ none_below blocks (last_inode blocks + 1) k (omega (arith, low)) (untaken (free_below blocks (last_inode blocks + 1)) none)
  | inr far ↦ none_past blocks k (omega (arith, far))
]
  where
    untaken : (l : List ℕ) → take 100 l ≡ [] → l ≡ []
    untaken [] e = refl
    untaken (x ∷ xs) e = cc

pub first_free : (blocks : ℕ → List ℕ) (ino : ℕ) (rest : List ℕ) → free_numbers blocks ≡ ino ∷ rest → is_free_number blocks ino ≡ true
first_free blocks ino rest is =
    All-head (λ k. is_free_number blocks k ≡ true) ino rest
    (subst (All (λ k. is_free_number blocks k ≡ true)) is (All-take (λ k. is_free_number blocks k ≡ true) 100 (free_below blocks (last_inode blocks + 1)) (all_free blocks (last_inode blocks + 1))))

-- ---- the scan of the code

pub record HasScanned (shown : ℕ → Option (List ℕ)) (changes : ChangeList) (size : ℕ) (list : List ℕ) (count ino : ℕ) : Type 0 where
  pub few : count ≤ 100
  pub long : length list ≡ 200
  pub found : (blocks : ℕ → List ℕ) → IsPart shown blocks → size ≡ isize_of (over blocks (changed changes) 1) → words_back list 0 count ≡ free_below (over blocks (changed changes)) ino

module _ (shown : ℕ → Option (List ℕ)) (changes : ChangeList) (size : ℕ) where
  pub scanned_free : (list now : List ℕ) (count ino : ℕ) → count < 100 → ino < 65536 → now ≡ put_at list (198 - 2 * count) (word_bytes ino)
      → ((blocks : ℕ → List ℕ) → IsPart shown blocks → size ≡ isize_of (over blocks (changed changes) 1) → is_free_number (over blocks (changed changes)) ino ≡ true)
      → HasScanned shown changes size list count ino → HasScanned shown changes size now (count + 1) (ino + 1)
  scanned_free list now count ino low small wrote free was = record {
    few = omega (arith, low);
    long = (let w = length-word_bytes ino in let l = was.long in ap length wrote ∙ length-put_at list (198 - 2 * count) (word_bytes ino) (omega (arith, l, w, low)) ∙ l);
    found = λ blocks part is.
        (let b = over blocks (changed changes) in
        let next : ino + 1 ≡ suc ino = omega arith in
        word_put list now count ino was.long low small wrote ∙ ap (λ l. l ++ ino ∷ []) (was.found blocks part is)
        ∙ sym (ap (free_below b) next ∙ ap (λ t. free_below b ino ++ cond t (ino ∷ []) []) (free blocks part is)));
  }

  pub scanned_used : (list : List ℕ) (count ino : ℕ)
      → ((blocks : ℕ → List ℕ) → IsPart shown blocks → size ≡ isize_of (over blocks (changed changes) 1) → is_free_number (over blocks (changed changes)) ino ≡ false)
      → HasScanned shown changes size list count ino → HasScanned shown changes size list count (ino + 1)
  scanned_used list count ino used was = record {
    few = was.few;
    long = was.long;
    found = λ blocks part is.
        (let b = over blocks (changed changes) in
        let next : ino + 1 ≡ suc ino = omega arith in
        was.found blocks part is ∙ sym (ap (free_below b) next ∙ ap (λ t. free_below b ino ++ cond t (ino ∷ []) []) (used blocks part is) ∙ append-nil (free_below b ino)));
  }

  -- numbers in use, one after another
  pub scanned_run : (list : List ℕ) (count ino n : ℕ)
      → ((next : ℕ) → next < n → (blocks : ℕ → List ℕ) → IsPart shown blocks → size ≡ isize_of (over blocks (changed changes) 1) → is_free_number (over blocks (changed changes)) (ino + next) ≡ false)
      → HasScanned shown changes size list count ino → HasScanned shown changes size list count (ino + n)
  scanned_run list count ino zero used was = subst (HasScanned shown changes size list count) (omega arith) was
  scanned_run list count ino (suc n) used was =
      let so_far = scanned_run list count ino n (λ next less. used next (omega (arith, less))) was in
      subst (HasScanned shown changes size list count) (omega arith) (scanned_used list count (ino + n) (used n (omega arith)) so_far)

  -- a hundred numbers are found, or all
  pub scanned_all : (list : List ℕ) (count ino : ℕ) → 3 ≤ size → ((count ≡ 100) × (ino ≤ 8 * (size - 2) + 1)) ⊎ (ino ≡ 8 * (size - 2) + 1) → HasScanned shown changes size list count ino
      → (blocks : ℕ → List ℕ) → IsPart shown blocks → size ≡ isize_of (over blocks (changed changes) 1) → words_back list 0 count ≡ free_numbers (over blocks (changed changes))
  scanned_all list count ino wide (inl full) was blocks part is =
      let b = over blocks (changed changes) in
      let l : length (free_below b ino) ≡ 100 = sym (ap length (was.found blocks part is)) ∙ length-words_back list 0 count ∙ full.0 in
      was.found blocks part is ∙ sym (free_prefix b ino (last_inode b + 1) (omega (arith, is, full.1)) l)
  scanned_all list count ino wide (inr end) was blocks part is =
      let b = over blocks (changed changes) in
      let few = was.few in
      let l : length (free_below b ino) ≡ count = sym (ap length (was.found blocks part is)) ∙ length-words_back list 0 count in
      let last : last_inode b + 1 ≡ ino = omega (arith, is, end) in
      was.found blocks part is ∙ sym (ap (λ n. take 100 (free_below b n)) last ∙ take_all 100 (free_below b ino) (omega (arith, l, few)))

-- ---- the cache that it makes

-- the list without its last word is the cache
cached_back : (b list : List ℕ) (count n : ℕ) → n < count → count ≤ 100 → ((k : ℕ) → k < n → cached_of b k ≡ word_at list (200 - 2 * count + 2 * k)) → cached_below b n ≡ words_back list (count - n) n
cached_back b list count zero low few same = refl
cached_back b list count (suc n) low few same =
    ap (λ w. w ∷ cached_below b n) (same n (omega arith) ∙ ap (word_at list) (omega (arith, low, few)))
    ∙ ap (λ l. word_at list (198 - 2 * (count - suc n)) ∷ l) (cached_back b list count n (omega (arith, low)) few (λ k below. same k (omega (arith, below))) ∙ ap (λ m. words_back list m n) (omega (arith, low)))

pub cache_made : (old new : ℕ → List ℕ) (list bytes low : List ℕ) (count : ℕ) → KeepsRules old → length list ≡ 200 → count ≢ 0 → count ≤ 100
    → bytes ≡ take (198 - (200 - 2 * count)) (drop (200 - 2 * count) list) → length bytes ≡ 198 - (200 - 2 * count) → low ≡ (count - 1) ∷ 0 ∷ []
    → new ≡ put_block old 1 (put_at (put_at (old 1) 210 bytes) 208 low) → IsCacheSet old new (words_back list 1 (count - 1))
unfolding word_at
cache_made old new list bytes low count keeps full some few is size e wrote =
    let long = keeps.sized 1 in
    let two : length low ≡ 2 = ap length e in
    let s1 : length (put_at (old 1) 210 bytes) ≡ 512 = length-put_at (old 1) 210 bytes (omega (arith, long, size, few)) ∙ long in
    let first : new 1 ≡ put_at (put_at (old 1) 210 bytes) 208 low = ap (λ f. f 1) wrote ∙ put_block_same old 1 (put_at (put_at (old 1) 210 bytes) 208 low) in
    let off_low : (from n : ℕ) → (from + n ≤ 208) ⊎ (210 ≤ from) → SameFrom (new 1) (put_at (old 1) 210 bytes) from n = λ from n away k lo hi.
    ap (λ b. get_or b k 0) first ∙ put_at_same (put_at (old 1) 210 bytes) 208 low from n (omega (arith, s1, two)) (elim away [ inl a ↦ inl a | inr a ↦ inr (omega (arith, a, two)) ]) k lo hi in
    let off : (from n : ℕ) → (from + n ≤ 208) ⊎ (410 ≤ from) → SameFrom (new 1) (old 1) from n = λ from n away k lo hi.
    off_low from n (elim away [ inl a ↦ inl a | inr a ↦ inr (omega (arith, a)) ]) k lo hi
    ∙ put_at_same (old 1) 210 bytes from n (omega (arith, long, size, few)) (elim away [ inl a ↦ inl (omega (arith, a)) | inr a ↦ inr (omega (arith, a, size, few)) ]) k lo hi in
    let counted : ninode_of (new 1) ≡ count - 1 =
    ap (λ b. word_at b 208) first ∙ word_alike (put_at (put_at (old 1) 210 bytes) 208 low) low 208 0 (λ k below. put_at_in (put_at (old 1) 210 bytes) 208 low k (omega (arith, s1, two)) (omega (arith, below, two)) ∙ ap (λ x. get_or low x 0) (let z : k ≡ 0 + k = omega arith in z))
    ∙ ap (λ b. word_at b 0) e ∙ omega arith in
    let each : (k : ℕ) → k < count - 1 → cached_of (new 1) k ≡ word_at list (200 - 2 * count + 2 * k) = λ k below.
    word_at-same (new 1) (put_at (old 1) 210 bytes) (210 + 2 * k) (off_low (210 + 2 * k) 2 (inr (omega arith)))
    ∙ word_alike (put_at (old 1) 210 bytes) list (210 + 2 * k) (200 - 2 * count + 2 * k) (λ j under.
    ap (λ x. get_or (put_at (old 1) 210 bytes) x 0) (omega arith)
    ∙ put_at_in (old 1) 210 bytes (2 * k + j) (omega (arith, long, size, few)) (omega (arith, size, below, under, few))
    ∙ ap (λ b. get_or b (2 * k + j) 0) is ∙ get_or-take (198 - (200 - 2 * count)) (drop (200 - 2 * count) list) (2 * k + j) 0 (omega (arith, below, under, few))
    ∙ get_or-drop (200 - 2 * count) list (2 * k + j) 0 ∙ ap (λ x. get_or list x 0) (omega arith)) in
    record {
      list = ap (cached_below (new 1)) counted ∙ cached_back (new 1) list count (count - 1) (omega (arith, some)) few each ∙ ap (λ m. words_back list m (count - 1)) (omega (arith, some));
      sized = ap length first ∙ length-put_at (put_at (old 1) 210 bytes) 208 low (omega (arith, s1, two)) ∙ s1;
      front = off 0 208 (inl (omega arith));
      back = off 410 102 (inr (omega arith));
      others = λ other apart. ap (λ f. f other) wrote ∙ put_block_other old 1 (put_at (put_at (old 1) 210 bytes) 208 low) other apart;
    }

-- the first word and the others
pub words_first : (list : List ℕ) (count : ℕ) → count ≢ 0 → words_back list 0 count ≡ word_at list 198 ∷ words_back list 1 (count - 1)
words_first list count some = (let e : count ≡ suc (count - 1) = omega (arith, some) in ap (words_back list 0) e)

-- ---- the pick

pub picked_listed : (blocks : ℕ → List ℕ) (ino : ℕ) (rest : List ℕ) → pick_from (is_free_number blocks) (cached_in blocks) ≡ None → free_numbers blocks ≡ ino ∷ rest → pick_of blocks ≡ Some (ino, rest)
picked_listed blocks ino rest none is =
    ap (λ o. option_or o (pick_from (is_free_number blocks) (free_numbers blocks))) none
    ∙ ap (pick_from (is_free_number blocks)) is
    ∙ ap (λ b. cond b (Some (ino, rest)) (pick_from (is_free_number blocks) rest)) (first_free blocks ino rest is)

-- where no cached number is free, what is listed is picked
pub picks_rest : (shown : ℕ → Option (List ℕ)) (old mid new : ChangeList) (result : Picked) → PicksCached shown old mid picked.NoneLeft → PicksListed shown mid new result → Picks shown old new result
picks_rest shown old mid new (picked.Ino ino) none listed =
    (let l = subst (λ m. PicksListed shown m new (picked.Ino ino)) none.0 listed in
    (l.0, λ blocks part keeps. (let rest = l.1 blocks part keeps in (rest.0, picked_listed (over blocks (changed old)) ino rest.0 (none.1 blocks part keeps) rest.1, rest.2))))
picks_rest shown old mid new picked.NoneLeft none listed =
    (let l = subst (λ m. PicksListed shown m new picked.NoneLeft) none.0 listed in (l.0, λ blocks part keeps. none_free (over blocks (changed old)) (l.1 blocks part keeps)))
picks_rest shown old mid new (picked.Need need) none listed = subst (λ m. PicksListed shown m new (picked.Need need)) none.0 listed
picks_rest shown old mid new picked.NoMemory none listed = listed ∙ none.0

-- no number is picked exactly where none is free
pick_none : (free : ℕ → Bool) (xs : List ℕ) → ((k : ℕ) → free k ≡ false) → pick_from free xs ≡ None
pick_none free [] none = refl
pick_none free (x ∷ xs) none = ap (λ b. cond b (Some (x, xs)) (pick_from free xs)) (none x) ∙ pick_none free xs none

either_none : (o p : Option (ℕ × List ℕ)) → option_or o p ≡ None → p ≡ None
either_none None p e = e
either_none (Some x) p e = cc

not_none : (pick : ℕ × List ℕ) (xs : List ℕ) → Some pick ≡ None → xs ≡ []
not_none pick xs e = cc

none_listed : (blocks : ℕ → List ℕ) (xs : List ℕ) → free_numbers blocks ≡ xs → pick_from (is_free_number blocks) xs ≡ None → xs ≡ []
none_listed blocks [] is none = refl
none_listed blocks (x ∷ xs) is none =
    let t = ap (λ b. cond b (Some (x, xs)) (pick_from (is_free_number blocks) xs)) (first_free blocks x xs is) in
    not_none (x, xs) (x ∷ xs) (sym t ∙ none)

pub none_picked : NoneFree
none_picked blocks = (
  λ none. none_free blocks (none_listed blocks (free_numbers blocks) refl (either_none (pick_from (is_free_number blocks) (cached_in blocks)) (pick_from (is_free_number blocks) (free_numbers blocks)) none)),
  λ none. ap (λ o. option_or o (pick_from (is_free_number blocks) (free_numbers blocks))) (pick_none (is_free_number blocks) (cached_in blocks) none)
      ∙ pick_none (is_free_number blocks) (free_numbers blocks) none,
)

pub worked : PickWorked
unfolding word_at
worked = record { cached = refl; last = refl; passed = refl; used_up = refl; listed = refl }
