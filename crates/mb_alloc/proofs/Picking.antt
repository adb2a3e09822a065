-- Numbers looked at from the end of the cache.
use Rattle.std.proofs.Common.{ℕ, zero, suc, ◌≡◌, ◌⊎◌, inl, inr, ◌+◌, ◌-◌, ◌*◌, ◌%◌, ◌<◌, ◌≤◌, Bool, true, false, cond, Option, Some, List, [], ◌∷◌, length, get_or, refl, sym, ap, ◌∙◌, arith}
use Rattle.mb_word.specs.Fields.{ninode_of, cached_of}
use Rattle.mb_word.specs.Numbers.{word_at, put_at, word_bytes, SameFrom}
use Rattle.mb_word.proofs.Writes.{put_at_same, length-put_at}
use Rattle.mb_word.proofs.Values.{word_back, word_at-same}
use Rattle.mb_tree.specs.Views.{over, IsPart}
use Rattle.mb_kinds.specs.Changed.{ChangeList, changed, put_block}
use Rattle.mb_iface.proofs.ChangedBlocks.{put_block_same, put_block_other}
use Rattle.mb_blocks.specs.Rules.{KeepsRules}
use Rattle.mb_alloc.specs.Numbers.{is_free_number, cached_below, cached_in, pick_from, IsCacheSet}

-- the numbers behind a place have been passed over
pub record HasPassed (shown : ℕ → Option (List ℕ)) (changes : ChangeList) (bytes : List ℕ) (count passed : ℕ) : Type 0 where
  pub same : (blocks : ℕ → List ℕ) → IsPart shown blocks
      → pick_from (is_free_number (over blocks (changed changes))) (cached_below bytes count) ≡ pick_from (is_free_number (over blocks (changed changes))) (cached_below bytes (count - passed))

pub one_more : (blocks : ℕ → List ℕ) (bytes : List ℕ) (left ino : ℕ) (is : Bool) → ino ≡ cached_of bytes left → is_free_number blocks ino ≡ is
    → pick_from (is_free_number blocks) (cached_below bytes (suc left)) ≡ cond is (Some (ino, cached_below bytes left)) (pick_from (is_free_number blocks) (cached_below bytes left))
one_more blocks bytes left ino is reads told =
    ap (λ n. cond (is_free_number blocks n) (Some (n, cached_below bytes left)) (pick_from (is_free_number blocks) (cached_below bytes left))) (sym reads)
    ∙ ap (λ b. cond b (Some (ino, cached_below bytes left)) (pick_from (is_free_number blocks) (cached_below bytes left))) told

pub passed_more : (shown : ℕ → Option (List ℕ)) (changes : ChangeList) (bytes : List ℕ) (count passed left ino : ℕ) → passed < count → left ≡ count - 1 - passed → ino ≡ cached_of bytes left
    → ((blocks : ℕ → List ℕ) → IsPart shown blocks → is_free_number (over blocks (changed changes)) ino ≡ false) → HasPassed shown changes bytes count passed → HasPassed shown changes bytes count (passed + 1)
passed_more shown changes bytes count passed left ino low here reads used was = record {
  same = λ blocks part.
      (let a : count - passed ≡ suc left = omega (arith, low, here) in
      let b : left ≡ count - (passed + 1) = omega (arith, low, here) in
      was.same blocks part ∙ ap (λ n. pick_from (is_free_number (over blocks (changed changes))) (cached_below bytes n)) a
      ∙ one_more (over blocks (changed changes)) bytes left ino false reads (used blocks part) ∙ ap (λ n. pick_from (is_free_number (over blocks (changed changes))) (cached_below bytes n)) b);
}

pub cached_same : (a b : List ℕ) (n : ℕ) → ((k : ℕ) → k < n → cached_of a k ≡ cached_of b k) → cached_below a n ≡ cached_below b n
cached_same a b zero same = refl
cached_same a b (suc n) same = ap (λ x. x ∷ cached_below a n) (same n (omega arith)) ∙ ap (λ l. cached_of b n ∷ l) (cached_same a b n (λ k low. same k (omega (arith, low))))

-- the cache is cut at the picked number
pub cache_cut : (old new : ℕ → List ℕ) (left : ℕ) (low : List ℕ) → KeepsRules old → left < 100 → low ≡ left ∷ 0 ∷ [] → new ≡ put_block old 1 (put_at (old 1) 208 low) → IsCacheSet old new (cached_below (old 1) left)
unfolding word_bytes
cache_cut old new left low keeps few bytes wrote =
    let long = keeps.sized 1 in
    let two : length low ≡ 2 = ap length bytes in
    let e : low ≡ word_bytes left = bytes ∙ ap (λ x. x ∷ 0 ∷ []) (omega (arith, few)) ∙ ap (λ h. left % 256 ∷ h ∷ []) (omega (arith, few)) in
    let first : new 1 ≡ put_at (old 1) 208 low = ap (λ f. f 1) wrote ∙ put_block_same old 1 (put_at (old 1) 208 low) in
    let off : (from n : ℕ) → (from + n ≤ 208) ⊎ (210 ≤ from) → SameFrom (new 1) (old 1) from n = λ from n away k lo hi.
    ap (λ b. get_or b k 0) first ∙ put_at_same (old 1) 208 low from n (omega (arith, long, two)) (elim away [ inl a ↦ inl a | inr a ↦ inr (omega (arith, a, two)) ]) k lo hi in
    let count : ninode_of (new 1) ≡ left = ap (λ b. word_at b 208) (first ∙ ap (put_at (old 1) 208) e) ∙ word_back (old 1) 208 left (omega (arith, long)) (omega (arith, few)) in
    record {
      list = ap (cached_below (new 1)) count ∙ cached_same (new 1) (old 1) left (λ k below. word_at-same (new 1) (old 1) (210 + 2 * k) (off (210 + 2 * k) 2 (inr (omega arith))));
      sized = ap length first ∙ length-put_at (old 1) 208 low (omega (arith, long, two)) ∙ long;
      front = off 0 208 (inl (omega arith));
      back = off 410 102 (inr (omega arith));
      others = λ other apart. ap (λ f. f other) wrote ∙ put_block_other old 1 (put_at (old 1) 208 low) other apart;
    }

pub picked_now : (shown : ℕ → Option (List ℕ)) (changes : ChangeList) (bytes : List ℕ) (count passed left ino : ℕ) (blocks : ℕ → List ℕ) → IsPart shown blocks → over blocks (changed changes) 1 ≡ bytes → count ≡ word_at bytes 208
    → passed < count → left ≡ count - 1 - passed → ino ≡ cached_of bytes left → is_free_number (over blocks (changed changes)) ino ≡ true → HasPassed shown changes bytes count passed
    → pick_from (is_free_number (over blocks (changed changes))) (cached_in (over blocks (changed changes))) ≡ Some (ino, cached_below (over blocks (changed changes) 1) left)
picked_now shown changes bytes count passed left ino blocks part found counted low here reads free was =
    let a : count - passed ≡ suc left = omega (arith, low, here) in
    ap (λ b. pick_from (is_free_number (over blocks (changed changes))) (cached_below b (ninode_of b))) found
    ∙ ap (λ n. pick_from (is_free_number (over blocks (changed changes))) (cached_below bytes n)) (sym counted)
    ∙ was.same blocks part ∙ ap (λ n. pick_from (is_free_number (over blocks (changed changes))) (cached_below bytes n)) a
    ∙ one_more (over blocks (changed changes)) bytes left ino true reads free ∙ ap (λ b. Some (ino, cached_below b left)) (sym found)
