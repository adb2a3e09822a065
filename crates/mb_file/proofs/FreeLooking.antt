-- The free chain followed without a change: each address that is passed is a block of the chain.
use Rattle.std.proofs.Common.{ℕ, suc, ◌≡◌, inl, inr, ◌+◌, ◌-◌, ◌*◌, ◌<◌, ◌≤◌, true, false, cond, nat_eq, Option, Some, List, [], ◌∷◌, refl, sym, ap, subst, ◌∙◌, arith}
use Rattle.std.specs.List.{Contains}
use Rattle.std.proofs.lemmas.Bool.Decides.{nat_tests}
use Rattle.mb_word.specs.Numbers.{word_at, long_at}
use Rattle.mb_tree.specs.Blocks.{first_list, list_in, IsFreeChain}
use Rattle.mb_tree.specs.Chain.{Listed, IsChain, after_taking}
use Rattle.mb_tree.specs.Views.{over, IsPart}
use Rattle.mb_kinds.specs.Changed.{ChangeList, changed}
use Rattle.mb_iface.specs.Needs.{IsNeed}
use Rattle.mb_iface.specs.declared.replies.Need.{Need}
use Rattle.mb_file.specs.Finding.{LacksFree}

-- what is left of the chain, whose first list has so many addresses left of those that stand in a block's bytes
pub record HasFollowed (now : ℕ → List ℕ) (chain bytes : List ℕ) (at left : ℕ) : Type 0 where
  pub rest : List ℕ
  pub within : (block : ℕ) → Contains rest block → Contains chain block
  pub list : Listed
  pub follows : IsChain (list_in now) list rest
  pub count : list.count ≡ left
  pub entry : (k : ℕ) → list.entry k ≡ long_at bytes (at + (2 + 4 * k))

module _ (now : ℕ → List ℕ) (chain : List ℕ) where
  pub follow_first : (bytes : List ℕ) → now 1 ≡ bytes → IsFreeChain now chain → HasFollowed now chain bytes 6 (word_at bytes 6)
  follow_first bytes read free = record {
    rest = chain;
    within = λ block among. among;
    list = first_list now;
    follows = free;
    count = ap (λ (b : List ℕ). word_at b 6) read;
    entry = λ k. ap (λ (b : List ℕ). long_at b (8 + 4 * k)) read ∙ ap (long_at bytes) (omega arith);
  }

  -- the next address is the chain's next block
  record HasNext (bytes : List ℕ) (at left block : ℕ) : Type 0 where
    pub among : Contains chain block
    pub list : Listed
    pub rest : List ℕ
    pub within : (other : ℕ) → Contains rest other → Contains chain other
    pub follows : IsChain (list_in now) (after_taking (list_in now) list block) rest
    pub count : list.count ≡ left
    pub entry : (k : ℕ) → list.entry k ≡ long_at bytes (at + (2 + 4 * k))

  next_of : (bytes : List ℕ) (at left block : ℕ) (list : Listed) (rest : List ℕ) → ((other : ℕ) → Contains rest other → Contains chain other) → IsChain (list_in now) list rest
      → list.count ≡ left → ((k : ℕ) → list.entry k ≡ long_at bytes (at + (2 + 4 * k))) → 0 < left → 0 < block → block ≡ list.entry (left - 1) → HasNext bytes at left block
  next_of bytes at left block list [] within (inl none) count entry some real is = absurd (omega (arith, none, count, some))
  next_of bytes at left block list [] within (inr last) count entry some real is =
      absurd (let e : list.entry (left - 1) ≡ list.entry 0 = ap list.entry (let c = last.0 in omega (arith, c, count)) in let z = last.1 in omega (arith, real, is, e, z))
  next_of bytes at left block list (x ∷ rest) within follows count entry some real is =
      let same : x ≡ block = sym follows.0.here ∙ ap (λ n. list.entry (n - 1)) count ∙ sym is in
      record {
        among = within block (subst (Contains (x ∷ rest)) same (0, omega arith, refl));
        list = list;
        rest = rest;
        within = λ other among. within other (suc among.0, (let low = among.1 in omega (arith, low)), among.2);
        follows = subst (λ b. IsChain (list_in now) (after_taking (list_in now) list b) rest) same follows.1;
        count = count;
        entry = entry;
      }

  module _ (bytes : List ℕ) (at left block : ℕ) (was : HasFollowed now chain bytes at left) (some : 0 < left) (real : 0 < block) (is : block ≡ long_at bytes (at + 4 * left - 2)) where
    next : HasNext bytes at left block
    next = next_of bytes at left block was.list was.rest was.within was.follows was.count was.entry some real
        (is ∙ ap (long_at bytes) (omega (arith, some)) ∙ sym (was.entry (left - 1)))

    pub follow_among : Contains chain block
    follow_among = next.among

    pub follow_same : 0 < left - 1 → HasFollowed now chain bytes at (left - 1)
    unfolding after_taking
    follow_same more =
        let it = next in
        let c = it.count in
        let t : nat_eq it.list.count 1 ≡ false = grind (arith, nat_tests) in
        record {
          rest = it.rest;
          within = it.within;
          list = record it.list { count = it.list.count - 1 };
          follows = subst (λ (l : Listed). IsChain (list_in now) l it.rest) (ap (λ b. cond b (list_in now block) (record it.list { count = it.list.count - 1 })) t) it.follows;
          count = omega (arith, c);
          entry = it.entry;
        }

    pub follow_next : left - 1 ≡ 0 → (found : List ℕ) → now block ≡ found → HasFollowed now chain found 0 (word_at found 0)
    unfolding after_taking
    follow_next none found read =
        let it = next in
        let c = it.count in
        let t : nat_eq it.list.count 1 ≡ true = grind (arith, nat_tests) in
        record {
          rest = it.rest;
          within = it.within;
          list = list_in now block;
          follows = subst (λ (l : Listed). IsChain (list_in now) l it.rest) (ap (λ b. cond b (list_in now block) (record it.list { count = it.list.count - 1 })) t) it.follows;
          count = ap (λ (b : List ℕ). word_at b 0) read;
          entry = λ k. ap (λ (b : List ℕ). long_at b (2 + 4 * k)) read ∙ ap (long_at found) (omega arith);
        }

-- whatever blocks the view is a part of, their chain was followed so far
abbrev pub IsFollowing : (ℕ → Option (List ℕ)) → ChangeList → List ℕ → ℕ → ℕ → Type 0
IsFollowing shown changes bytes at left = (blocks : ℕ → List ℕ) (chain : List ℕ) → IsPart shown blocks → IsFreeChain (over blocks (changed changes)) chain → HasFollowed (over blocks (changed changes)) chain bytes at left

module _ (shown : ℕ → Option (List ℕ)) (changes : ChangeList) (bytes : List ℕ) (at left block : ℕ) (was : IsFollowing shown changes bytes at left) (some : 0 < left) (real : 0 < block) (is : block ≡ long_at bytes (at + 4 * left - 2)) where
  pub asked_free : (need : Need) → IsNeed shown need → need.first ≡ block → LacksFree shown changes (Some need)
  asked_free need lacks begins = (
    lacks,
    λ blocks chain part free. inr (subst (Contains chain) (sym begins) (follow_among (over blocks (changed changes)) chain bytes at left block (was blocks chain part free) some real is)),
  )

  -- the next address stands in the same list, or in the one that the block holds
  pub followed_same : (now : List ℕ) (here more : ℕ) → now ≡ bytes → here ≡ at → more ≡ left - 1 → 0 < left - 1 → at ≤ 6 → (here ≤ 6) × IsFollowing shown changes now here more
  followed_same now here more e f m again low = rw (e, f, m) (low, λ blocks chain part free. follow_same (over blocks (changed changes)) chain bytes at left block (was blocks chain part free) some real is again)

  pub followed_next : (now found : List ℕ) (here more : ℕ) → now ≡ found → here ≡ 0 → more ≡ word_at found 0 → left - 1 ≡ 0 → ((blocks : ℕ → List ℕ) → IsPart shown blocks → over blocks (changed changes) block ≡ found)
      → (here ≤ 6) × IsFollowing shown changes now here more
  followed_next now found here more e f m last read = rw (e, f, m)
      (omega arith, λ blocks chain part free. follow_next (over blocks (changed changes)) chain bytes at left block (was blocks chain part free) some real is last found (read blocks part))
