-- Blocks put back on the free chain one after another.
use Rattle.std.proofs.Common.{ℕ, zero, suc, ◌≡◌, inl, inr, ◌+◌, ◌<◌, ◌≤◌, Bool, true, false, cond, nat_eq, Option, Some, None, IsSome, List, [], ◌∷◌, ◌++◌, length, take, drop, get_or, replicate, refl, sym, ap, subst, ◌∙◌, arith, drop-cons, take-suc}
use Rattle.std.specs.Prelude.{MatchOption}
use Rattle.std.proofs.lemmas.Bool.{cases_eq}
use Rattle.std.proofs.lemmas.Bool.Decides.{nat_tests}
use Rattle.std.specs.Option.{option_or}
use Rattle.std.proofs.lemmas.List.Elements.{All-head}
use mathlib.Core.Path.{fun_ext}
use Rattle.mb_word.specs.Fields.{nfree_of, ninode_of}
use Rattle.mb_word.specs.Numbers.{put_at}
use Rattle.mb_word.proofs.Values.{word_at-same}
use Rattle.mb_tree.specs.Views.{over, IsPart}
use Rattle.mb_tree.specs.Volume.{IsOpenToFiles}
use Rattle.mb_blocks.specs.FreeLists.{AreFreed, IsFreed}
use Rattle.mb_blocks.specs.Rules.{KeepsRules}
use Rattle.mb_blocks.proofs.Freeing.{laid_freed}
use Rattle.mb_blocks.proofs.Keeping.{sizes_same}
use Rattle.mb_blocks.proofs.LaidRules.{laid_rules}
use Rattle.mb_kinds.specs.Changed.{ChangeList, changed, put_block, shown_over, IsWithinView}
use Rattle.mb_iface.proofs.ChangedBlocks.{over_put, put_block_same, put_block_other}
use Rattle.mb_iface.proofs.WithinViews.{found_within, within_put}
use Rattle.mb_alloc.specs.declared.frees.Hung.TheVariants as hung
use Rattle.mb_alloc.proofs.Takings.{too_many}
use Rattle.mb_file.specs.Freeing.{AreInHand, HangsOne, HangsEach, MovesList, PutsBack, PutsAllBack}

-- one block more put back behind others
freed_more : (old mid new : ℕ → List ℕ) (xs : List ℕ) (block : ℕ) → AreFreed old mid xs → IsFreed mid new block → AreFreed old new (xs ++ block ∷ [])
freed_more old mid new [] block none freed = (new, subst (λ (x : ℕ → List ℕ). IsFreed x new block) none freed, refl)
freed_more old mid new (x ∷ xs) block (between, first, more) freed = (between, first, freed_more between mid new xs block more freed)

pub hand_rules : (has : ℕ → Bool) (blocks : ℕ → List ℕ) (hand chain : List ℕ) → AreInHand has blocks hand chain → KeepsRules blocks
hand_rules has blocks hand chain are = laid_rules has blocks hand chain are.laid are.few_inodes are.few_blocks are.cached

-- a block in hand is one that files may have
hand_open : (has : ℕ → Bool) (blocks : ℕ → List ℕ) (block : ℕ) (hand chain : List ℕ) → AreInHand has blocks (block ∷ hand) chain → (1 < block) × (block < 262144)
hand_open has blocks block hand chain are =
    let open_to = All-head (IsOpenToFiles blocks) block (hand ++ chain) are.laid.spare.in_range in
    let from = open_to.from in
    let below = open_to.below in
    let wide = are.laid.wide in
    let few = are.few_blocks in
    (omega (arith, from, wide), omega (arith, below, few))

hand_freed : (has : ℕ → Bool) (old new : ℕ → List ℕ) (block : ℕ) (hand chain : List ℕ) → AreInHand has old (block ∷ hand) chain → IsFreed old new block → AreInHand has new hand (block ∷ chain)
hand_freed has old new block hand chain are freed =
    let same = sizes_same old new freed.front in
    let n : ninode_of (new 1) ≡ ninode_of (old 1) = word_at-same (new 1) (old 1) 208 (λ k low high. freed.back k low (omega (arith, high))) in
    let a = are.few_inodes in
    let b = are.few_blocks in
    let c = are.cached in
    record {
      laid = laid_freed has old new block hand chain are.laid freed;
      few_inodes = omega (arith, a, same.0);
      few_blocks = omega (arith, b, same.1);
      cached = omega (arith, c, n);
    }

-- ---- block 1 apart

put_itself : (blocks : ℕ → List ℕ) (block : ℕ) (bytes : List ℕ) → blocks block ≡ bytes → put_block blocks block bytes ≡ blocks
put_itself blocks block bytes is = fun_ext (λ other. elim (cases_eq other block) [
  | inl same ↦ ap (put_block blocks block bytes) same ∙ put_block_same blocks block bytes ∙ sym is ∙ ap blocks (sym same)
  | inr apart ↦ put_block_other blocks block bytes other apart
])

-- of two writes of one block the later counts, whatever is written between
put_between : (blocks : ℕ → List ℕ) (one : ℕ) (early : List ℕ) (block : ℕ) (held late : List ℕ) → put_block (put_block (put_block blocks one early) block held) one late ≡ put_block (put_block blocks block held) one late
put_between blocks one early block held late = fun_ext (λ other. elim (cases_eq other one) [
  | inl same ↦
      ap (put_block (put_block (put_block blocks one early) block held) one late) same ∙ put_block_same (put_block (put_block blocks one early) block held) one late
      ∙ sym (put_block_same (put_block blocks block held) one late) ∙ ap (put_block (put_block blocks block held) one late) (sym same)
  | inr apart ↦
      put_block_other (put_block (put_block blocks one early) block held) one late other apart
      ∙ elim (cases_eq other block) as (λ _. put_block (put_block blocks one early) block held other ≡ put_block blocks block held other) [
        | inl here ↦
            ap (put_block (put_block blocks one early) block held) here ∙ put_block_same (put_block blocks one early) block held
            ∙ sym (put_block_same blocks block held) ∙ ap (put_block blocks block held) (sym here)
        | inr off ↦ put_block_other (put_block blocks one early) block held other off ∙ put_block_other blocks one early other apart ∙ sym (put_block_other blocks block held other off)
      ]
      ∙ sym (put_block_other (put_block blocks block held) one late other apart)
])

put_twice : (blocks : ℕ → List ℕ) (one : ℕ) (early late : List ℕ) → put_block (put_block blocks one early) one late ≡ put_block blocks one late
put_twice blocks one early late = fun_ext (λ other. elim (cases_eq other one) [
  | inl same ↦
      ap (put_block (put_block blocks one early) one late) same ∙ put_block_same (put_block blocks one early) one late ∙ sym (put_block_same blocks one late)
      ∙ ap (put_block blocks one late) (sym same)
  | inr apart ↦ put_block_other (put_block blocks one early) one late other apart ∙ put_block_other blocks one early other apart ∙ sym (put_block_other blocks one late other apart)
])

either_twice : (b : Bool) (x y z : Option (List ℕ)) → cond b x (cond b y z) ≡ cond b x z
either_twice true x y z = refl
either_twice false x y z = refl

-- a block of a view is one under changes
shown_still : (c s : Option (List ℕ)) → IsSome s → IsSome (option_or c s)
shown_still None s some = some
shown_still (Some bytes) s some = refl

module _ (shown : ℕ → Option (List ℕ)) (old : ChangeList) (first after : List ℕ) (block : ℕ) where
  pub back_hung : HangsOne first after block → PutsBack shown old old first after block hung.Done
  back_hung hangs = (
    λ w. w,
    λ blocks part keeps real small.
        (let now = over blocks (changed old) in
        subst (λ (x : ℕ → List ℕ). IsFreed (put_block now 1 first) x block) (put_twice now 1 first after) (hangs (put_block now 1 first) (put_block_same now 1 first) keeps real small)),
  )

  pub back_moved : (new : ChangeList) (held : List ℕ) → MovesList first after held block → IsSome (shown block) → ((other : ℕ) → changed new other ≡ cond (nat_eq block other) (Some held) (changed old other))
      → ((blocks : ℕ → List ℕ) → over blocks (changed new) ≡ put_block (over blocks (changed old)) block held) → PutsBack shown old new first after block hung.Done
  back_moved new held moves there each wrote = (
    within_put shown old new block held each (shown_still (changed old block) (shown block) there),
    λ blocks part keeps real small.
        (let now = over blocks (changed old) in
        let is : put_block (put_block (put_block now 1 first) block held) 1 after ≡ put_block (over blocks (changed new)) 1 after =
        put_between now 1 first block held after ∙ ap (λ (b : ℕ → List ℕ). put_block b 1 after) (sym (wrote blocks)) in
        subst (λ (x : ℕ → List ℕ). IsFreed (put_block now 1 first) x block) is (moves (put_block now 1 first) (put_block_same now 1 first) keeps real small)),
  )

  -- the block written as zeros first, and the list over them
  pub back_patched : (mid new : ChangeList) (held bytes : List ℕ) → held ≡ put_at (replicate 512 0) 0 bytes → MovesList first after held block → IsSome (shown block)
      → ((other : ℕ) → changed mid other ≡ cond (nat_eq block other) (Some (replicate 512 0)) (changed old other))
      → MatchOption (changed mid block) (new ≡ mid) (λ was. (other : ℕ) → changed new other ≡ cond (nat_eq block other) (Some (put_at was 0 bytes)) (changed mid other))
      → PutsBack shown old new first after block hung.Done
  back_patched mid new held bytes is moves there zeros patched =
      let t : nat_eq block block ≡ true = grind (arith, nat_tests) in
      let here : changed mid block ≡ Some (replicate 512 0) = zeros block ∙ ap (λ b. cond b (Some (replicate 512 0)) (changed old block)) t in
      let over_zeros : (other : ℕ) → changed new other ≡ cond (nat_eq block other) (Some (put_at (replicate 512 0) 0 bytes)) (changed mid other) =
      subst (λ o. MatchOption o (new ≡ mid) (λ was. (other : ℕ) → changed new other ≡ cond (nat_eq block other) (Some (put_at was 0 bytes)) (changed mid other))) here patched in
      let each : (other : ℕ) → changed new other ≡ cond (nat_eq block other) (Some held) (changed old other) = (λ other.
      over_zeros other ∙ ap (λ x. cond (nat_eq block other) (Some x) (changed mid other)) (sym is) ∙ ap (cond (nat_eq block other) (Some held)) (zeros other)
      ∙ either_twice (nat_eq block other) (Some held) (Some (replicate 512 0)) (changed old other)) in
      back_moved new held moves there each (over_put old new block held each)

-- ---- some of them put back

pub record HasPut (has : ℕ → Bool) (old now : ℕ → List ℕ) (list : List ℕ) (count : ℕ) : Type 0 where
  pub left : List ℕ
  pub freed : AreFreed old now (take count list)
  pub hand : AreInHand has now (drop count list) left

-- with block 1 apart
pub record HasPutBack (shown : ℕ → Option (List ℕ)) (old now : ChangeList) (first list : List ℕ) (count : ℕ) : Type 0 where
  pub few : nfree_of first ≤ 50
  pub within : IsWithinView shown old → IsWithinView shown now
  pub put : (blocks : ℕ → List ℕ) (has : ℕ → Bool) (chain : List ℕ) → IsPart shown blocks → AreInHand has (over blocks (changed old)) list chain
      → HasPut has (over blocks (changed old)) (put_block (over blocks (changed now)) 1 first) list count

module _ (shown : ℕ → Option (List ℕ)) (old : ChangeList) (list : List ℕ) where
  -- no count of a volume is above 50
  pub put_never : (first : List ℕ) → ((blocks : ℕ → List ℕ) → IsPart shown blocks → over blocks (changed old) 1 ≡ first) → 50 < nfree_of first → PutsAllBack shown old old list hung.Done
  put_never first found many = (
    λ w. w,
    λ blocks has chain part are.
        absurd (too_many (over blocks (changed old)) (nfree_of first) (hand_rules has (over blocks (changed old)) list chain are) (ap nfree_of (sym (found blocks part))) many),
  )

  pub put_first : (first : List ℕ) → nfree_of first ≤ 50 → ((blocks : ℕ → List ℕ) → IsPart shown blocks → over blocks (changed old) 1 ≡ first) → HasPutBack shown old old first list 0
  put_first first few found = record {
    few = few;
    within = λ w. w;
    put = λ blocks has chain part are.
        (let same = put_itself (over blocks (changed old)) 1 first (found blocks part) in
        record { left = chain; freed = same; hand = subst (λ (b : ℕ → List ℕ). AreInHand has b list chain) (sym same) are });
  }

  pub put_next : (mid new : ChangeList) (first after : List ℕ) (count block : ℕ) → count < length list → block ≡ get_or list count 0 → nfree_of after ≤ 50
      → PutsBack shown mid new first after block hung.Done → HasPutBack shown old mid first list count → HasPutBack shown old new after list (count + 1)
  put_next mid new first after count block low is few puts was = record {
    few = few;
    within = λ w. puts.0 (was.within w);
    put = λ blocks has chain part are.
        (let so_far = was.put blocks has chain part are in
        let now = put_block (over blocks (changed mid)) 1 first in
        let then = put_block (over blocks (changed new)) 1 after in
        let split : drop count list ≡ block ∷ drop (suc count) list = drop-cons list count 0 low ∙ ap (λ b. b ∷ drop (suc count) list) (sym is) in
        let hand = subst (λ (xs : List ℕ). AreInHand has now xs so_far.left) split so_far.hand in
        let range = hand_open has now block (drop (suc count) list) so_far.left hand in
        let freed = puts.1 blocks part (hand_rules has now (block ∷ drop (suc count) list) so_far.left hand) range.0 range.1 in
        let more : take (suc count) list ≡ take count list ++ block ∷ [] = take-suc list count 0 low ∙ ap (λ b. take count list ++ b ∷ []) (sym is) in
        let next = hand_freed has now then block (drop (suc count) list) so_far.left hand freed in
        let step : suc count ≡ count + 1 = omega arith in
        record {
          left = block ∷ so_far.left;
          freed = subst (λ n. AreFreed (over blocks (changed old)) then (take n list)) step (subst (AreFreed (over blocks (changed old)) then) (sym more)
              (freed_more (over blocks (changed old)) now then (take count list) block so_far.freed freed));
          hand = subst (λ n. AreInHand has then (drop n list) (block ∷ so_far.left)) step next;
        });
  }

  -- addresses that are put into a list with room
  pub put_each : (mid : ChangeList) (after : List ℕ) (n : ℕ) (first : List ℕ) (count : ℕ) → count + n ≤ length list → HangsEach first after (take n (drop count list)) → HasPutBack shown old mid first list count
      → HasPutBack shown old mid after list (count + n)
  put_each mid after zero first count low hangs was = subst (λ b. HasPutBack shown old mid b list (count + 0)) (sym hangs) (subst (HasPutBack shown old mid first list) (let e : count ≡ count + 0 = omega arith in e) was)
  put_each mid after (suc n) first count low hangs was =
      let split : take (suc n) (drop count list) ≡ get_or list count 0 ∷ take n (drop (count + 1) list) =
      ap (take (suc n)) (drop-cons list count 0 (omega (arith, low))) ∙ ap (λ k. get_or list count 0 ∷ take n (drop k list)) (let e : suc count ≡ count + 1 = omega arith in e) in
      let hung = subst (HangsEach first after) split hangs in
      let next = put_next mid mid first hung.0 count (get_or list count 0) (omega (arith, low)) refl hung.2 (back_hung shown mid first hung.0 (get_or list count 0) hung.1) was in
      subst (HasPutBack shown old mid after list) (let e : count + 1 + n ≡ count + suc n = omega arith in e) (put_each mid after n hung.0 (count + 1) (omega (arith, low)) hung.3 next)

  pub put_all : (mid new : ChangeList) (first : List ℕ) (count : ℕ) → take count list ≡ list → IsSome (shown_over shown old 1) → ((other : ℕ) → changed new other ≡ cond (nat_eq 1 other) (Some first) (changed mid other))
      → ((blocks : ℕ → List ℕ) → over blocks (changed new) ≡ put_block (over blocks (changed mid)) 1 first) → HasPutBack shown old mid first list count → PutsAllBack shown old new list hung.Done
  put_all mid new first count all there each wrote was = (
    λ w. within_put shown mid new 1 first each (shown_still (changed mid 1) (shown 1) (found_within shown old 1 w there)) (was.within w),
    λ blocks has chain part are.
        subst (λ (b : ℕ → List ℕ). AreFreed (over blocks (changed old)) b list) (sym (wrote blocks))
        (subst (AreFreed (over blocks (changed old)) (put_block (over blocks (changed mid)) 1 first)) all (was.put blocks has chain part are).freed),
  )
