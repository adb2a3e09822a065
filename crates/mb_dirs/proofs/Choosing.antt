-- Free numbers of a stored tree, and V7's pick of one.
use Rattle.std.proofs.Common.{ℕ, zero, suc, ◌≡◌, ◌⊎◌, inl, inr, ◌+◌, ◌<◌, ◌≤◌, Bool, true, false, cond, nat_eq, nat_lt, ◌&&◌, List, [], ◌∷◌, length, Option, Some, None, All, refl, ap, subst, arith, length-take, unwrap_or}
use Rattle.std.specs.FinMap as fin
use Rattle.std.specs.Option.{option_or}
use Rattle.std.proofs.lemmas.Bool.Decides.{nat_tests}
use Rattle.std.proofs.lemmas.List.Elements.{All-tail, All-take, All-weaker}
use Rattle.mb_kinds.specs.Image.{Image}
use Rattle.mb_word.specs.Fields.{inode_block, inode_place, isize_of, mode_of, ninode_of}
use Rattle.mb_tree.specs.Step.{IsFreeNumber}
use Rattle.mb_tree.specs.Views.{MayCache, over}
use Rattle.mb_tree.specs.Volume.{HasInode, last_inode}
use Rattle.mb_tree.specs.declared.nodes.Node.{Node}
use Rattle.mb_tree.specs.declared.trees.Tree.{Tree}
use Rattle.mb_alloc.specs.Numbers.{Picks, cached_below, cached_in, free_numbers, free_below, is_free_number, pick_from, pick_of}
use Rattle.mb_alloc.specs.declared.picks.Picked.TheVariants as picked
use Rattle.mb_alloc.proofs.Caching.{cache_set, cached_own}
use Rattle.mb_alloc.proofs.Scanning.{all_free}
use Rattle.mb_iface.specs.Acting.{with_changes}
use Rattle.mb_kinds.specs.Changed.{ChangeList, changed}
use Rattle.mb_iface.specs.declared.replies.Need.{Need}
use Rattle.mb_nodes.specs.Bodies.{IsCacheWritten}
use Rattle.mb_nodes.specs.Stored.{IsStored}
use Rattle.mb_moves.proofs.Asking.{list_near, stored_rules}
use Rattle.mb_moves.proofs.CacheWrites.{cache_advances}
use Rattle.mb_moves.proofs.Nearness.{and_both, and_left, and_right}
use Rattle.mb_dirs.specs.Choosing.{PicksNumberOf}
use Rattle.mb_dirs.specs.declared.choices.Chosen.TheVariants as chosen

-- ---- the pick

pick_free : (free : ℕ → Bool) (xs : List ℕ) (n : ℕ) (rest : List ℕ) → pick_from free xs ≡ Some (n, rest) → (free n ≡ true) × (length rest ≤ length xs)
pick_free free [] n rest is = cc
pick_free free (x ∷ xs) n rest is = by_test (pick_free free xs n rest) (free x) refl is
  where
    by_test : (pick_from free xs ≡ Some (n, rest) → (free n ≡ true) × (length rest ≤ length xs)) → (b : Bool) → free x ≡ b → cond b (Some (x, xs)) (pick_from free xs) ≡ Some (n, rest) → (free n ≡ true) × (length rest ≤ suc (length xs))
    by_test later true t e =
        (let first : x ≡ n = ap (λ (o : Option (ℕ × List ℕ)). (unwrap_or o (0, xs)).0) e in
        let behind : xs ≡ rest = ap (λ (o : Option (ℕ × List ℕ)). (unwrap_or o (0, xs)).1) e in
        (subst (λ k. free k ≡ true) first t, subst (λ (ys : List ℕ). length ys ≤ suc (length xs)) behind (omega arith)))
    by_test later false t e = (let got = later e in (got.0, let l = got.1 in omega (arith, l)))

length-cached : (b : List ℕ) (n : ℕ) → length (cached_below b n) ≡ n
length-cached b zero = refl
length-cached b (suc n) = ap suc (length-cached b n)

either_pick : (one two : Option (ℕ × List ℕ)) (n : ℕ) (rest : List ℕ) → option_or one two ≡ Some (n, rest) → (one ≡ Some (n, rest)) ⊎ (two ≡ Some (n, rest))
either_pick (Some x) two n rest is = inl is
either_pick None two n rest is = inr is

pick_says : (blocks : ℕ → List ℕ) (n : ℕ) (rest : List ℕ) → ninode_of (blocks 1) ≤ 100 → pick_of blocks ≡ Some (n, rest) → (is_free_number blocks n ≡ true) × (length rest ≤ 100)
pick_says blocks n rest few is = elim (either_pick (pick_from (is_free_number blocks) (cached_in blocks)) (pick_from (is_free_number blocks) (free_numbers blocks)) n rest is) [
  | inl e ↦
      (let got = pick_free (is_free_number blocks) (cached_in blocks) n rest e in
      let many = length-cached (blocks 1) (ninode_of (blocks 1)) in
      (got.0, (let l = got.1 in omega (arith, l, many, few))))
  | inr e ↦
      (let got = pick_free (is_free_number blocks) (free_numbers blocks) n rest e in
      let many = length-take 100 (free_below blocks (last_inode blocks + 1)) in
      (got.0, (let l = got.1 in omega (arith, l, many))))
]

-- ---- free numbers

module _ (image : Image) (tree : Tree) (chain : List ℕ) (stored : IsStored image tree chain) (ino : ℕ) where
  unused_is : (o : Option Node) → HasInode image.at ino o → mode_of (image.at (inode_block ino)) (inode_place ino) ≡ 0 → o ≡ None
  unused_is None has zero_mode = refl
  unused_is (Some node) has zero_mode = absurd (has.used zero_mode)

  pub free_is : is_free_number image.at ino ≡ true → IsFreeNumber tree ino
  free_is t =
      let first : nat_lt 2 ino ≡ true = and_left _ _ t in
      let others = and_right (nat_lt 2 ino) (nat_lt (inode_block ino) (isize_of (image.at 1)) && nat_eq (mode_of (image.at (inode_block ino)) (inode_place ino)) 0) t in
      let second : nat_lt (inode_block ino) (isize_of (image.at 1)) ≡ true = and_left _ _ others in
      let third : nat_eq (mode_of (image.at (inode_block ino)) (inode_place ino)) 0 ≡ true = and_right (nat_lt (inode_block ino) (isize_of (image.at 1))) _ others in
      let low : 2 < ino = grind (arith, nat_tests) in
      let listed : inode_block ino < isize_of (image.at 1) = grind (arith, nat_tests) in
      let zero_mode : mode_of (image.at (inode_block ino)) (inode_place ino) ≡ 0 = grind (arith, nat_tests) in
      let last = stored.last in
      let within : ino ≤ tree.last = omega (arith, last, listed, low) in
      record { above = low; within = within; unused = unused_is (fin.get tree.nodes ino) (stored.inodes ino (omega (arith, low)) within) zero_mode }

  pub is_free : IsFreeNumber tree ino → is_free_number image.at ino ≡ true
  is_free free =
      let low = free.above in
      let within = free.within in
      let last = stored.last in
      let zero_mode : mode_of (image.at (inode_block ino)) (inode_place ino) ≡ 0 = subst (HasInode image.at ino) free.unused (stored.inodes ino (omega (arith, low)) within) in
      let wide = stored.sizes.some_inodes in
      let listed : inode_block ino < isize_of (image.at 1) = omega (arith, low, within, last, wide) in
      let first : nat_lt 2 ino ≡ true = grind (arith, nat_tests) in
      let second : nat_lt (inode_block ino) (isize_of (image.at 1)) ≡ true = grind (arith, nat_tests) in
      let third : nat_eq (mode_of (image.at (inode_block ino)) (inode_place ino)) 0 ≡ true = grind (arith, nat_tests) in
      and_both _ _ first (and_both _ _ second third)

-- what is behind the pick
pick_rest : (P : ℕ → Type 0) (free : ℕ → Bool) (xs : List ℕ) (n : ℕ) (rest : List ℕ) → pick_from free xs ≡ Some (n, rest) → All P xs → All P rest
pick_rest P free [] n rest is all = cc
pick_rest P free (x ∷ xs) n rest is all = by_test (λ e. pick_rest P free xs n rest e (All-tail P x xs all)) (free x) refl is
  where
    by_test : (pick_from free xs ≡ Some (n, rest) → All P rest) → (b : Bool) → free x ≡ b → cond b (Some (x, xs)) (pick_from free xs) ≡ Some (n, rest) → All P rest
    by_test later true t e = subst (All P) (ap (λ (o : Option (ℕ × List ℕ)). (unwrap_or o (0, xs)).1) e) (All-tail P x xs all)
    by_test later false t e = later e

-- the numbers that it leaves were cached, or are of the i-list
left_numbers : (image : Image) (tree : Tree) (chain : List ℕ) → IsStored image tree chain → (n : ℕ) (rest : List ℕ) → pick_of image.at ≡ Some (n, rest) → All (MayCache (image.at 1)) rest
left_numbers image tree chain stored n rest is = elim (either_pick (pick_from (is_free_number image.at) (cached_in image.at)) (pick_from (is_free_number image.at) (free_numbers image.at)) n rest is) [
  | inl e ↦ pick_rest (MayCache (image.at 1)) (is_free_number image.at) (cached_in image.at) n rest e (cached_own (image.at 1) (ninode_of (image.at 1)) (omega arith))
  | inr e ↦ pick_rest (MayCache (image.at 1)) (is_free_number image.at) (free_numbers image.at) n rest e
      (All-take (MayCache (image.at 1)) 100 (free_below image.at (last_inode image.at + 1))
      (All-weaker (λ k. is_free_number image.at k ≡ true) (MayCache (image.at 1)) may_cache (free_below image.at (last_inode image.at + 1)) (all_free image.at (last_inode image.at + 1))))
] where
  may_cache : (k : ℕ) → is_free_number image.at k ≡ true → MayCache (image.at 1) k
  may_cache k free =
      let number = free_is image tree chain stored k free in
      let above = number.above in
      let within = number.within in
      let last = stored.last in
      inr (omega (arith, above), omega (arith, within, last))

pub picked_number : (shown : ℕ → Option (List ℕ)) (old new : ChangeList) (ino : ℕ) → Picks shown old new (picked.Ino ino) → PicksNumberOf shown old new (chosen.Number ino)
picked_number shown old new ino picks = (
  picks.0,
  λ image tree chain part stored looks.
      (let blocks = with_changes image old in
      let got = picks.1 image.at part (stored_rules blocks tree chain stored) in
      let says = pick_says (over image.at (changed old)) ino got.0 stored.cached got.1 in
      let set = got.2 in
      let written : IsCacheWritten (over image.at (changed old)) (over image.at (changed new)) = record {
        sized = set.sized;
        few = (let many = length-cached (over image.at (changed new) 1) (ninode_of (over image.at (changed new) 1)) in let l = ap length set.list in let s = says.1 in omega (arith, many, l, s));
        front = set.front;
        back = set.back;
        cached = cache_set (over image.at (changed old) 1) (over image.at (changed old)) (over image.at (changed new)) got.0 set (left_numbers blocks tree chain stored ino got.0 got.1);
        others = set.others;
      } in (
        free_is blocks tree chain stored ino says.0,
        (got.0, got.1),
        (chain, cache_advances blocks tree chain looks stored (over image.at (changed new)) written),
      )),
)

pub none_picked : (shown : ℕ → Option (List ℕ)) (old new : ChangeList) → Picks shown old new picked.NoneLeft → PicksNumberOf shown old new chosen.NoneLeft
none_picked shown old new picks = λ image tree chain part stored ino free.
    (let blocks = with_changes image old in
    let was = picks.1 image.at part (stored_rules blocks tree chain stored) ino in
    let is = is_free blocks tree chain stored ino free in
    cc)

pub pick_asks : (shown : ℕ → Option (List ℕ)) (old new : ChangeList) (need : Need) → Picks shown old new (picked.Need need) → PicksNumberOf shown old new (chosen.Need need)
pick_asks shown old new need picks = (
  picks.1,
  λ image tree chain part stored looks.
      (let blocks = with_changes image old in
      list_near blocks tree chain stored looks need.first (elim (picks.2 image.at part (stored_rules blocks tree chain stored)) [ inl one ↦ inl one | inr listed ↦ inr (inl listed) ])),
)
