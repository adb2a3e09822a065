-- An inode freed and its number cached: the cache first, then the inode, and then its blocks.
use Rattle.std.proofs.Common.{ℕ, zero, suc, ◌≡◌, ◌≢◌, ◌⊎◌, inl, inr, ◌+◌, ◌-◌, ◌*◌, ◌≤◌, Bool, true, All, List, ◌∷◌, length, slice_index, nat_eq, Some, refl, sym, ap, subst, ◌∙◌, arith}
use Rattle.std.specs.FinMap as fin
use Rattle.std.specs.List.{Contains}
use Rattle.std.proofs.lemmas.Bool.{cases_eq}
use Rattle.std.proofs.lemmas.List.Elements.{All-cons}
use Rattle.mb_kinds.specs.Image.{Image}
use Rattle.mb_word.specs.Fields.{isize_of, ninode_of, inode_block, inode_place, mode_of, address_of}
use Rattle.mb_word.specs.Numbers.{SameFrom, word_at}
use Rattle.mb_tree.specs.Blocks.{pointers}
use Rattle.mb_tree.specs.Places.{Place, at, IsPlace}
use Rattle.mb_tree.specs.Views.{IsWiped, KeepsCache, MayCache}
use Rattle.mb_tree.specs.Volume.{body_has_addresses, has_addresses, node_has_addresses}
use Rattle.mb_tree.specs.declared.nodes.Body.{Body}
use Rattle.mb_tree.specs.declared.nodes.Node.{Node}
use Rattle.mb_tree.specs.declared.trees.Tree.{Tree}
use Rattle.mb_kinds.specs.Changed.{put_block}
use Rattle.mb_iface.proofs.ChangedBlocks.{put_block_same, put_block_other}
use Rattle.mb_blocks.specs.FreeLists.{AreFreed, onto}
use Rattle.mb_blocks.specs.Inodes.{IsRewritten}
use Rattle.mb_blocks.specs.Owners.{without}
use Rattle.mb_blocks.specs.Pointing.{KeepsPointers}
use Rattle.mb_blocks.proofs.Owning.{mine_place}
use Rattle.mb_blocks.proofs.Pointing.{at_alike}
use Rattle.mb_alloc.specs.Inodes.{Caches, IsErased}
use Rattle.mb_alloc.specs.Numbers.{cached_below, cached_in}
use Rattle.mb_alloc.proofs.Caching.{cache_set, cached_own}
use Rattle.mb_nodes.specs.Bodies.{IsCacheWritten, LetsGo}
use Rattle.mb_nodes.specs.Bodies.LetsGo.{listed, special}
use Rattle.mb_nodes.specs.Stored.{IsStored, without_node}
use Rattle.mb_nodes.proofs.CacheWrites.{cache_written}
use Rattle.mb_moves.specs.Advancing.{Advances}
use Rattle.mb_moves.proofs.CacheWrites.{cache_advances}
use Rattle.mb_moves.proofs.Dropping.{erased_advances}
use Rattle.mb_moves.proofs.InARow.{one_after_another}
use Rattle.mb_file.specs.Freeing.{AreInHand}
use Rattle.mb_file.proofs.InHand.{after_rewriting}

cached_many : (b : List ℕ) (n : ℕ) → length (cached_below b n) ≡ n
cached_many b zero = refl
cached_many b (suc n) = ap suc (cached_many b n)

-- ---- the two writes of an inode freed, apart

module _ (old mid now : ℕ → List ℕ) (ino : ℕ) (long : length (old 1) ≡ 512) (few : ninode_of (old 1) ≤ 100) (erased : IsErased old mid ino) (caches : Caches mid now ino) where
  first_mid : mid 1 ≡ old 1
  first_mid = erased.written.others 1 (omega arith)

  -- the cache written alone
  abbrev pub cached_only : ℕ → List ℕ
  cached_only = put_block old 1 (now 1)

  other_now : (block : ℕ) → block ≢ 1 → now block ≡ mid block
  other_now block apart = elim caches [
    | inl same ↦ ap (λ f. f block) same.1
    | inr set ↦ set.2.others block apart
  ]

  here : cached_only 1 ≡ now 1
  here = put_block_same old 1 (now 1)

  elsewhere : (block : ℕ) → block ≢ 1 → cached_only block ≡ old block
  elsewhere block apart = put_block_other old 1 (now 1) block apart

  few_now : ninode_of (now 1) ≤ 100
  few_now = elim caches [
    | inl same ↦ (let e : ninode_of (now 1) ≡ ninode_of (old 1) = ap (λ f. ninode_of (f 1)) same.1 ∙ ap ninode_of first_mid in omega (arith, e, few))
    | inr set ↦
        (let n : ninode_of (now 1) ≡ length (ino ∷ cached_in mid) = sym (cached_many (now 1) (ninode_of (now 1))) ∙ ap length set.2.list in
        let m : length (cached_in mid) ≡ ninode_of (mid 1) = cached_many (mid 1) (ninode_of (mid 1)) in
        let room = set.0 in
        omega (arith, n, m, room))
  ]

  same_range : (from n : ℕ) → (from + n ≤ 208) ⊎ ((410 ≤ from) × (from + n ≤ 512)) → SameFrom (now 1) (old 1) from n
  same_range from n in_range k low high = elim caches [
    | inl same ↦ ap (λ f. slice_index (f 1) k) same.1 ∙ ap (λ (b : List ℕ). slice_index b k) first_mid
    | inr set ↦ elim in_range [
      | inl front ↦ set.2.front k (omega arith) (omega (arith, high, front)) ∙ ap (λ (b : List ℕ). slice_index b k) first_mid
      | inr back ↦ set.2.back k (omega (arith, low, back.0)) (omega (arith, high, back.1)) ∙ ap (λ (b : List ℕ). slice_index b k) first_mid
    ]
  ]

  pub cache_is_written : ino ≤ 8 * (isize_of (old 1) - 2) → IsCacheWritten old cached_only
  cache_is_written last = record {
    sized = ap length here ∙ elim caches [
      | inl same ↦ ap (λ f. length (f 1)) same.1 ∙ ap length first_mid ∙ long
      | inr set ↦ set.2.sized
    ];
    few = (let e = ap ninode_of here in let f = few_now in omega (arith, e, f));
    front = subst (λ (b : List ℕ). SameFrom b (old 1) 0 208) (sym here) (same_range 0 208 (inl (omega arith)));
    back = subst (λ (b : List ℕ). SameFrom b (old 1) 410 102) (sym here) (same_range 410 102 (inr (omega arith, omega arith)));
    cached = subst (KeepsCache (old 1)) (sym here) (elim caches [
      | inl same ↦ subst (KeepsCache (old 1)) (sym (ap (λ f. f 1) same.1 ∙ first_mid)) (λ k low. inl (k, low, refl))
      | inr set ↦ cache_set (old 1) mid now (ino ∷ cached_in mid) set.2 (All-cons (MayCache (old 1)) ino (cached_in mid) (inr (set.1, last))
          (subst (λ (b : List ℕ). All (MayCache (old 1)) (cached_below b (ninode_of b))) (sym first_mid) (cached_own (old 1) (ninode_of (old 1)) (omega arith))))
    ]);
    others = elsewhere;
  }

  in_i_list : (other : ℕ) → inode_block other ≢ 1
  in_i_list other = omega arith

  pub inode_is_rewritten : IsRewritten cached_only now ino
  inode_is_rewritten = record {
    sized = ap length (other_now (inode_block ino) (in_i_list ino)) ∙ erased.written.sized;
    others = λ block apart. elim (cases_eq block 1) [
      | inl is ↦ rw is (sym here)
      | inr off ↦ other_now block off ∙ erased.written.others block apart ∙ sym (elsewhere block off)
    ];
    byte =
        ap (λ (b : List ℕ). slice_index b (64 * inode_place ino + 51)) (other_now (inode_block ino) (in_i_list ino)) ∙ erased.written.byte
        ∙ ap (λ (b : List ℕ). slice_index b (64 * inode_place ino + 51)) (sym (elsewhere (inode_block ino) (in_i_list ino)));
    beside = λ other some apart k from to.
        ap (λ (b : List ℕ). slice_index b k) (other_now (inode_block other) (in_i_list other)) ∙ erased.written.beside other some apart k from to
        ∙ ap (λ (b : List ℕ). slice_index b k) (sym (elsewhere (inode_block other) (in_i_list other)));
  }

  pub inode_is_free : mode_of (now (inode_block ino)) (inode_place ino) ≡ 0
  unfolding word_at
  inode_is_free =
      let z = erased.zero in
      let a : slice_index (mid (inode_block ino)) (64 * inode_place ino) ≡ 0 = ap (slice_index (mid (inode_block ino))) (omega arith) ∙ z 0 (omega arith) (omega arith) in
      let b : slice_index (mid (inode_block ino)) (64 * inode_place ino + 1) ≡ 0 = z 1 (omega arith) (omega arith) in
      ap (λ (x : List ℕ). mode_of x (inode_place ino)) (other_now (inode_block ino) (in_i_list ino)) ∙ omega (arith, a, b)

  pub inode_is_wiped : IsWiped (now (inode_block ino)) (inode_place ino)
  inode_is_wiped k low apart = ap (λ (x : List ℕ). slice_index x (64 * inode_place ino + k)) (other_now (inode_block ino) (in_i_list ino)) ∙ erased.zero k low apart

-- ---- the whole step

module _ (image : Image) (tree : Tree) (chain : List ℕ) (stored : IsStored image tree chain) (ino : ℕ) (node : Node) (has : fin.get tree.nodes ino ≡ Some node)
    (list : List ℕ) (lets : LetsGo image.at ino node.body list) (mid now : ℕ → List ℕ) (erased : IsErased image.at mid ino) (caches : Caches mid now ino) where
  abbrev cached : ℕ → List ℕ
  cached = cached_only image.at mid now ino (stored.bytes 1) stored.cached erased caches

  written : IsCacheWritten image.at cached
  written = cache_is_written image.at mid now ino (stored.bytes 1) stored.cached erased caches (let low = (stored.numbers ino node has).1 in let last = stored.last in omega (arith, low, last))

  abbrev then : Image
  then = record image { at = cached }

  stored_then : IsStored then tree chain
  stored_then = (cache_written image tree chain stored cached written).stored

  rewritten : IsRewritten cached now ino
  rewritten = inode_is_rewritten image.at mid now ino (stored.bytes 1) stored.cached erased caches

  same_at : has_addresses tree ino ≡ true → (q : Place) → IsPlace (nat_eq ino) q → at (pointers cached) q ≡ at (pointers image.at) q
  same_at is q h = at_alike (nat_eq ino) image.at cached keeps q h
    where
      keeps : KeepsPointers (nat_eq ino) image.at cached
      keeps = record {
        tops = λ i p mine low. ap (λ (b : List ℕ). address_of b (inode_place i) p) (written.others (inode_block i) (omega arith));
        indexes = λ r mine up some. written.others (at (pointers image.at) r)
            (let open_to = stored.held.in_range r (mine_place (has_addresses tree) ino is r mine) some in let from = open_to.from in let wide = stored.sizes.some_inodes in omega (arith, from, wide));
      }

  lets_of : (body : Body) (xs : List ℕ) → body ≡ node.body → LetsGo image.at ino body xs → LetsGo cached ino body xs
  lets_of body xs same (special b t) = special b t
  lets_of body xs same (listed b l t lists) =
      let is : has_addresses tree ino ≡ true = ap node_has_addresses has ∙ ap body_has_addresses (sym same) ∙ t in
      listed b l t (record {
        once = lists.once;
        all = λ q mine some. (let e = same_at is q mine in subst (Contains xs) (sym e) (lists.all q mine (omega (arith, some, e))));
        only = λ block among. (let only = lists.only block among in (only.0, only.1, only.2, same_at is only.1 only.2 ∙ only.3));
      })

  lets_then : LetsGo cached ino node.body list
  lets_then = lets_of node.body list refl lets

  pub blocks_in_hand : AreInHand (without (has_addresses tree) ino) now list chain
  blocks_in_hand = after_rewriting then tree chain stored_then ino node has list lets_then now rewritten

  pub erased_whole : (looks : ℕ → Bool) → looks ino ≡ true → (new : ℕ → List ℕ) → AreFreed now new list → Advances image tree looks new (without_node tree ino) (onto list chain)
  erased_whole looks looked new freed =
      one_after_another image tree tree (without_node tree ino) looks cached new chain (onto list chain)
      (cache_advances image tree chain looks stored cached written)
      (erased_advances then tree chain looks stored_then ino node looked has now new list lets_then rewritten freed (inode_is_free image.at mid now ino (stored.bytes 1) stored.cached erased caches)
      (inode_is_wiped image.at mid now ino (stored.bytes 1) stored.cached erased caches))
