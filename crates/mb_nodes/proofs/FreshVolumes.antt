-- A fresh image is a volume of the fresh tree.
use Rattle.std.proofs.Common.{ℕ, zero, suc, ◌≡◌, ◌≢◌, ◌⊎◌, inl, inr, ◌+◌, ◌-◌, ◌*◌, ◌<◌, ◌≤◌, Bool, true, false, List, [], ◌∷◌, ◌++◌, All, length, get_or, slice_index, unwrap_or, Some, refl, sym, ap, subst, ◌∙◌, arith}
use Rattle.std.specs.FinMap as fin
use Rattle.std.proofs.lemmas.List.Elements.{All-cons, All-tail, All-weaker}
use Rattle.mb_kinds.specs.Image.{Image, zeros}
use Rattle.mb_word.specs.Fields.{isize_of, fsize_of, ninode_of, nfree_of, free_of, inode_block, inode_place, mode_of}
use Rattle.mb_word.proofs.Values.{word_at-same}
use Rattle.mb_layout.proofs.InodeOrder.{inode_in_list}
use Rattle.mb_tree.specs.Blocks.{IsFreeChain, entry_in, first_list, list_in, part_address, part_in, pointers, slot_in, slot_of}
use Rattle.mb_tree.specs.Effect.{dot, dot_dot, first_slots}
use Rattle.mb_tree.specs.Places.{IsPlace, Place, at, level, place_of}
use Rattle.mb_tree.specs.Places.Place.{Top, Under}
use Rattle.mb_tree.specs.Volume.{HasDirectory, HasInode, HasNode, IsOpenToFiles, IsVolume, has_addresses, node_has_addresses}
use Rattle.mb_tree.specs.declared.nodes.PlainSlot.{PlainSlot}
use Rattle.mb_tree.specs.declared.trees.Tree.{Tree}
use Rattle.mb_tree.proofs.FiniteMaps.{one_or_not}
use Rattle.mb_blocks.specs.FreeLists.{HasFreed, IsSameList, onto}
use Rattle.mb_blocks.specs.Laid.{AreOnce, AreSpare, IndexesLeadOn, IsLaid}
use Rattle.mb_blocks.specs.Pointing.{KeepsPointers}
use Rattle.mb_blocks.proofs.Enumerated.{direct_at}
use Rattle.mb_blocks.proofs.Freeing.{same_list}
use Rattle.mb_blocks.proofs.FreeingAll.{freed_all, onto_length}
use Rattle.mb_blocks.proofs.Keeping.{laid_kept, sizes_same}
use Rattle.mb_blocks.proofs.Listing.{chain_alike}
use Rattle.mb_blocks.proofs.PartBytes.{held_part, part_found, some_from, some_is}
use Rattle.mb_blocks.proofs.PartPlaces.{place_is, place_once}
use Rattle.mb_blocks.proofs.Pointing.{zero_entry}
use Rattle.mb_blocks.proofs.Rearranged.{first_other, once_cons, rest_once}
use Rattle.mb_nodes.specs.Fresh.{IsFresh, falling, fresh_root, fresh_tree}
use Rattle.mb_nodes.specs.Stored.{IsStored}
use Rattle.mb_nodes.proofs.FreshTrees.{fresh_cost, fresh_sound, no_other, root_at}
use Rattle.mb_nodes.proofs.GrownDirectories.{node_fields}
use Rattle.mb_nodes.proofs.Volumes.{volume_of}

abbrev IsWithin : ℕ → ℕ → ℕ → Type 0
IsWithin first n block = (first ≤ block) × (block < first + n)

falling_within : (first n : ℕ) → All (IsWithin first n) (falling first n)
falling_within first zero = λ i d within. absurd (omega (arith, within))
falling_within first (suc n) =
    All-cons (IsWithin first (suc n)) (first + n) (falling first n) (omega arith, omega arith)
    (All-weaker (IsWithin first n) (IsWithin first (suc n)) (λ b w. (w.0, (let high = w.1 in omega (arith, high)))) (falling first n) (falling_within first n))

falling_once : (first n : ℕ) → AreOnce (falling first n)
falling_once first zero = λ i j d below within. absurd (omega (arith, within))
falling_once first (suc n) =
    once_cons (first + n) (falling first n)
    (All-weaker (IsWithin first n) (λ y. first + n ≢ y) (λ y w e. (let high = w.1 in omega (arith, high, e))) (falling first n) (falling_within first n))
    (falling_once first n)

falling_split : (first n : ℕ) → falling first (suc n) ≡ falling (first + 1) n ++ first ∷ []
falling_split first zero = let e : first + 0 ≡ first = omega arith in ap (λ b. b ∷ []) e
falling_split first (suc n) =
    let e : first + suc n ≡ first + 1 + n = omega arith in
    ap (λ b. b ∷ falling first (suc n)) e ∙ ap (λ xs. (first + 1 + n) ∷ xs) (falling_split first n)

falling_length : (first n : ℕ) → length (falling first n) ≡ n
falling_length first zero = refl
falling_length first (suc n) = (let e = falling_length first n in omega (arith, e))

append_none : (xs : List ℕ) → xs ++ [] ≡ xs
append_none [] = refl
append_none (x ∷ xs) = ap (λ ys. x ∷ ys) (append_none xs)

abbrev none : ℕ → Bool
none ino = false

not_true : false ≡ true → ⊥
not_true e = cc

no_place : (q : Place) → IsPlace none q → ⊥
no_place (Top ino p) h = not_true h.0
no_place (Under w k) h = no_place w h.0

module _ (image : Image) (isize fsize : ℕ) (fresh : IsFresh image isize fsize) where
  abbrev n : ℕ
  n = fsize - 1 - isize

  abbrev tree : Tree
  tree = fresh_tree isize fsize

  abbrev chain : List ℕ
  chain = onto (falling (isize + 1) n) []

  open_start : (b : ℕ) → isize ≤ b → b < fsize → IsOpenToFiles fresh.start b
  open_start b from below = (let i = fresh.blank.isize_is in let f = fresh.blank.fsize_is in record { from = omega (arith, from, i); below = omega (arith, below, f) })

  all_spare : AreSpare none fresh.start (falling isize (suc n))
  all_spare = record {
    in_range = All-weaker (IsWithin isize (suc n)) (IsOpenToFiles fresh.start)
        (λ b w. (let high = w.1 in let room = fresh.some_blocks in open_start b w.0 (omega (arith, high, room)))) (falling isize (suc n)) (falling_within isize (suc n));
    once = falling_once isize (suc n);
    bare = λ i d within q h. absurd (no_place q h);
  }

  -- all blocks that are open to files are in hand
  laid_start : IsLaid none fresh.start (falling (isize + 1) n ++ isize ∷ []) []
  laid_start = record {
    sized = fresh.blank.sized;
    wide = (let i = fresh.blank.isize_is in let s = fresh.some_inodes in omega (arith, i, s));
    inodes = λ ino h. absurd (not_true h);
    in_range = λ q h some. absurd (no_place q h);
    once = λ q r h g some e. absurd (no_place q h);
    free = inr (fresh.blank.list.count, fresh.blank.list.entry 0 (omega arith));
    spare = subst (AreSpare none fresh.start) (falling_split isize n ∙ sym (append_none (falling (isize + 1) n ++ isize ∷ []))) all_spare;
  }

  freed : HasFreed none fresh.start fresh.free (falling (isize + 1) n) (isize ∷ []) [] chain
  freed = freed_all none fresh.start fresh.free (falling (isize + 1) n) (isize ∷ []) [] laid_start fresh.frees

  first_same : image.at 1 ≡ fresh.free 1
  first_same = fresh.root.others 1 (omega arith) (let s = fresh.some_inodes in omega (arith, s))

  isize_free : isize_of (fresh.free 1) ≡ isize
  isize_free = (sizes_same fresh.start fresh.free freed.rest.front).0 ∙ fresh.blank.isize_is

  fsize_free : fsize_of (fresh.free 1) ≡ fsize
  fsize_free = (sizes_same fresh.start fresh.free freed.rest.front).1 ∙ fresh.blank.fsize_is

  isize_now : isize_of (image.at 1) ≡ isize
  isize_now = ap (λ (b : List ℕ). isize_of b) first_same ∙ isize_free

  fsize_now : fsize_of (image.at 1) ≡ fsize
  fsize_now = ap (λ (b : List ℕ). fsize_of b) first_same ∙ fsize_free

  chain_apart : All (λ b. isize ≢ b) chain
  chain_apart = first_other isize chain freed.laid.spare.once

  chain_open : All (IsOpenToFiles fresh.free) chain
  chain_open = All-tail (IsOpenToFiles fresh.free) isize chain freed.laid.spare.in_range

  lists_same : All (λ b. list_in fresh.free b ≡ list_in image.at b) chain
  lists_same = λ i d within.
      (let from = (chain_open i d within).from in
      let off = chain_apart i d within in
      let z = isize_free in
      let s = fresh.some_inodes in
      same_list fresh.free image.at (get_or chain i d) (fresh.root.others (get_or chain i d) (omega (arith, from, z, s)) (λ e. off (sym e))))

  free_now : IsFreeChain image.at chain
  free_now =
      chain_alike (list_in fresh.free) (list_in image.at) (first_list fresh.free) (first_list image.at) chain lists_same
      (subst (λ (bytes : List ℕ). IsSameList (record { count = nfree_of bytes; entry = free_of bytes }) (first_list fresh.free)) (sym first_same) (record { count = refl; entry = λ j low. refl })) freed.laid.free

  keeps : KeepsPointers none fresh.free image.at
  keeps = record { tops = λ ino p h low. absurd (not_true h); indexes = λ q h up some. absurd (no_place q h) }

  -- the root's block is in hand, and the others are free
  laid_written : IsLaid none image.at (isize ∷ []) chain
  laid_written =
      laid_kept none fresh.free image.at (λ k from to. ap (λ (b : List ℕ). slice_index b k) first_same) keeps (isize ∷ []) chain (isize ∷ []) chain freed.laid fresh.root.sized free_now freed.laid.spare

  abbrev has : ℕ → Bool
  has = has_addresses tree

  has_is : (i : ℕ) → has i ≡ true → i ≡ 2
  has_is i t = elim (one_or_not i 2) [
    | inl is ↦ is
    | inr apart ↦ absurd (not_true (sym (ap node_has_addresses (no_other isize fsize fresh.some_inodes fresh.some_blocks i apart)) ∙ t))
  ]

  -- the root's one address
  place_two : (q : Place) → IsPlace has q → (q ≡ Top 2 0) ⊎ (at (pointers image.at) q ≡ 0)
  place_two (Top i p) h = elim (one_or_not p 0) [
    | inl first ↦ inl (ap (λ x. Top x p) (has_is i h.0) ∙ ap (Top 2) first)
    | inr later ↦ inr (ap (λ x. (pointers image.at).top x p) (has_is i h.0) ∙ fresh.root.holes p (omega (arith, later)) h.1)
  ]
  place_two (Under w k) h = elim (place_two w h.0) [
    | inl e ↦ absurd (let l : level w ≡ level (Top 2 0) = ap level e in let up = h.1 in omega (arith, l, up))
    | inr hole ↦ inr (ap (λ b. entry_in image.at b k) hole ∙ zero_entry image.at k)
  ]

  held_two : (q : Place) → IsPlace has q → 0 < at (pointers image.at) q → (q ≡ Top 2 0) × (at (pointers image.at) q ≡ isize)
  held_two q h some = elim (place_two q h) [
    | inl e ↦ (e, ap (at (pointers image.at)) e ∙ fresh.root.top)
    | inr hole ↦ absurd (omega (arith, some, hole))
  ]

  root_open : IsOpenToFiles image.at isize
  root_open = (let i = isize_now in let f = fsize_now in let room = fresh.some_blocks in record { from = omega (arith, i); below = omega (arith, f, room) })

  chain_open_now : All (IsOpenToFiles image.at) chain
  chain_open_now = All-tail (IsOpenToFiles image.at) isize chain laid_written.spare.in_range

  laid_now : IsLaid has image.at [] chain
  laid_now = record {
    sized = fresh.root.sized;
    wide = laid_written.wide;
    inodes = λ ino h. (let e = has_is ino h in let i = isize_now in let s = fresh.some_inodes in (omega (arith, e), omega (arith, e, i, s)));
    in_range = λ q h some. subst (IsOpenToFiles image.at) (sym (held_two q h some).1) root_open;
    once = λ q r h g some e. (held_two q h some).0 ∙ sym (held_two r g (omega (arith, some, e))).0;
    free = laid_written.free;
    spare = record {
      in_range = chain_open_now;
      once = rest_once isize chain laid_written.spare.once;
      bare = λ i d within q h. elim (place_two q h) [
        | inl e ↦ (λ f. chain_apart i d within (sym (ap (at (pointers image.at)) e ∙ fresh.root.top) ∙ f))
        | inr hole ↦ (λ f. (let from = (chain_open_now i d within).from in let z = isize_now in let s = fresh.some_inodes in omega (arith, hole, f, from, z, s)))
      ];
    };
  }

  leads_now : IndexesLeadOn has image.at
  leads_now = λ q h up some. absurd (let l : level q ≡ level (Top 2 0) = ap level (held_two q h some).0 in omega (arith, l, up))

  address : part_address image.at 2 0 ≡ isize
  address = ap (at (pointers image.at)) (direct_at 2 0 (omega arith)) ∙ fresh.root.top

  part_zero : part_in image.at 2 0 ≡ Some (image.at isize)
  part_zero = part_found image.at 2 0 isize (omega arith) address (let s = fresh.some_inodes in omega (arith, s))

  is_two : has 2 ≡ true
  is_two = ap node_has_addresses (root_at isize fsize fresh.some_inodes fresh.some_blocks)

  own_slot : ◌≡◌ {A = PlainSlot} (slot_in image.at 2 0) (record { ino = 2; name = dot })
  own_slot = ap (λ o. slot_of (unwrap_or o zeros) 0) part_zero ∙ fresh.root.first

  above_slot : ◌≡◌ {A = PlainSlot} (slot_in image.at 2 1) (record { ino = 2; name = dot_dot })
  above_slot = ap (λ o. slot_of (unwrap_or o zeros) 1) part_zero ∙ fresh.root.second

  directory : HasDirectory image.at 2 (first_slots 2 2)
  directory = record {
    sized = fresh.root.size;
    each = ap (λ (x : PlainSlot). x ∷ (record { ino = 2; name = dot_dot }) ∷ []) (sym own_slot) ∙ ap (λ (x : PlainSlot). slot_in image.at 2 0 ∷ x ∷ []) (sym above_slot);
    parts = λ part low. (
      (λ some.
          (let was = some_is (part_in image.at 2 part) some in
          let held = held_part image.at 2 part was.0 was.1 in
          let e = (held_two (place_of 2 part) (place_is has 2 part is_two low) held.1).0 in
          let z = (place_once 2 part 2 0 low (omega arith) (e ∙ sym (direct_at 2 0 (omega arith)))).1 in
          let many : 16 * length (first_slots 2 2) ≡ 32 = refl in
          omega (arith, z, many))),
      λ within.
          (let many : 16 * length (first_slots 2 2) ≡ 32 = refl in
          let z : part ≡ 0 = omega (arith, within, many) in
          some_from (part_in image.at 2 part) (image.at isize) (ap (part_in image.at 2) z ∙ part_zero)),
    );
  }

  node : HasNode image.at 2 fresh_root
  node = node_fields image.at 2 fresh_root fresh.root.fields directory

  inodes : (ino : ℕ) → 0 < ino → ino ≤ tree.last → HasInode image.at ino (fin.get tree.nodes ino)
  inodes ino some low = elim (one_or_not ino 2) [
    | inl is ↦ subst (λ i. HasInode image.at i (fin.get tree.nodes i)) (sym is) (subst (HasInode image.at 2) (sym (root_at isize fsize fresh.some_inodes fresh.some_blocks)) node)
    | inr apart ↦
        (let listed = (inode_in_list ino isize some low).1 in
        let z = fresh.blank.isize_is in
        let mode : mode_of (image.at (inode_block ino)) (inode_place ino) ≡ 0 =
        word_at-same (image.at (inode_block ino)) (fresh.free (inode_block ino)) (64 * inode_place ino) (λ k from to. fresh.root.beside ino some apart k from (omega (arith, to)))
        ∙ ap (λ (b : List ℕ). mode_of b (inode_place ino)) (freed.rest.listed (inode_block ino) (omega arith) (omega (arith, listed, z)))
        ∙ fresh.blank.unused ino some listed in
        subst (HasInode image.at ino) (sym (no_other isize fsize fresh.some_inodes fresh.some_blocks ino apart)) mode)
  ]

  uncached : ninode_of (image.at 1) ≡ 0
  uncached =
      ap (λ (b : List ℕ). ninode_of b) first_same
      ∙ word_at-same (fresh.free 1) (fresh.start 1) 208 (λ k from to. freed.rest.back k from (omega (arith, to)))
      ∙ fresh.blank.uncached

  pub fresh_stored : IsStored image tree chain
  fresh_stored =
      let i = isize_now in
      let f = fsize_now in
      let some = fresh.some_inodes in
      let few = fresh.few_inodes in
      let room = fresh.some_blocks in
      let most = fresh.few_blocks in
      let there = fresh.present in
      let sound = fresh_sound isize fsize fresh.some_inodes fresh.some_blocks in
      record {
        bytes = fresh.root.sized;
        sizes = record {
          blocks = omega (arith, some, room, there);
          some_inodes = omega (arith, i, some);
          few_inodes = omega (arith, i, few);
          some_blocks = omega (arith, i, f, room);
          few_blocks = omega (arith, f, most);
          present = omega (arith, f, there);
        };
        cached = (let u = uncached in omega (arith, u));
        last = ap (λ m. 8 * (m - 2)) (sym isize_now);
        inodes = inodes;
        held = record { in_range = laid_now.in_range; once = laid_now.once; leads_on = leads_now };
        spare = record { listed = laid_now.free; in_range = laid_now.spare.in_range; once = laid_now.spare.once; apart = laid_now.spare.bare };
        capacity =
            (let c = fresh_cost isize fsize fresh.some_inodes fresh.some_blocks in
            let l = onto_length (falling (isize + 1) n) [] in
            let m = falling_length (isize + 1) n in
            let z : length {A = ℕ} [] ≡ 0 = refl in
            omega (arith, c, l, m, z, room));
        numbers = sound.numbers;
      }

  pub fresh_volume : IsVolume image tree
  fresh_volume = volume_of image tree chain fresh_stored (fresh_sound isize fsize fresh.some_inodes fresh.some_blocks)
