-- The calls' clauses, from the fields as they were and the cells as they are.
use Rattle.std.proofs.Common.{◌≡◌, ℕ, suc, ◌+◌, ◌-◌, ◌<◌, ◌≤◌, true, false, List, [], ◌∷◌, ◌++◌, length, get_or, map, refl, sym, ap, ◌∙◌, subst, arith}
use Rattle.std.proofs.lemmas.List.{length-map, get_or-map, set-get_or}
use Rattle.std.specs.Prelude.{◌≢◌, IsTrue, Some, slice_get}
use denote.RawPtr.{Ptr, null_ptr}
use Rattle.mb_frames.specs.Cells.{Cell, is_at, next_at, prev_at, head_at, block_at, bytes_at, places, Moves, Writes, Fills}
use Rattle.mb_frames.specs.Shape.{Headed, Shaped}
use Rattle.mb_frames.specs.Pages.{Page, page, Shelf, stands_in, standing, Stands, block_of, bytes_of, ring_at, with_ring, without, rewritten, replaced, NamedAt, SameAt}
use Rattle.mb_frames.specs.Walks.{page_of, pages_at, row_at, shelf, Sound, IsRing}
use Rattle.mb_frames.specs.declared.node.NodePtr.{NodePtr}
use Rattle.mb_frames.specs.declared.rings.Rings.TheInside.{Inside}
use Rattle.mb_frames.specs.Counts.{times}
use Rattle.mb_frames.proofs.Filled.{holding, stands_places}
use Rattle.mb_frames.proofs.Shapes.{keeps_all}
use Rattle.mb_frames.proofs.Stock.{ring_of, indexed_read}
use Rattle.mb_frames.proofs.Steps.{spots, Indexed, row_is, within_rows, list_is, told_list}
use Rattle.mb_frames.proofs.Ends.{first_indexed, last_there, last_empty, last_indexed, indexed_stands, replaced_past}
use Rattle.mb_frames.proofs.Moves as moves
use Rattle.mb_frames.proofs.Contents as contents
use Rattle.mb_frames.proofs.Calls as calls

abbrev pub cells : Inside → List Cell
cells r = r.links.nodes.cells

abbrev pub ptrs : List NodePtr → List Ptr
ptrs = map (λ n. n.ptr)

abbrev pub IsSound : Inside → List Cell → Type 0
IsSound r c = Sound c r.spare.ptr (ptrs r.heads.items) (ptrs r.all.items)

module _ (r : Inside) (v : Shelf) (view : shelf (cells r) r.spare.ptr (ptrs r.heads.items) r.links.writes ≡ v) (I : IsSound r (cells r)) where
  abbrev s : Ptr
  s = r.spare.ptr

  abbrev hs : List Ptr
  hs = ptrs r.heads.items

  abbrev S : Shaped (cells r) (map (row_at (cells r)) (s ∷ hs))
  S = I.shaped

  abbrev rings_are : map (pages_at (cells r)) hs ≡ v.rings
  rings_are = ap (λ (k : Shelf). k.rings) view

  abbrev spare_is : length (pages_at (cells r) s) ≡ v.spare
  spare_is = ap (λ (k : Shelf). k.spare) view

  pub ring_count : length v.rings ≡ length r.heads.items
  ring_count = ap length (sym rings_are) ∙ length-map hs (pages_at (cells r)) ∙ length-map r.heads.items (λ (n : NodePtr). n.ptr)

  pub spare_at : IsTrue (is_at s (cells r))
  spare_at = moves.spare_there (cells r) s hs S

  kept_sound : (c' : List Cell) → Shaped c' (map (row_at c') (s ∷ hs)) → places c' ≡ places (cells r) → IsSound r c'
  kept_sound c' t e = record { shaped = t; freed = e ∙ I.freed }

  module _ (k : ℕ) (w : k < length v.rings) (n : NodePtr) (e : n ≡ get_or r.heads.items k n) where
    pub within_heads : k < length hs
    within_heads = omega (arith, w, ring_count, length-map r.heads.items (λ (n : NodePtr). n.ptr))

    pub head_is : get_or hs k null_ptr ≡ n.ptr
    head_is = get_or-map (λ (n : NodePtr). n.ptr) r.heads.items k n null_ptr (omega (arith, w, ring_count)) ∙ ap (λ (m : NodePtr). m.ptr) (sym e)

    pub head_at_is : IsTrue (is_at n.ptr (cells r))
    head_at_is = moves.ring_there (cells r) s hs S k within_heads n.ptr head_is

    pub ring_is : IsRing (cells r) n.ptr
    ring_is = ring_of (cells r) s hs S (suc k) (omega (arith, within_heads)) n.ptr head_is

    pub ring_list : ring_at v.rings k ≡ pages_at (cells r) n.ptr
    ring_list = ap (λ l. get_or l k []) (sym rings_are) ∙ list_is (cells r) (s ∷ hs) S (suc k) (omega (arith, within_heads)) n.ptr head_is

    pub ring_told : pages_at (cells r) n.ptr ≡ map (page_of (cells r)) (map (λ (g : Page). g.place) (pages_at (cells r) n.ptr))
    ring_told = told_list (cells r) (s ∷ hs) S (suc k) (omega (arith, within_heads)) n.ptr head_is

    pub ring_headed : Headed (cells r) (row_at (cells r) n.ptr)
    ring_headed = subst (Headed (cells r)) (row_is (cells r) (s ∷ hs) S (suc k) (omega (arith, within_heads)) n.ptr head_is) (S.headed (suc k) (within_rows (cells r) (s ∷ hs) S (suc k) (omega (arith, within_heads)) n.ptr head_is))

    pub ring_spots : spots (ring_at v.rings k) ≡ spots (pages_at (cells r) n.ptr)
    ring_spots = ap spots ring_list

    -- what is read of the page at an index of the ring
    pub ring_read : {X : Type 0} (g : Page → X) (index : ℕ) (p : Ptr) → Indexed (cells r) n.ptr index p → slice_get (map g (ring_at v.rings k)) index ≡ Some (g (page_of (cells r) p))
    ring_read g index p x = ap (λ (l : List Page). slice_get (map g l) index) ring_list ∙ indexed_read g (cells r) n.ptr index p x ring_told

    -- the bytes of each page are replaced
    module _ (c' : List Cell) (b : List ℕ) (F : Fills (cells r) c' (spots (pages_at (cells r) n.ptr)) b) where
      pub fill_sound : IsSound r c'
      fill_sound = kept_sound c' (contents.filled_shaped (cells r) s hs S c' b k within_heads n.ptr head_is F) F.stays.keeps.places

      pub fill_rings : map (pages_at c') hs ≡ with_ring v.rings k (map (holding b) (ring_at v.rings k))
      fill_rings = subst (λ q. map (pages_at c') hs ≡ with_ring q k (map (holding b) (ring_at q k))) rings_are (contents.filled_rings (cells r) s hs S c' b k within_heads n.ptr head_is F)

      pub fill_spare : length (pages_at c' s) ≡ v.spare
      fill_spare = contents.filled_spare (cells r) s hs S c' b k within_heads n.ptr head_is F ∙ spare_is

      pub fill_named : (q : Ptr) → NamedAt v.rings (map (pages_at c') hs) q
      fill_named = subst (λ z. (q : Ptr) → NamedAt z (map (pages_at c') hs) q) rings_are (contents.filled_named (cells r) s hs S c' b k within_heads n.ptr head_is F)

      pub fill_others : (q : Ptr) → stands_in q (ring_at v.rings k) ≡ 0 → SameAt v.rings (map (pages_at c') hs) q
      fill_others = subst (λ z. (q : Ptr) → stands_in q (ring_at z k) ≡ 0 → SameAt z (map (pages_at c') hs) q) rings_are (contents.filled_others (cells r) s hs S c' b k within_heads n.ptr head_is F)

    -- those of the page at an index are
    module _ (c' : List Cell) (b : List ℕ) (index : ℕ) (p : Ptr) (x : Indexed (cells r) n.ptr index p) (W : Writes (cells r) c' p (block_at (cells r) p) b) where
      pub replace_sound : IsSound r c'
      replace_sound = kept_sound c' (contents.written_shaped (cells r) s hs S c' p (block_at (cells r) p) b W) W.stays.keeps.places

      pub replace_rings : map (pages_at c') hs ≡ with_ring v.rings k (replaced (ring_at v.rings k) index b)
      replace_rings = subst (λ q. map (pages_at c') hs ≡ with_ring q k (replaced (ring_at q k) index b)) rings_are (contents.replaced_rings (cells r) s hs S c' p b W k within_heads n.ptr head_is index x)

      pub replace_spare : length (pages_at c' s) ≡ v.spare
      replace_spare = contents.written_spare (cells r) s hs S c' p (block_at (cells r) p) b W ∙ spare_is

      pub replace_named : (q : Ptr) → NamedAt v.rings (map (pages_at c') hs) q
      replace_named = subst (λ z. (q : Ptr) → NamedAt z (map (pages_at c') hs) q) rings_are (contents.rewritten_named (cells r) s hs S c' p b W)

      pub replace_others : (q : Ptr) → stands_in q (ring_at v.rings k) ≡ 0 → SameAt v.rings (map (pages_at c') hs) q
      replace_others q none =
          subst (λ z. SameAt z (map (pages_at c') hs) q) rings_are (contents.written_others (cells r) s hs S c' p (block_at (cells r) p) b W q (λ e. indexed_stands (cells r) n.ptr index p x
          (sym (ap (times p) ring_spots) ∙ sym (stands_places p (ring_at v.rings k)) ∙ ap (λ y. stands_in y (ring_at v.rings k)) (sym e) ∙ none)))

    -- an index past the last page
    pub replace_none : (index : ℕ) (b : List ℕ) → length (pages_at (cells r) n.ptr) ≤ index → v.rings ≡ with_ring v.rings k (replaced (ring_at v.rings k) index b)
    replace_none index b past = sym (ap (with_ring v.rings k) (replaced_past (ring_at v.rings k) index b (subst (λ l. length l ≤ index) (sym ring_list) past)) ∙ set-get_or v.rings k [])

    module _ (f : Ptr) (ef : f ≡ next_at (cells r) n.ptr) where
      pub first_at_is : IsTrue (is_at f (cells r))
      first_at_is =
          subst (λ q. IsTrue (is_at q (cells r))) (sym ef)
          (moves.next_there (cells r) s hs S (suc k) 0 (calls.differ_spare (cells r) s hs S k within_heads n.ptr head_is) (omega (arith, within_heads)) (omega arith) n.ptr s head_is refl)

      module _ (e1 : head_at (cells r) f ≡ true) where
        at1 : head_at (cells r) (next_at (cells r) n.ptr) ≡ true
        at1 = ap (head_at (cells r)) (sym ef) ∙ e1

        pub first_none : ring_at v.rings k ≡ []
        first_none = subst (λ q. ring_at q k ≡ []) rings_are (calls.none (cells r) s hs S k within_heads n.ptr head_is at1)

        pub none_released : v.rings ≡ with_ring v.rings k []
        none_released = subst (λ q. q ≡ with_ring q k []) rings_are (calls.released_none (cells r) s hs S k within_heads n.ptr head_is at1)

        pub none_spare : v.spare ≡ v.spare + length (ring_at v.rings k)
        none_spare = subst (λ (q : Shelf). q.spare ≡ q.spare + length (ring_at q.rings k)) view (calls.spare_none (cells r) s hs S k within_heads n.ptr head_is at1)

        pub none_spliced : (b : ℕ) → v.rings ≡ with_ring (with_ring v.rings k []) b (ring_at v.rings b ++ ring_at v.rings k)
        none_spliced b = subst (λ q. q ≡ with_ring (with_ring q k []) b (ring_at q b ++ ring_at q k)) rings_are (calls.spliced_none (cells r) s hs S k within_heads n.ptr head_is at1 b)

      pub first_index : head_at (cells r) f ≡ false → Indexed (cells r) n.ptr 0 f
      first_index e = first_indexed (cells r) (s ∷ hs) S (suc k) (omega (arith, within_heads)) n.ptr head_is f ef ring_headed e

      module _ (e0 : head_at (cells r) f ≡ false) (l : Ptr) (el : l ≡ prev_at (cells r) n.ptr) where
        at0 : head_at (cells r) (next_at (cells r) n.ptr) ≡ false
        at0 = ap (head_at (cells r)) (sym ef) ∙ e0

        pub release_ends : IsTrue (is_at f (cells r)) × IsTrue (is_at l (cells r)) × IsTrue (is_at s (cells r))
        release_ends =
            subst (λ (q : Ptr × Ptr). IsTrue (is_at q.0 (cells r)) × IsTrue (is_at q.1 (cells r)) × IsTrue (is_at s (cells r))) (λ i. (sym ef i, sym el i))
            (moves.whole_ends (cells r) s hs S (suc k) 0 (calls.differ_spare (cells r) s hs S k within_heads n.ptr head_is) (omega (arith, within_heads)) (omega arith) n.ptr s head_is refl at0)

        pub release_sides : IsTrue (is_at (prev_at (cells r) f) (cells r)) × IsTrue (is_at (next_at (cells r) l) (cells r)) × IsTrue (is_at (prev_at (cells r) s) (cells r))
        release_sides =
            subst (λ (q : Ptr × Ptr). IsTrue (is_at (prev_at (cells r) q.0) (cells r)) × IsTrue (is_at (next_at (cells r) q.1) (cells r)) × IsTrue (is_at (prev_at (cells r) s) (cells r))) (λ i. (sym ef i, sym el i))
            (moves.whole_sides (cells r) s hs S (suc k) 0 (calls.differ_spare (cells r) s hs S k within_heads n.ptr head_is) (omega (arith, within_heads)) (omega arith) n.ptr s head_is refl at0)

        module _ (c' : List Cell) (M₀ : Moves (cells r) c' f l s) where
          M : Moves (cells r) c' (next_at (cells r) n.ptr) (prev_at (cells r) n.ptr) s
          M = subst (λ (q : Ptr × Ptr). Moves (cells r) c' q.0 q.1 s) (λ i. (ef i, el i)) M₀

          pub release_sound : IsSound r c'
          release_sound = kept_sound c' (calls.released_shaped (cells r) s hs S k within_heads n.ptr head_is at0 c' M) ((keeps_all (cells r) c' f l s M₀).places)

          pub release_rings : map (pages_at c') hs ≡ with_ring v.rings k []
          release_rings = subst (λ q. map (pages_at c') hs ≡ with_ring q k []) rings_are (calls.released_rings (cells r) s hs S k within_heads n.ptr head_is at0 c' M)

          pub release_spare : length (pages_at c' s) ≡ v.spare + length (ring_at v.rings k)
          release_spare = subst (λ (q : Shelf). length (pages_at c' s) ≡ q.spare + length (ring_at q.rings k)) view (calls.released_spare (cells r) s hs S k within_heads n.ptr head_is at0 c' M)

          pub release_others : (q : Ptr) → stands_in q (ring_at v.rings k) ≡ 0 → SameAt v.rings (map (pages_at c') hs) q
          release_others = subst (λ z. (q : Ptr) → stands_in q (ring_at z k) ≡ 0 → SameAt z (map (pages_at c') hs) q) rings_are (calls.released_others (cells r) s hs S k within_heads n.ptr head_is at0 c' M)

        module _ (b : ℕ) (kb : k ≢ b) (wb : b < length v.rings) (m : NodePtr) (em : m ≡ get_or r.heads.items b m) where
          differ_two : suc k ≢ suc b
          differ_two z = kb (omega (arith, z))

          to_within : b < length hs
          to_within = omega (arith, wb, ring_count, length-map r.heads.items (λ (n : NodePtr). n.ptr))

          to_is : get_or hs b null_ptr ≡ m.ptr
          to_is = get_or-map (λ (n : NodePtr). n.ptr) r.heads.items b m null_ptr (omega (arith, wb, ring_count)) ∙ ap (λ (x : NodePtr). x.ptr) (sym em)

          pub splice_ends : IsTrue (is_at f (cells r)) × IsTrue (is_at l (cells r)) × IsTrue (is_at m.ptr (cells r))
          splice_ends =
              subst (λ (q : Ptr × Ptr). IsTrue (is_at q.0 (cells r)) × IsTrue (is_at q.1 (cells r)) × IsTrue (is_at m.ptr (cells r))) (λ i. (sym ef i, sym el i))
              (moves.whole_ends (cells r) s hs S (suc k) (suc b) differ_two (omega (arith, within_heads)) (omega (arith, to_within)) n.ptr m.ptr head_is to_is at0)

          pub splice_sides : IsTrue (is_at (prev_at (cells r) f) (cells r)) × IsTrue (is_at (next_at (cells r) l) (cells r)) × IsTrue (is_at (prev_at (cells r) m.ptr) (cells r))
          splice_sides =
              subst (λ (q : Ptr × Ptr). IsTrue (is_at (prev_at (cells r) q.0) (cells r)) × IsTrue (is_at (next_at (cells r) q.1) (cells r)) × IsTrue (is_at (prev_at (cells r) m.ptr) (cells r))) (λ i. (sym ef i, sym el i))
              (moves.whole_sides (cells r) s hs S (suc k) (suc b) differ_two (omega (arith, within_heads)) (omega (arith, to_within)) n.ptr m.ptr head_is to_is at0)

          module _ (c' : List Cell) (M₀ : Moves (cells r) c' f l m.ptr) where
            M₁ : Moves (cells r) c' (next_at (cells r) n.ptr) (prev_at (cells r) n.ptr) m.ptr
            M₁ = subst (λ (q : Ptr × Ptr). Moves (cells r) c' q.0 q.1 m.ptr) (λ i. (ef i, el i)) M₀

            pub splice_sound : IsSound r c'
            splice_sound = kept_sound c' (calls.spliced_shaped (cells r) s hs S k within_heads n.ptr head_is at0 c' b kb to_within m.ptr to_is M₁) ((keeps_all (cells r) c' f l m.ptr M₀).places)

            pub splice_rings : map (pages_at c') hs ≡ with_ring (with_ring v.rings k []) b (ring_at v.rings b ++ ring_at v.rings k)
            splice_rings =
                subst (λ q. map (pages_at c') hs ≡ with_ring (with_ring q k []) b (ring_at q b ++ ring_at q k)) rings_are
                (calls.spliced_rings (cells r) s hs S k within_heads n.ptr head_is at0 c' b kb to_within m.ptr to_is M₁)

            pub splice_spare : length (pages_at c' s) ≡ v.spare
            splice_spare = calls.spliced_spare (cells r) s hs S k within_heads n.ptr head_is at0 c' b kb to_within m.ptr to_is M₁ ∙ spare_is

            pub splice_others : (q : Ptr) → SameAt v.rings (map (pages_at c') hs) q
            splice_others = subst (λ z. (q : Ptr) → SameAt z (map (pages_at c') hs) q) rings_are (calls.spliced_others (cells r) s hs S k within_heads n.ptr head_is at0 c' b kb to_within m.ptr to_is M₁)

    module _ (l : Ptr) (el : l ≡ prev_at (cells r) n.ptr) where
      pub last_at_is : IsTrue (is_at l (cells r))
      last_at_is = last_there (cells r) (s ∷ hs) S (suc k) (omega (arith, within_heads)) n.ptr head_is l el

      pub last_none : head_at (cells r) l ≡ true → ring_at v.rings k ≡ []
      last_none e = ring_list ∙ last_empty (cells r) (s ∷ hs) S (suc k) (omega (arith, within_heads)) n.ptr head_is l el ring_headed e

      pub last_index : head_at (cells r) l ≡ false → Indexed (cells r) n.ptr (length (ring_at v.rings k) - 1) l
      last_index e = subst (λ m. Indexed (cells r) n.ptr (length m - 1) l) (sym ring_list) (last_indexed (cells r) (s ∷ hs) S (suc k) (omega (arith, within_heads)) n.ptr head_is l el ring_headed e)

    -- a spare page is put at the end of the ring k
    module _ (some : 0 < v.spare) where
      has_some : 0 < length (pages_at (cells r) s)
      has_some = omega (arith, some, spare_is)

      module _ (f : Ptr) (ef : f ≡ next_at (cells r) s) where
        pub put_page : IsTrue (is_at f (cells r))
        put_page = subst (λ q. IsTrue (is_at q (cells r))) (sym ef) (calls.put_page (cells r) s hs S k within_heads n.ptr head_is has_some)

        pub put_fresh : standing f v.rings ≡ 0
        put_fresh = subst (λ (q : Ptr × List (List Page)). standing q.0 q.1 ≡ 0) (λ i. (sym ef i, rings_are i)) (calls.put_fresh (cells r) s hs S k within_heads n.ptr head_is has_some)

        module _ (c1 : List Cell) (block : ℕ) (b : List ℕ) (W₀ : Writes (cells r) c1 f block b) where
          W : Writes (cells r) c1 (next_at (cells r) s) block b
          W = subst (λ q. Writes (cells r) c1 q block b) ef W₀

          pub put_ends : IsTrue (is_at f c1) × IsTrue (is_at f c1) × IsTrue (is_at n.ptr c1)
          put_ends = subst (λ q. IsTrue (is_at q c1) × IsTrue (is_at q c1) × IsTrue (is_at n.ptr c1)) (sym ef) (calls.put_ends (cells r) s hs S k within_heads n.ptr head_is has_some c1 block b W)

          pub put_sides : IsTrue (is_at (prev_at c1 f) c1) × IsTrue (is_at (next_at c1 f) c1) × IsTrue (is_at (prev_at c1 n.ptr) c1)
          put_sides =
              subst (λ q. IsTrue (is_at (prev_at c1 q) c1) × IsTrue (is_at (next_at c1 q) c1) × IsTrue (is_at (prev_at c1 n.ptr) c1)) (sym ef) (calls.put_sides (cells r) s hs S k within_heads n.ptr head_is has_some c1 block b W)

          module _ (c2 : List Cell) (M₀ : Moves c1 c2 f f n.ptr) where
            M₂ : Moves c1 c2 (next_at (cells r) s) (next_at (cells r) s) n.ptr
            M₂ = subst (λ q. Moves c1 c2 q q n.ptr) ef M₀

            pub put_sound : IsSound r c2
            put_sound = kept_sound c2 (calls.put_shaped (cells r) s hs S k within_heads n.ptr head_is has_some c1 block b W c2 M₂) (calls.put_places (cells r) s hs S k within_heads n.ptr head_is has_some c1 block b W c2 M₂)

            pub put_rings : map (pages_at c2) hs ≡ with_ring v.rings k (ring_at v.rings k ++ page f block b ∷ [])
            put_rings =
                subst (λ (q : Ptr × List (List Page)). map (pages_at c2) hs ≡ with_ring q.1 k (ring_at q.1 k ++ page q.0 block b ∷ [])) (λ i. (sym ef i, rings_are i))
                (calls.put_rings (cells r) s hs S k within_heads n.ptr head_is has_some c1 block b W c2 M₂)

            pub put_spare : length (pages_at c2 s) + 1 ≡ v.spare
            put_spare = calls.put_spare (cells r) s hs S k within_heads n.ptr head_is has_some c1 block b W c2 M₂ ∙ spare_is

            pub put_token : Stands (map (pages_at c2) hs) f × (block_of f (map (pages_at c2) hs) ≡ block) × (bytes_of f (map (pages_at c2) hs) ≡ b)
            put_token =
                subst (λ q. Stands (map (pages_at c2) hs) q × (block_of q (map (pages_at c2) hs) ≡ block) × (bytes_of q (map (pages_at c2) hs) ≡ b)) (sym ef)
                (let told = calls.put_told (cells r) s hs S k within_heads n.ptr head_is has_some c1 block b W c2 M₂ in
                (calls.put_stands (cells r) s hs S k within_heads n.ptr head_is has_some c1 block b W c2 M₂, told.0, told.1))

            pub put_others : (q : Ptr) → q ≢ f → SameAt v.rings (map (pages_at c2) hs) q
            put_others =
                subst (λ (z : Ptr × List (List Page)). (q : Ptr) → q ≢ z.0 → SameAt z.1 (map (pages_at c2) hs) q) (λ i. (sym ef i, rings_are i))
                (calls.put_others (cells r) s hs S k within_heads n.ptr head_is has_some c1 block b W c2 M₂)

  -- the token of a page
  module _ (p t : Ptr) (ep : p ≡ t) (st : Stands v.rings t) where
    st₀ : standing p (map (pages_at (cells r)) hs) ≡ 1
    st₀ = subst (λ (q : Ptr × List (List Page)). standing q.0 q.1 ≡ 1) (λ i. (sym ep i, sym rings_are i)) st

    pub page_at : IsTrue (is_at p (cells r))
    page_at = moves.stands_there (cells r) s hs S p (omega (arith, st₀))

    pub page_block : block_at (cells r) p ≡ block_of t v.rings
    page_block = sym (moves.block_is (cells r) s hs S p st₀) ∙ (λ i. block_of (ep i) (rings_are i))

    pub page_bytes : bytes_at (cells r) p ≡ bytes_of t v.rings
    page_bytes = sym (moves.bytes_are (cells r) s hs S p st₀) ∙ (λ i. bytes_of (ep i) (rings_are i))

    pub unlink_ends : IsTrue (is_at p (cells r)) × IsTrue (is_at p (cells r)) × IsTrue (is_at s (cells r))
    unlink_ends = moves.one_ends (cells r) s hs S p st₀

    pub unlink_sides : IsTrue (is_at (prev_at (cells r) p) (cells r)) × IsTrue (is_at (next_at (cells r) p) (cells r)) × IsTrue (is_at (prev_at (cells r) s) (cells r))
    unlink_sides = moves.one_sides (cells r) s hs S p st₀

    module _ (c' : List Cell) (M : Moves (cells r) c' p p s) where
      pub unlink_sound : IsSound r c'
      unlink_sound = kept_sound c' (moves.one_shaped (cells r) s hs S p st₀ c' M) (moves.one_places (cells r) s hs S p st₀ c' M)

      pub unlink_rings : map (pages_at c') hs ≡ map (without t) v.rings
      unlink_rings = subst (λ (q : Ptr × List (List Page)). map (pages_at c') hs ≡ map (without q.0) q.1) (λ i. (ep i, rings_are i)) (moves.one_rings (cells r) s hs S p st₀ c' M)

      pub unlink_spare : length (pages_at c' s) ≡ v.spare + 1
      unlink_spare = moves.one_spare (cells r) s hs S p st₀ c' M ∙ ap (λ k. k + 1) spare_is

      pub unlink_gone : standing t (map (pages_at c') hs) ≡ 0
      unlink_gone = subst (λ q. standing q (map (pages_at c') hs) ≡ 0) ep (moves.one_gone (cells r) s hs S p st₀ c' M)

      pub unlink_others : (q : Ptr) → q ≢ t → SameAt v.rings (map (pages_at c') hs) q
      unlink_others = subst (λ (z : Ptr × List (List Page)). (q : Ptr) → q ≢ z.0 → SameAt z.1 (map (pages_at c') hs) q) (λ i. (ep i, rings_are i)) (moves.one_others (cells r) s hs S p st₀ c' M)

    module _ (c' : List Cell) (b : List ℕ) (W : Writes (cells r) c' p (block_at (cells r) p) b) where
      pub write_sound : IsSound r c'
      write_sound = kept_sound c' (contents.written_shaped (cells r) s hs S c' p (block_at (cells r) p) b W) W.stays.keeps.places

      pub write_rings : map (pages_at c') hs ≡ map (map (rewritten t b)) v.rings
      write_rings = subst (λ (q : Ptr × List (List Page)). map (pages_at c') hs ≡ map (map (rewritten q.0 b)) q.1) (λ i. (ep i, rings_are i)) (contents.rewritten_rings (cells r) s hs S c' p b W)

      pub write_spare : length (pages_at c' s) ≡ v.spare
      write_spare = contents.written_spare (cells r) s hs S c' p (block_at (cells r) p) b W ∙ spare_is

      pub write_token : Stands (map (pages_at c') hs) t × (bytes_of t (map (pages_at c') hs) ≡ b)
      write_token =
          subst (λ q. Stands (map (pages_at c') hs) q × (bytes_of q (map (pages_at c') hs) ≡ b)) ep
          (contents.written_count (cells r) s hs S c' p (block_at (cells r) p) b W p ∙ st₀, contents.written_bytes (cells r) s hs S c' p (block_at (cells r) p) b W st₀)

      pub write_named : (q : Ptr) → NamedAt v.rings (map (pages_at c') hs) q
      write_named = subst (λ (z : List (List Page)). (q : Ptr) → NamedAt z (map (pages_at c') hs) q) rings_are (contents.rewritten_named (cells r) s hs S c' p b W)

      pub write_others : (q : Ptr) → q ≢ t → SameAt v.rings (map (pages_at c') hs) q
      write_others =
          subst (λ (z : Ptr × List (List Page)). (q : Ptr) → q ≢ z.0 → SameAt z.1 (map (pages_at c') hs) q) (λ i. (ep i, rings_are i)) (contents.written_others (cells r) s hs S c' p (block_at (cells r) p) b W)
