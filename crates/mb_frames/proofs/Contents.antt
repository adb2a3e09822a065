-- What pages hold changes, and the links stay.
use Rattle.std.proofs.Common.{◌≡◌, ℕ, suc, ◌<◌, true, false, cond, List, [], ◌∷◌, ◌++◌, length, get_or, set, map, refl, sym, ap, ◌∙◌, arith}
use Rattle.std.proofs.lemmas.List.{length-map, map-append}
use Rattle.std.specs.Prelude.{◌≢◌}
use denote.RawPtr.{Ptr, null_ptr}
use Rattle.mb_frames.specs.Pointers.{same_ptr}
use Rattle.mb_frames.specs.Counts.{times}
use Rattle.mb_frames.specs.Cells.{Cell, has, block_at, bytes_at, Stays, Writes, Fills}
use Rattle.mb_frames.specs.Shape.{Shaped}
use Rattle.mb_frames.specs.Pages.{Page, page, ring_at, with_ring, stands_in, standing, bytes_of, any, rewritten, replaced, NamedAt, SameAt}
use Rattle.mb_frames.specs.Walks.{page_of, pages_at, row_at}
use Rattle.mb_frames.proofs.Pointers.{same_ptr_refl, same_ptr_eq}
use Rattle.mb_frames.proofs.Pages.{read_told, named_at, other_ptr, standing_each, stored, stored_place, rewritten_place, replaced_set}
use Rattle.mb_frames.proofs.Filled.{refilled, refilled_place, holding, refilled_set, has_none, stands_places}
use Rattle.mb_frames.proofs.Steps.{spots, Indexed, list_is, told_list, stays_shaped, stays_lists}
use Rattle.mb_frames.proofs.Moves.{tail_of, first_or, rings, told_rings, told_new, once_rings, stays}

module _ (c : List Cell) (s : Ptr) (hs : List Ptr) (S : Shaped c (map (row_at c) (s ∷ hs))) where
  abbrev R : List (List Page)
  R = rings c s hs S

  -- the links stay, and each page becomes what f makes of it
  module _ (c' : List Cell) (T : Stays c c') (f : Page → Page) (e : (q : Ptr) → page_of c' q ≡ f (page_of c q)) (same : (g : Page) → (f g).place ≡ g.place) where
    pub kept_shaped : Shaped c' (map (row_at c') (s ∷ hs))
    kept_shaped = stays_shaped c (s ∷ hs) S c' T

    kept_lists : map (pages_at c') (s ∷ hs) ≡ map (map f) (pages_at c s ∷ R)
    kept_lists = stays_lists c (s ∷ hs) S c' T f e

    pub kept_rings : map (pages_at c') hs ≡ map (map f) R
    kept_rings = ap tail_of kept_lists

    pub kept_first : pages_at c' s ≡ map f (pages_at c s)
    kept_first = ap first_or kept_lists

    pub kept_spare : length (pages_at c' s) ≡ length (pages_at c s)
    kept_spare = ap length kept_first ∙ length-map (pages_at c s) f

    pub kept_count : (q : Ptr) → standing q (map (pages_at c') hs) ≡ standing q R
    kept_count q = ap (standing q) kept_rings ∙ standing_each f same q R

    pub kept_same : (q : Ptr) → page_of c' q ≡ page_of c q → SameAt R (map (pages_at c') hs) q
    kept_same q z = stays c s hs S c' kept_shaped q (kept_count q) z

    pub kept_named : (q : Ptr) → block_at c' q ≡ block_at c q → NamedAt R (map (pages_at c') hs) q
    kept_named q z = named_at q c c' R (map (pages_at c') hs) (told_rings c s hs S) (told_new c s hs S c' kept_shaped) (kept_count q) z

  -- one page holds other bytes, and maybe another block
  module _ (c' : List Cell) (p : Ptr) (k : ℕ) (b : List ℕ) (W : Writes c c' p k b) where
    page_stored : (q : Ptr) → page_of c' q ≡ stored p k b (page_of c q)
    page_stored q = (λ i. page q (W.block q i) (W.bytes q i)) ∙ (elim (same_ptr p q) as (λ y. page q (cond y k (block_at c q)) (cond y b (bytes_at c q)) ≡ cond y (page q k b) (page_of c q)) [
      | true ↦ refl
      | false ↦ refl
    ])

    pub written_shaped : Shaped c' (map (row_at c') (s ∷ hs))
    written_shaped = kept_shaped c' W.stays (stored p k b) page_stored (stored_place p k b)

    pub written_rings : map (pages_at c') hs ≡ map (map (stored p k b)) R
    written_rings = kept_rings c' W.stays (stored p k b) page_stored (stored_place p k b)

    pub written_first : pages_at c' s ≡ map (stored p k b) (pages_at c s)
    written_first = kept_first c' W.stays (stored p k b) page_stored (stored_place p k b)

    pub written_spare : length (pages_at c' s) ≡ length (pages_at c s)
    written_spare = kept_spare c' W.stays (stored p k b) page_stored (stored_place p k b)

    pub written_count : (q : Ptr) → standing q (map (pages_at c') hs) ≡ standing q R
    written_count = kept_count c' W.stays (stored p k b) page_stored (stored_place p k b)

    pub written_page : page_of c' p ≡ page p k b
    written_page = page_stored p ∙ ap (λ y. cond y (page p k b) (page_of c p)) (same_ptr_refl p)

    pub written_apart : (q : Ptr) → q ≢ p → page_of c' q ≡ page_of c q
    written_apart q n = page_stored q ∙ ap (λ y. cond y (page q k b) (page_of c q)) (other_ptr p q n)

    pub written_others : (q : Ptr) → q ≢ p → SameAt R (map (pages_at c') hs) q
    written_others q n = kept_same c' W.stays (stored p k b) page_stored (stored_place p k b) q (written_apart q n)

    pub written_bytes : standing p R ≡ 1 → bytes_of p (map (pages_at c') hs) ≡ b
    written_bytes e =
        read_told (λ g. g.bytes) [] p c' (map (pages_at c') hs) (told_new c s hs S c' written_shaped)
        ∙ ap (λ n. cond (any n) (bytes_at c' p) []) (written_count p ∙ e) ∙ ap (λ (g : Page). g.bytes) written_page

  -- its block stays
  module _ (c' : List Cell) (p : Ptr) (b : List ℕ) (W : Writes c c' p (block_at c p) b) where
    block_kept : (q : Ptr) → block_at c' q ≡ block_at c q
    block_kept q = W.block q ∙ (elim (same_ptr p q) as (λ y. same_ptr p q ≡ y → cond y (block_at c p) (block_at c q) ≡ block_at c q) [
      | true ↦ λ e. ap (block_at c) (same_ptr_eq p q e)
      | false ↦ λ e. refl
    ]) refl

    page_rewritten : (q : Ptr) → page_of c' q ≡ rewritten p b (page_of c q)
    unfolding rewritten
    page_rewritten q = (λ i. page q (block_kept q i) (W.bytes q i)) ∙ (elim (same_ptr p q) as (λ y. page q (block_at c q) (cond y b (bytes_at c q)) ≡ cond y (page q (block_at c q) b) (page_of c q)) [
      | true ↦ refl
      | false ↦ refl
    ])

    pub rewritten_rings : map (pages_at c') hs ≡ map (map (rewritten p b)) R
    rewritten_rings = kept_rings c' W.stays (rewritten p b) page_rewritten (rewritten_place p b)

    pub rewritten_named : (q : Ptr) → NamedAt R (map (pages_at c') hs) q
    rewritten_named q = kept_named c' W.stays (rewritten p b) page_rewritten (rewritten_place p b) q (block_kept q)

    -- it is the page at an index of the ring k
    pub replaced_rings : (k : ℕ) → k < length hs → (h : Ptr) → get_or hs k null_ptr ≡ h → (index : ℕ) → Indexed c h index p → map (pages_at c') hs ≡ with_ring R k (replaced (ring_at R k) index b)
    replaced_rings k w h e index x =
        let v : k < length R = omega (arith, w, length-map hs (pages_at c)) in
        let is : get_or R k [] ≡ map (page_of c) x.before ++ page_of c p ∷ map (page_of c) x.after =
        list_is c (s ∷ hs) S (suc k) (omega (arith, w)) h e ∙ told_list c (s ∷ hs) S (suc k) (omega (arith, w)) h e ∙ ap (map (page_of c)) x.cut ∙ map-append (page_of c) x.before (p ∷ x.after) in
        rewritten_rings ∙ replaced_set p b R k (page_of c p) (map (page_of c) x.before) (map (page_of c) x.after) v is refl (omega (arith, once_rings c s hs S p))
        ∙ ap (λ n. set R k (replaced (get_or R k []) n b)) (length-map x.before (page_of c) ∙ sym x.count)

  -- each page of the ring of h holds other bytes
  module _ (c' : List Cell) (b : List ℕ) (k : ℕ) (wk : k < length hs) (h : Ptr) (e : get_or hs k null_ptr ≡ h) (F : Fills c c' (spots (pages_at c h)) b) where
    abbrev G : Page → Page
    G = refilled (spots (pages_at c h)) b

    page_filled : (q : Ptr) → page_of c' q ≡ G (page_of c q)
    page_filled q = (λ i. page q (F.block q i) (F.bytes q i)) ∙ (elim (has q (spots (pages_at c h))) as (λ y. page q (block_at c q) (cond y b (bytes_at c q)) ≡ cond y (page q (block_at c q) b) (page_of c q)) [
      | true ↦ refl
      | false ↦ refl
    ])

    places_are : spots (ring_at R k) ≡ spots (pages_at c h)
    places_are = ap spots (list_is c (s ∷ hs) S (suc k) (omega (arith, wk)) h e)

    pub filled_shaped : Shaped c' (map (row_at c') (s ∷ hs))
    filled_shaped = kept_shaped c' F.stays G page_filled (refilled_place (spots (pages_at c h)) b)

    pub filled_rings : map (pages_at c') hs ≡ with_ring R k (map (holding b) (ring_at R k))
    filled_rings =
        kept_rings c' F.stays G page_filled (refilled_place (spots (pages_at c h)) b)
        ∙ refilled_set (spots (pages_at c h)) b R k (omega (arith, wk, length-map hs (pages_at c))) places_are (λ q. omega (arith, once_rings c s hs S q))

    pub filled_spare : length (pages_at c' s) ≡ length (pages_at c s)
    filled_spare = kept_spare c' F.stays G page_filled (refilled_place (spots (pages_at c h)) b)

    pub filled_named : (q : Ptr) → NamedAt R (map (pages_at c') hs) q
    filled_named q = kept_named c' F.stays G page_filled (refilled_place (spots (pages_at c h)) b) q (F.block q)

    pub filled_others : (q : Ptr) → stands_in q (ring_at R k) ≡ 0 → SameAt R (map (pages_at c') hs) q
    filled_others q none =
        kept_same c' F.stays G page_filled (refilled_place (spots (pages_at c h)) b) q
        (page_filled q ∙ ap (λ y. cond y (page q (block_at c q) b) (page_of c q)) (has_none q (spots (pages_at c h)) (sym (stands_places q (ring_at R k) ∙ ap (times q) places_are) ∙ none)))
