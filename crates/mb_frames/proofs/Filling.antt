-- A walk that writes into each page of a ring.
use Rattle.std.proofs.Common.{◌≡◌, ℕ, zero, suc, ◌<◌, true, false, ◌||◌, cond, List, [], ◌∷◌, ◌++◌, length, refl, sym, ap, ◌∙◌, subst, arith, append_assoc, append-nil, length-append}
use Rattle.std.proofs.lemmas.List.{length-map}
use Rattle.std.proofs.lemmas.Bool.{true≢false}
use Rattle.std.specs.Prelude.{IsTrue}
use Rattle.std.specs.List.{AllByRecursion}
use denote.RawPtr.{Ptr}
use Rattle.mb_frames.specs.Pointers.{same_ptr}
use Rattle.mb_frames.specs.Counts.{times}
use Rattle.mb_frames.specs.Cells.{Cell, has, is_at, next_at, prev_at, head_at, block_at, bytes_at, Stays, Writes, Fills}
use Rattle.mb_frames.specs.Shape.{Linked}
use Rattle.mb_frames.specs.Walks.{page_of, follow, pages_at, IsRing, first_or_head}
use Rattle.mb_frames.proofs.Pointers.{same_ptr_eq}
use Rattle.mb_frames.proofs.Chains.{last, last_append, one_self, times_cons, times_append, cut_chain}
use Rattle.mb_frames.proofs.Cells.{is_kept}
use Rattle.mb_frames.proofs.Shapes.{all_cut, all_map, places_length}
use Rattle.mb_frames.proofs.Views.{map_places, pages_row, follow_end, follow_chain}
use Rattle.mb_frames.proofs.Walks.{first_link, ring_head}
use Rattle.mb_frames.proofs.Steps.{spots}

-- on the way: the pages before are written
pub record Filling (c₀ c : List Cell) (h at : Ptr) (content : List ℕ) : Type 0 where
  pub ring : IsRing c₀ h
  pub before : List Ptr
  pub after : List Ptr
  pub cut : ring.pages ≡ before ++ after
  pub there : at ≡ first_or_head after h
  pub done : Fills c₀ c before content

stays_none : (c : List Cell) → Stays c c
stays_none c = record { keeps = record { places = refl; heads = λ q. refl }; next = λ q. refl; prev = λ q. refl }

fills_none : (c : List Cell) (content : List ℕ) → Fills c c [] content
unfolding has
fills_none c content = record { stays = stays_none c; block = λ q. refl; bytes = λ q. refl }

has_more : {X : Type 0} (q p : Ptr) (ps : List Ptr) (x y : X) → cond (has q (ps ++ p ∷ [])) x y ≡ cond (same_ptr p q) x (cond (has q ps) x y)
unfolding has
has_more q p [] x y = (elim (same_ptr p q) as (λ k. cond (k || false) x y ≡ cond k x y) [
  | true ↦ refl
  | false ↦ refl
])
has_more q p (r ∷ ps) x y = (elim (same_ptr r q) as (λ k. cond (k || has q (ps ++ p ∷ [])) x y ≡ cond (same_ptr p q) x (cond (k || has q ps) x y)) [
  | true ↦ (elim (same_ptr p q) as (λ k. x ≡ cond k x x) [
    | true ↦ refl
    | false ↦ refl
  ])
  | false ↦ has_more q p ps x y
])

fills_more : (c₀ c c' : List Cell) (ps : List Ptr) (p : Ptr) (content : List ℕ) → Fills c₀ c ps content → Writes c c' p (block_at c p) content → Fills c₀ c' (ps ++ p ∷ []) content
fills_more c₀ c c' ps p content F W = record {
  stays = record {
    keeps = record { places = W.stays.keeps.places ∙ F.stays.keeps.places; heads = λ q. W.stays.keeps.heads q ∙ F.stays.keeps.heads q };
    next = λ q. W.stays.next q ∙ F.stays.next q;
    prev = λ q. W.stays.prev q ∙ F.stays.prev q;
  };
  block = λ q. W.block q ∙ (elim (same_ptr p q) as (λ y. same_ptr p q ≡ y → cond y (block_at c p) (block_at c q) ≡ block_at c q) [
    | true ↦ λ e. ap (block_at c) (same_ptr_eq p q e)
    | false ↦ λ e. refl
  ]) refl ∙ F.block q;
  bytes = λ q. W.bytes q ∙ ap (λ l. cond (same_ptr p q) content l) (F.bytes q) ∙ sym (has_more q p ps content (bytes_at c₀ q));
}

pub fill_starts : (c : List Cell) (h at : Ptr) (content : List ℕ) → IsRing c h → at ≡ next_at c h → Filling c c h at content
fill_starts c h at content r e = record { ring = r; before = []; after = r.pages; cut = refl; there = e ∙ first_link c h r.pages r.round; done = fills_none c content }

last_one : (a : Ptr) → last a [] ≡ a
unfolding last
last_one a = refl

-- from a page on: it, and those that come
follow_from : (n : ℕ) (c : List Cell) (y : Ptr) (ys : List Ptr) (z : Ptr) → head_at c y ≡ false → Linked (next_at c) (prev_at c) y (ys ++ z ∷ []) → head_at c z ≡ true → AllByRecursion (λ p. head_at c p ≡ false) ys → length ys < n
    → length (follow n c y) ≡ length (y ∷ ys)
unfolding follow
follow_from zero c y ys z f l e a w = absurd (omega (arith, w))
follow_from (suc n) c y ys z f l e a w =
    ap (λ k. length (cond k [] (page_of c y ∷ follow n c (next_at c y)))) f ∙ ap (λ k. length (page_of c y ∷ k)) (follow_chain n c y ys z l e a (omega (arith, w))) ∙ ap suc (length-map ys (page_of c))

module _ (c₀ c : List Cell) (h at : Ptr) (content : List ℕ) (w : Filling c₀ c h at content) where
  by_after : (ps : List Ptr) → w.after ≡ ps → IsTrue (is_at at c₀)
  by_after [] e = subst (λ q. IsTrue (is_at q c₀)) (sym (w.there ∙ ap (λ l. first_or_head l h) e)) (ring_head c₀ h w.ring)
  by_after (y ∷ ys) e =
      subst (λ q. IsTrue (is_at q c₀)) (sym (w.there ∙ ap (λ l. first_or_head l h) e))
      (w.ring.here y (omega (arith, times_cons y h w.ring.pages, ap (times y) (w.cut ∙ ap (λ l. w.before ++ l) e), times_append y w.before (y ∷ ys), times_cons y y ys, one_self y)))

  pub fill_there : IsTrue (is_at at c)
  fill_there = is_kept c₀ c at w.done.stays.keeps (by_after w.after refl)

  heads_at : (q : Ptr) → head_at c q ≡ head_at c₀ q
  heads_at = w.done.stays.keeps.heads

  -- the page that the walk is at, and those that come
  pub record Coming : Type 0 where
    pub y : Ptr
    pub ys : List Ptr
    pub is : w.after ≡ y ∷ ys
    pub at_y : at ≡ y

  coming_by : (ps : List Ptr) → w.after ≡ ps → head_at c at ≡ false → Coming
  coming_by [] e f = absurd (true≢false (sym (heads_at at ∙ ap (head_at c₀) (w.there ∙ ap (λ l. first_or_head l h) e) ∙ w.ring.headed.0) ∙ f))
  coming_by (y ∷ ys) e f = record { y = y; ys = ys; is = e; at_y = w.there ∙ ap (λ l. first_or_head l h) e }

  module _ (f : head_at c at ≡ false) where
    C : Coming
    C = coming_by w.after refl f

    cut : w.ring.pages ≡ (w.before ++ C.y ∷ []) ++ C.ys
    cut = w.cut ∙ ap (λ l. w.before ++ l) C.is ∙ sym (append_assoc w.before (C.y ∷ []) C.ys)

    rest : Linked (next_at c₀) (prev_at c₀) C.y (C.ys ++ h ∷ [])
    rest =
        let whole : Linked (next_at c₀) (prev_at c₀) h ((w.before ++ C.y ∷ []) ++ (C.ys ++ h ∷ [])) =
        subst (Linked (next_at c₀) (prev_at c₀) h) (ap (λ l. l ++ h ∷ []) cut ∙ append_assoc (w.before ++ C.y ∷ []) C.ys (h ∷ [])) w.ring.round in
        subst (λ k. Linked (next_at c₀) (prev_at c₀) k (C.ys ++ h ∷ [])) (last_append h w.before C.y [] ∙ last_one C.y) (cut_chain (next_at c₀) (prev_at c₀) h (w.before ++ C.y ∷ []) (C.ys ++ h ∷ []) whole).1

    next_link : (y : Ptr) (ys : List Ptr) → Linked (next_at c₀) (prev_at c₀) y (ys ++ h ∷ []) → next_at c₀ y ≡ first_or_head ys h
    next_link y [] l = l.0
    next_link y (z ∷ zs) l = l.0

    module _ (c' : List Cell) (W : Writes c c' at (block_at c at) content) (next : Ptr) (en : next ≡ next_at c' at) where
      next_is : next ≡ first_or_head C.ys h
      next_is = en ∙ W.stays.next at ∙ w.done.stays.next at ∙ ap (next_at c₀) C.at_y ∙ next_link C.y C.ys rest

      unfoldable stepped : Filling c₀ c' h next content
      stepped = record {
        ring = w.ring;
        before = w.before ++ C.y ∷ [];
        after = C.ys;
        cut = cut;
        there = next_is;
        done = fills_more c₀ c c' w.before C.y content w.done (subst (λ q. Writes c c' q (block_at c q) content) C.at_y W);
      }

      pub fill_steps : Filling c₀ c' h next content
      fill_steps = stepped

  from_here : (y : Ptr) (ys : List Ptr) → w.after ≡ y ∷ ys → (head_at c y ≡ false) × Linked (next_at c) (prev_at c) y (ys ++ h ∷ []) × AllByRecursion (λ q. head_at c q ≡ false) ys
  from_here y ys e =
      let cut : w.ring.pages ≡ (w.before ++ y ∷ []) ++ ys = w.cut ∙ ap (λ l. w.before ++ l) e ∙ sym (append_assoc w.before (y ∷ []) ys) in
      let whole : Linked (next_at c₀) (prev_at c₀) h ((w.before ++ y ∷ []) ++ (ys ++ h ∷ [])) = subst (Linked (next_at c₀) (prev_at c₀) h) (ap (λ l. l ++ h ∷ []) cut ∙ append_assoc (w.before ++ y ∷ []) ys (h ∷ [])) w.ring.round in
      let links : Linked (next_at c₀) (prev_at c₀) y (ys ++ h ∷ []) = subst (λ k. Linked (next_at c₀) (prev_at c₀) k (ys ++ h ∷ [])) (last_append h w.before y [] ∙ last_one y) (cut_chain (next_at c₀) (prev_at c₀) h (w.before ++ y ∷ []) (ys ++ h ∷ []) whole).1 in
      let a = all_cut (λ q. head_at c₀ q ≡ false) w.before (y ∷ ys) (subst (AllByRecursion (λ q. head_at c₀ q ≡ false)) (w.cut ∙ ap (λ l. w.before ++ l) e) w.ring.headed.1) in (
        heads_at y ∙ a.1.0,
        subst (λ (f : (Ptr → Ptr) × (Ptr → Ptr)). Linked f.0 f.1 y (ys ++ h ∷ [])) (λ i. ((λ q. sym (w.done.stays.next q) i), (λ q. sym (w.done.stays.prev q) i))) links,
        all_map (λ q. head_at c₀ q ≡ false) (λ q. head_at c q ≡ false) (λ q b. heads_at q ∙ b) ys a.1.1,
      )

  -- the pages from here on
  left_by : (ps : List Ptr) → w.after ≡ ps → length (follow (length c) c at) ≡ length ps
  left_by [] e =
      ap length (follow_end (length c) c at (heads_at at ∙ ap (head_at c₀) (w.there ∙ ap (λ l. first_or_head l h) e) ∙ w.ring.headed.0))
  left_by (y ∷ ys) e =
      let d = from_here y ys e in
      ap (λ q. length (follow (length c) c q)) (w.there ∙ ap (λ l. first_or_head l h) e)
      ∙ follow_from (length c) c y ys h d.0 d.1 (heads_at h ∙ w.ring.headed.0) d.2
      (omega (
        arith,
        w.ring.bounded,
        ap length (w.cut ∙ ap (λ l. w.before ++ l) e),
        length-append w.before (y ∷ ys),
        ap length w.done.stays.keeps.places,
        places_length c,
        places_length c₀,
      ))

  -- how many there are
  pub left_is : length (follow (length c) c at) ≡ length w.after
  left_is = left_by w.after refl

  ended_by : (ps : List Ptr) → w.after ≡ ps → head_at c at ≡ true → ps ≡ []
  ended_by [] e f = refl
  ended_by (y ∷ ys) e f =
      let a = all_cut (λ q. head_at c₀ q ≡ false) w.before (y ∷ ys) (subst (AllByRecursion (λ q. head_at c₀ q ≡ false)) (w.cut ∙ ap (λ l. w.before ++ l) e) w.ring.headed.1) in
      absurd (true≢false (sym f ∙ heads_at at ∙ ap (head_at c₀) (w.there ∙ ap (λ l. first_or_head l h) e) ∙ a.1.0))

  pub fill_ends : head_at c at ≡ true → Fills c₀ c (spots (pages_at c₀ h)) content
  fill_ends f =
      let whole : w.before ≡ spots (pages_at c₀ h) =
      sym (append-nil w.before) ∙ ap (λ l. w.before ++ l) (sym (ended_by w.after refl f)) ∙ sym w.cut ∙ sym (ap spots (pages_row c₀ h w.ring.pages w.ring.round w.ring.headed w.ring.bounded) ∙ map_places c₀ w.ring.pages) in
      subst (λ l. Fills c₀ c l content) whole w.done

-- a step leaves fewer
pub fill_fewer : (c₀ c c' : List Cell) (h at : Ptr) (content : List ℕ) (w : Filling c₀ c h at content) (f : head_at c at ≡ false) (W : Writes c c' at (block_at c at) content) (next : Ptr) (en : next ≡ next_at c' at)
    → length (follow (length c') c' next) < length (follow (length c) c at)
unfolding stepped
fill_fewer c₀ c c' h at content w f W next en = omega (
  arith,
  left_is c₀ c h at content w,
  left_is c₀ c' h next content (stepped c₀ c h at content w f c' W next en),
  ap length (C c₀ c h at content w f).is,
)
