-- The first and the last page of a ring.
use Rattle.std.proofs.Common.{◌≡◌, ℕ, zero, suc, ◌-◌, ◌<◌, ◌≤◌, true, false, List, [], ◌∷◌, ◌++◌, length, get_or, map, refl, sym, ap, ◌∙◌, subst, arith}
use Rattle.std.proofs.lemmas.List.{length-map}
use Rattle.std.proofs.lemmas.Bool.{true≢false}
use Rattle.std.specs.Prelude.{IsTrue}
use Rattle.std.specs.List.{AllByRecursion}
use denote.RawPtr.{Ptr, null_ptr}
use Rattle.mb_frames.specs.Counts.{times}
use Rattle.mb_frames.specs.Cells.{Cell, is_at, next_at, prev_at, head_at}
use Rattle.mb_frames.specs.Shape.{Round, Headed, Shaped}
use Rattle.mb_frames.specs.Pages.{Page, replaced}
use Rattle.mb_frames.specs.Walks.{page_of, pages_at, row_at}
use Rattle.mb_frames.proofs.Chains.{last, one_self, times_cons, times_append}
use Rattle.mb_frames.proofs.Shapes.{all_cut}
use Rattle.mb_frames.proofs.Steps.{spots, Indexed, told_list, head_there, page_there, round_is, first_is, last_is}

pub indexed_stands : (c : List Cell) (h : Ptr) (index : ℕ) (p : Ptr) → Indexed c h index p → times p (spots (pages_at c h)) ≡ 0 → ⊥
indexed_stands c h index p x e = absurd (omega (arith, e, ap (times p) x.cut, times_append p x.before (p ∷ x.after), times_cons p p x.after, one_self p))

pub replaced_past : (gs : List Page) (index : ℕ) (b : List ℕ) → length gs ≤ index → replaced gs index b ≡ gs
replaced_past [] index b w = refl
replaced_past (g ∷ gs) zero b w = absurd (omega (arith, w))
replaced_past (g ∷ gs) (suc index) b w = ap (λ l. g ∷ l) (replaced_past gs index b (omega (arith, w)))

-- a list that has a last one
record Ended (h : Ptr) (ps : List Ptr) : Type 0 where
  pub before : List Ptr
  pub cut : ps ≡ before ++ last h ps ∷ []
  pub count : length ps - 1 ≡ length before

ended : (h p : Ptr) (ps : List Ptr) → Ended h (p ∷ ps)
unfolding last
ended h p [] = record { before = []; cut = refl; count = refl }
ended h p (q ∷ qs) = let e = ended p q qs in record { before = p ∷ e.before; cut = ap (λ l. p ∷ l) e.cut; count = omega (arith, e.count) }

last_none : (h : Ptr) → last h [] ≡ h
unfolding last
last_none h = refl

module _ (c : List Cell) (H : List Ptr) (S : Shaped c (map (row_at c) H)) (k : ℕ) (w : k < length H) (h : Ptr) (e : get_or H k null_ptr ≡ h) where
  pages_none : spots (pages_at c h) ≡ [] → pages_at c h ≡ []
  pages_none n = told_list c H S k w h e ∙ ap (map (page_of c)) n

  -- the first one
  module _ (f : Ptr) (ef : f ≡ next_at c h) (hd : Headed c (row_at c h)) (no : head_at c f ≡ false) where
    first_by : (ps : List Ptr) → spots (pages_at c h) ≡ ps → Indexed c h 0 f
    first_by [] n = absurd (true≢false (sym (ap (head_at c) (ef ∙ (subst (λ l. Round (next_at c) (prev_at c) (h ∷ l)) n (round_is c H S k w h e)).0) ∙ hd.0) ∙ no))
    first_by (p ∷ ps) n = record { before = []; after = ps; cut = n ∙ ap (λ q. q ∷ ps) (sym (ef ∙ first_is c H S k w h e p ps n)); count = refl }

    pub first_indexed : Indexed c h 0 f
    first_indexed = first_by (spots (pages_at c h)) refl

  -- the last one
  module _ (l : Ptr) (el : l ≡ prev_at c h) where
    last_at : (ps : List Ptr) → spots (pages_at c h) ≡ ps → l ≡ last h ps
    last_at ps n = el ∙ last_is c H S k w h e ∙ ap (last h) n

    there_by : (ps : List Ptr) → spots (pages_at c h) ≡ ps → IsTrue (is_at l c)
    there_by [] n = subst (λ q. IsTrue (is_at q c)) (sym (last_at [] n ∙ last_none h)) (head_there c H S k w h e)
    there_by (p ∷ ps) n =
        let d = ended h p ps in
        subst (λ q. IsTrue (is_at q c)) (sym (last_at (p ∷ ps) n)) (page_there c H S k w h e (last h (p ∷ ps))
        (omega (arith, ap (times (last h (p ∷ ps))) (n ∙ d.cut), times_append (last h (p ∷ ps)) d.before (last h (p ∷ ps) ∷ []), times_cons (last h (p ∷ ps)) (last h (p ∷ ps)) [], one_self (last h (p ∷ ps)))))

    pub last_there : IsTrue (is_at l c)
    last_there = there_by (spots (pages_at c h)) refl

    module _ (hd : Headed c (row_at c h)) where
      empty_by : (ps : List Ptr) → spots (pages_at c h) ≡ ps → head_at c l ≡ true → pages_at c h ≡ []
      empty_by [] n t = pages_none n
      empty_by (p ∷ ps) n t =
          let d = ended h p ps in
          let a = all_cut (λ q. head_at c q ≡ false) d.before (last h (p ∷ ps) ∷ []) (subst (AllByRecursion (λ q. head_at c q ≡ false)) (n ∙ d.cut) hd.1) in
          absurd (true≢false (sym t ∙ ap (head_at c) (last_at (p ∷ ps) n) ∙ a.1.0))

      pub last_empty : head_at c l ≡ true → pages_at c h ≡ []
      last_empty = empty_by (spots (pages_at c h)) refl

      indexed_by : (ps : List Ptr) → spots (pages_at c h) ≡ ps → head_at c l ≡ false → Indexed c h (length (pages_at c h) - 1) l
      indexed_by [] n f = absurd (true≢false (sym (ap (head_at c) (last_at [] n ∙ last_none h) ∙ hd.0) ∙ f))
      indexed_by (p ∷ ps) n f =
          let d = ended h p ps in
          record { before = d.before; after = []; cut = n ∙ d.cut ∙ ap (λ q. d.before ++ q ∷ []) (sym (last_at (p ∷ ps) n)); count = omega (arith, d.count, ap length n, length-map (pages_at c h) (λ (g : Page). g.place)) }

      pub last_indexed : head_at c l ≡ false → Indexed c h (length (pages_at c h) - 1) l
      last_indexed = indexed_by (spots (pages_at c h)) refl
