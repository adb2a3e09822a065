-- Chains of links, and what a change of one link leaves of them.
use Rattle.std.proofs.Common.{◌≡◌, ℕ, ◌+◌, ◌≤◌, true, false, cond, List, [], ◌∷◌, ◌++◌, refl, ap, ◌∙◌, arith}
use denote.RawPtr.{Ptr}
use Rattle.mb_frames.specs.Pointers.{same_ptr}
use Rattle.mb_frames.specs.Counts.{times}
use Rattle.mb_frames.specs.Shape.{Linked, Round}
use Rattle.mb_frames.proofs.Pointers.{same_ptr_refl, same_ptr_symm}

unfoldable pub last : Ptr → List Ptr → Ptr
last a [] = a
last a (b ∷ bs) = last b bs

-- the nodes that link forward within the chain
unfoldable pub sources : Ptr → List Ptr → List Ptr
sources a [] = []
sources a (b ∷ bs) = a ∷ sources b bs

-- 1 where they are the same
abbrev pub one : Ptr → Ptr → ℕ
one p q = cond (same_ptr p q) 1 0

pub one_self : (p : Ptr) → one p p ≡ 1
one_self p = ap (λ y. cond y 1 0) (same_ptr_refl p)

pub times_none : (q : Ptr) → times q [] ≡ 0
unfolding times
times_none q = refl

pub times_cons : (q p : Ptr) (ps : List Ptr) → times q (p ∷ ps) ≡ one p q + times q ps
unfolding times
times_cons q p ps = refl

pub times_append : (q : Ptr) (xs ys : List Ptr) → times q (xs ++ ys) ≡ times q xs + times q ys
unfolding times
times_append q [] ys = omega arith
times_append q (x ∷ xs) ys = omega (arith, times_append q xs ys)

pub times_sources : (q a : Ptr) (ps : List Ptr) → times q (sources a ps) + one (last a ps) q ≡ times q (a ∷ ps)
unfolding times last sources
times_sources q a [] = omega arith
times_sources q a (b ∷ bs) = omega (arith, times_sources q b bs)

pub times_last : (a : Ptr) (ps : List Ptr) → 1 ≤ times (last a ps) (a ∷ ps)
times_last a ps = omega (arith, times_sources (last a ps) a ps, one_self (last a ps))

pub last_append : (a : Ptr) (xs : List Ptr) (b : Ptr) (ys : List Ptr) → last a (xs ++ b ∷ ys) ≡ last b ys
unfolding last
last_append a [] b ys = refl
last_append a (x ∷ xs) b ys = last_append x xs b ys

one_zero : (p q : Ptr) (k : ℕ) → one p q + k ≡ 0 → same_ptr p q ≡ false
one_zero p q k e = (elim (same_ptr p q) as (λ y. cond y 1 0 + k ≡ 0 → y ≡ false) [
  | true ↦ λ z. absurd (omega arith)
  | false ↦ λ z. refl
]) e

pub cut_chain : (n p : Ptr → Ptr) (a : Ptr) (xs ys : List Ptr) → Linked n p a (xs ++ ys) → Linked n p a xs × Linked n p (last a xs) ys
unfolding last
cut_chain n p a [] ys l = (tt, l)
cut_chain n p a (x ∷ xs) ys l = let r = cut_chain n p x xs ys l.2 in ((l.0, l.1, r.0), r.1)

pub join_chain : (n p : Ptr → Ptr) (a : Ptr) (xs ys : List Ptr) → Linked n p a xs → Linked n p (last a xs) ys → Linked n p a (xs ++ ys)
unfolding last
join_chain n p a [] ys l m = m
join_chain n p a (x ∷ xs) ys l m = (l.0, l.1, join_chain n p x xs ys l.2 m)

-- the links are those of n and p, but a's link forward is to b, and b's link back to a
pub record Relinks (n p n' p' : Ptr → Ptr) (a b : Ptr) : Type 0 where
  pub next : (q : Ptr) → n' q ≡ cond (same_ptr a q) b (n q)
  pub prev : (q : Ptr) → p' q ≡ cond (same_ptr b q) a (p q)

module _ (n p n' p' : Ptr → Ptr) (a b : Ptr) (r : Relinks n p n' p' a b) where
  pub new_link : (n' a ≡ b) × (p' b ≡ a)
  new_link = (r.next a ∙ ap (λ y. cond y b (n a)) (same_ptr_refl a), r.prev b ∙ ap (λ y. cond y a (p b)) (same_ptr_refl b))

  pub kept_chain : (s : Ptr) (ps : List Ptr) → times a (sources s ps) ≡ 0 → times b ps ≡ 0 → Linked n p s ps → Linked n' p' s ps
  unfolding times sources
  kept_chain s [] ea eb l = tt
  kept_chain s (c ∷ cs) ea eb l = (
    r.next s ∙ ap (λ y. cond y b (n s)) (same_ptr_symm a s ∙ one_zero s a (times a (sources c cs)) ea) ∙ l.0,
    r.prev c ∙ ap (λ y. cond y a (p c)) (same_ptr_symm b c ∙ one_zero c b (times b cs) eb) ∙ l.1,
    kept_chain c cs (omega (arith, ea)) (omega (arith, eb)) l.2,
  )

  pub kept_round : (row : List Ptr) → times a row ≡ 0 → times b row ≡ 0 → Round n p row → Round n' p' row
  kept_round [] ea eb l = l
  kept_round (h ∷ ps) ea eb l =
      let end = last_append h ps h [] in
      kept_chain h (ps ++ h ∷ [])
      (omega (arith, times_sources a h (ps ++ h ∷ []), ap (λ z. one z a) end, times_cons a h (ps ++ h ∷ []), times_append a ps (h ∷ []), times_cons a h [], times_none a, times_cons a h ps, ea))
      (omega (arith, times_append b ps (h ∷ []), times_cons b h [], times_none b, times_cons b h ps, eb)) l
