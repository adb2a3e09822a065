-- What stands where after bytes were written at an offset: the bytes written, and all others as they
-- were. xs are the bytes written, b the list before.
use Rattle.std.proofs.Common.{ℕ, suc, ◌≡◌, ◌+◌, ◌-◌, ◌<◌, ◌≤◌, ◌⊎◌, inl, inr, List, [], ◌∷◌, ◌++◌, length, take, drop, get_or, set, refl, sym, ap, ◌∙◌, arith}
use Rattle.std.proofs.lemmas.List.{length-append, length-take, length-drop, length-take-le, append-nil, get_or-append_right, get_or_append_left, get_or-drop, get_or-take, drop-drop, drop_all, take_rest, ext_get_or, set_split}
use Rattle.std.proofs.lemmas.Bool.{cases_lt}
use borrow.Rule.Slice.PartMut.{put_mid}
use Rattle.mb_word.specs.Numbers.{put_at, SameFrom}

pub length-put_at : (b : List ℕ) (at : ℕ) (xs : List ℕ) → at + length xs ≤ length b → length (put_at b at xs) ≡ length b
unfolding put_at
length-put_at b at xs fits = omega (arith, length-append (take at b) (xs ++ drop (at + length xs) b), length-append xs (drop (at + length xs) b), length-take at b, length-drop (at + length xs) b)

-- a byte of those written
pub put_at_in : (b : List ℕ) (at : ℕ) (xs : List ℕ) (k : ℕ) → at + length xs ≤ length b → k < length xs → get_or (put_at b at xs) (at + k) 0 ≡ get_or xs k 0
unfolding put_at
put_at_in b at xs k fits in_xs =
    get_or-append_right (take at b) (xs ++ drop (at + length xs) b) at (at + k) 0 (length-take-le at b (omega arith)) (omega arith)
    ∙ ap (λ i. get_or (xs ++ drop (at + length xs) b) i 0) (omega arith)
    ∙ get_or_append_left xs (drop (at + length xs) b) 0 k in_xs

-- a byte off those written
pub put_at_kept : (b : List ℕ) (at : ℕ) (xs : List ℕ) (k : ℕ) → at + length xs ≤ length b → (k < at) ⊎ (at + length xs ≤ k) → get_or (put_at b at xs) k 0 ≡ get_or b k 0
unfolding put_at
put_at_kept b at xs k fits (inl below) =
    get_or_append_left (take at b) (xs ++ drop (at + length xs) b) 0 k (omega (arith, length-take at b))
    ∙ get_or-take at b k 0 below
put_at_kept b at xs k fits (inr above) =
    get_or-append_right (take at b) (xs ++ drop (at + length xs) b) at k 0 (length-take-le at b (omega arith)) (omega arith)
    ∙ get_or-append_right xs (drop (at + length xs) b) (length xs) (k - at) 0 refl (omega arith)
    ∙ get_or-drop (at + length xs) b (k - at - length xs) 0
    ∙ ap (λ i. get_or b i 0) (omega arith)

-- the frame law: n bytes that lie off those written stay
pub put_at_same : (b : List ℕ) (at : ℕ) (xs : List ℕ) (from n : ℕ) → at + length xs ≤ length b → (from + n ≤ at) ⊎ (at + length xs ≤ from) → SameFrom (put_at b at xs) b from n
put_at_same b at xs from n fits (inl below) k low high = put_at_kept b at xs k fits (inl (omega arith))
put_at_same b at xs from n fits (inr above) k low high = put_at_kept b at xs k fits (inr (omega arith))

-- a list that has the bytes written, and elsewhere those before, is the list after the write
pub put_at_is : (b : List ℕ) (at : ℕ) (xs c : List ℕ) → at + length xs ≤ length b → length c ≡ length b
    → ((k : ℕ) → (k < at) ⊎ (at + length xs ≤ k) → get_or c k 0 ≡ get_or b k 0)
    → ((k : ℕ) → k < length xs → get_or c (at + k) 0 ≡ get_or xs k 0)
    → c ≡ put_at b at xs
put_at_is b at xs c fits same off within = ext_get_or 0 c (put_at b at xs) (omega (arith, length-put_at b at xs fits)) (λ k h.
    elim (cases_lt k at) [
      | inl low ↦ off k (inl low) ∙ sym (put_at_kept b at xs k fits (inl low))
      | inr high ↦ elim (cases_lt k (at + length xs)) [
        | inl in_xs ↦
            let e : at + (k - at) ≡ k = omega arith in
            ap (λ i. get_or c i 0) (sym e) ∙ within (k - at) (omega arith) ∙ sym (put_at_in b at xs (k - at) fits (omega arith)) ∙ ap (λ i. get_or (put_at b at xs) i 0) e
        | inr past ↦ off k (inr past) ∙ sym (put_at_kept b at xs k fits (inr past))
      ]
    ])

-- bytes that stand there already
pub put_at_own : (b : List ℕ) (at : ℕ) (xs : List ℕ) → at + length xs ≤ length b → ((k : ℕ) → k < length xs → get_or b (at + k) 0 ≡ get_or xs k 0) → b ≡ put_at b at xs
put_at_own b at xs fits own = put_at_is b at xs b fits refl (λ k off. refl) own

-- what lies off two writes lies off each
outside : (at : ℕ) (xs ys : List ℕ) (k : ℕ) → (k < at) ⊎ (at + length (xs ++ ys) ≤ k) → (k < at + length xs) ⊎ (at + length xs + length ys ≤ k)
outside at xs ys k (inl low) = inl (omega arith)
outside at xs ys k (inr high) = inr (omega (arith, length-append xs ys))

apart : (at : ℕ) (xs ys : List ℕ) (k : ℕ) → (k < at) ⊎ (at + length (xs ++ ys) ≤ k) → (k < at) ⊎ (at + length xs ≤ k)
apart at xs ys k (inl low) = inl low
apart at xs ys k (inr high) = inr (omega (arith, length-append xs ys))

-- one write behind the other is one write
pub put_at_next : (b : List ℕ) (at : ℕ) (xs ys : List ℕ) → at + length xs + length ys ≤ length b → put_at (put_at b at xs) (at + length xs) ys ≡ put_at b at (xs ++ ys)
put_at_next b at xs ys fits =
    let whole : length (xs ++ ys) ≡ length xs + length ys = length-append xs ys in
    let first : at + length xs ≤ length b = omega arith in
    let same : length (put_at b at xs) ≡ length b = length-put_at b at xs first in
    put_at_is b at (xs ++ ys) (put_at (put_at b at xs) (at + length xs) ys) (omega arith)
    (length-put_at (put_at b at xs) (at + length xs) ys (omega arith) ∙ same)
    (λ k off. put_at_kept (put_at b at xs) (at + length xs) ys k (omega arith) (outside at xs ys k off) ∙ put_at_kept b at xs k first (apart at xs ys k off))
    (λ k within. elim (cases_lt k (length xs)) [
      | inl front ↦
          put_at_kept (put_at b at xs) (at + length xs) ys (at + k) (omega arith) (inl (omega arith))
          ∙ put_at_in b at xs k first front ∙ sym (get_or_append_left xs ys 0 k front)
      | inr back ↦
          ap (λ i. get_or (put_at (put_at b at xs) (at + length xs) ys) i 0) (omega arith)
          ∙ put_at_in (put_at b at xs) (at + length xs) ys (k - length xs) (omega arith) (omega arith)
          ∙ sym (get_or-append_right xs ys (length xs) k 0 refl back)
    ])

-- the same where the lists and offsets of two calls are known by equations
pub put_more : (b c d : List ℕ) (at n m : ℕ) (xs ys : List ℕ) → length xs ≡ m → n ≡ at + m → at + m + length ys ≤ length b → c ≡ put_at b at xs → d ≡ put_at c n ys → d ≡ put_at b at (xs ++ ys)
put_more b c d at n m xs ys len next fits first second =
    second ∙ ap (λ l. put_at l n ys) first ∙ ap (λ i. put_at (put_at b at xs) i ys) (next ∙ ap (λ i. at + i) (sym len)) ∙ put_at_next b at xs ys (omega arith)

-- one byte written
pub put_one : (b : List ℕ) (at x : ℕ) → at < length b → set b at x ≡ put_at b at (x ∷ [])
unfolding put_at
put_one b at x within =
    let next : suc at ≡ at + 1 = omega arith in
    set_split b at x within ∙ ap (λ i. take at b ++ x ∷ drop i b) next

-- a write to the front of a slice's part from an offset on, as a call through `&mut b[at..]` makes it
pub put_mid_front : (b : List ℕ) (at : ℕ) (xs ys : List ℕ) → at + length xs ≤ length b → ys ≡ xs ++ drop (length xs) (take (length b - at) (drop at b)) → put_mid at (length b - at) b ys ≡ put_at b at xs
unfolding put_at
put_mid_front b at xs ys fits front =
    let rest : drop (length b - at) (drop at b) ≡ [] = drop_all (length b - at) (drop at b) (omega (arith, length-drop at b)) in
    let tail : drop (length xs) (take (length b - at) (drop at b)) ≡ drop (at + length xs) b = ap (drop (length xs)) (take_rest b at) ∙ drop-drop (length xs) at b in
    ap (λ r. take at b ++ (ys ++ r)) rest ∙ ap (λ r. take at b ++ r) (append-nil ys ∙ front ∙ ap (λ r. xs ++ r) tail)

-- a write to the whole of a part, as `b[at..end].copy_from_slice(..)` makes it
pub put_mid_whole : (b : List ℕ) (at end : ℕ) (xs : List ℕ) → at + length xs ≡ end → put_mid at (end - at) b xs ≡ put_at b at xs
unfolding put_at
put_mid_whole b at end xs whole = ap (λ r. take at b ++ (xs ++ r)) (drop-drop (end - at) at b ∙ ap (λ i. drop i b) (omega arith))
