-- The digits of bytes, a piece of them at a time.
use Rattle.std.proofs.Common.{List, [], ◌∷◌, ◌++◌, ℕ, zero, suc, ◌+◌, ◌*◌, ◌/◌, ◌%◌, ◌≡◌, length, take, drop, slice_index, refl, ap, sym, ◌∙◌, append_assoc, arith}
use Rattle.std.proofs.lemmas.List.{append-nil, take-append-le, take_all}
use Rattle.hex.specs.Hex.{encode_lower, encode_with, lower_digits}

-- the digits of two lists stand one behind the other
encode_both : (t xs ys : List ℕ) → encode_with t (xs ++ ys) ≡ encode_with t xs ++ encode_with t ys
unfolding encode_with
encode_both t [] ys = refl
encode_both t (x ∷ xs) ys = ap (λ rest. slice_index t (x / 16) ∷ slice_index t (x % 16) ∷ rest) (encode_both t xs ys)

none_taken : (n : ℕ) → take {A = ℕ} n [] ≡ []
none_taken zero = refl
none_taken (suc n) = refl

take_then : (xs : List ℕ) (a b : ℕ) → take (a + b) xs ≡ take a xs ++ take b (drop a xs)
take_then xs zero b = let none : 0 + b ≡ b = omega arith in ap (λ n. take n xs) none
take_then [] (suc a) b = none_taken (suc a + b) ∙ sym (none_taken b)
take_then (x ∷ xs) (suc a) b = let one : suc a + b ≡ suc (a + b) = omega arith in ap (λ n. take n (x ∷ xs)) one ∙ ap (λ rest. x ∷ rest) (take_then xs a b)

-- no digits are behind the text at the beginning
pub digits_begin : (out new : List ℕ) → new ≡ out → new ≡ out ++ encode_lower []
unfolding encode_with
digits_begin out new same = same ∙ sym (append-nil out)

-- a piece more
pub digits_on : (bytes before text now : List ℕ) (done some : ℕ) → text ≡ before ++ encode_lower (take done bytes)
    → now ≡ text ++ encode_lower (take some (drop done bytes)) → now ≡ before ++ encode_lower (take (done + some) bytes)
digits_on bytes before text now done some so_far more =
    more ∙ ap (λ t. t ++ encode_lower (take some (drop done bytes))) so_far ∙ append_assoc before (encode_lower (take done bytes)) (encode_lower (take some (drop done bytes)))
    ∙ ap (λ d. before ++ d) (sym (encode_both lower_digits (take done bytes) (take some (drop done bytes))) ∙ ap encode_lower (sym (take_then bytes done some)))

-- the front of the digits that were written
pub written_front : (piece output behind : List ℕ) (some : ℕ) → output ≡ encode_lower piece → length output ≡ 2 * some → take (2 * some) (output ++ behind) ≡ encode_lower piece
written_front piece output behind some same long = take-append-le (2 * some) output behind (omega (arith, long)) ∙ take_all (2 * some) output (omega (arith, long)) ∙ same
