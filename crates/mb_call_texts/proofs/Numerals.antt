-- Numbers are read back from the digits that write them.
use Rattle.std.proofs.Common.{List, [], ◌∷◌, ℕ, ℤ, pos, negsuc, zero, suc, ◌+◌, ◌-◌, ◌*◌, ◌/◌, ◌%◌, ◌^◌, ◌<◌, ◌≤◌, ◌≡◌, ◌≢◌, ◌&&◌, Bool, true, false, cond, eqb, nat_lt, length, get_or, Some, None, option_map, option_and_then, refl, ap, sym, ◌∙◌, inl, inr, arith}
use Rattle.std.specs.Prelude.{decimal, ◌≤ℤ◌}
use Rattle.std.specs.Fmt.{digit_glyph, digits, digits_onto, signed_decimal}
use Rattle.std.proofs.Math.Nat.{div-le_self, div-lt_iff_lt-mul, mod-lt, pow-suc, pow-zero}
use Rattle.std.proofs.lemmas.Bool.{and_from, cond-false, cond-true, cases_eq, eq-eqb, le-leb, lt-ltb, ne_eqb}
use Rattle.std.proofs.lemmas.Fmt.{decimal_digit, digits_is_IsNumeral, first_decimal}
use Rattle.std.proofs.lemmas.Int.{ints}
use Rattle.mb_jobs.specs.Numbers.{digits_on, from_one, index_in, is_digit, negative, number_below, octal_in, offset_in}
use Rattle.mb_call_texts.specs.CallText.{octal_word}

-- a digit is read behind the value of those before it
digits_on-digit : (base bound value digit : ℕ) (more : List ℕ) → digit < base → base * value + digit < bound
    → digits_on base bound value ((48 + digit) ∷ more) ≡ digits_on base bound (base * value + digit) more
digits_on-digit base bound value digit more small below =
    let same : 48 + digit - 48 ≡ digit = omega arith in
    let fits : base * value + (48 + digit - 48) < bound = omega arith in
    let is : (is_digit base (48 + digit) && nat_lt (base * value + (48 + digit - 48)) bound) ≡ true = and_from _ _ (and_from _ _ (le-leb 48 (48 + digit) (omega arith)) (lt-ltb (48 + digit) (48 + base) (omega arith))) (lt-ltb _ _ fits) in
    cond-true _ (digits_on base bound (base * value + (48 + digit - 48)) more) None is ∙ ap (λ n. digits_on base bound (base * value + n) more) same

-- the digits of a number, in one step
onto_spelled : (k base n : ℕ) (acc : List ℕ) (last : Bool) → eqb (n / base) 0 ≡ last
    → digits_onto (suc k) base false n acc ≡ cond last (digit_glyph false (n % base) ∷ acc) (digits_onto k base false (n / base) (digit_glyph false (n % base) ∷ acc))
onto_spelled k base n acc last is =
    ap (λ (b : Bool). cond b (digit_glyph false (n % base) ∷ acc) (digits_onto k base false (n / base) (digit_glyph false (n % base) ∷ acc))) is

onto_last : (k base n : ℕ) (acc : List ℕ) → n / base ≡ 0 → digits_onto (suc k) base false n acc ≡ digit_glyph false (n % base) ∷ acc
onto_last k base n acc none = onto_spelled k base n acc true (eq-eqb (n / base) 0 none)

onto_more : (k base n : ℕ) (acc : List ℕ) → n / base ≢ 0 → digits_onto (suc k) base false n acc ≡ digits_onto k base false (n / base) (digit_glyph false (n % base) ∷ acc)
onto_more k base n acc more = onto_spelled k base n acc false (ne_eqb (n / base) 0 more)

digits_are : (base n : ℕ) → digits_onto 64 base false n [] ≡ digits base false n
unfolding digits
digits_are base n = refl

glyph_is : (d : ℕ) → d < 10 → digit_glyph false d ≡ 48 + d
glyph_is d small = ap (λ (b : Bool). cond b (48 + d) (87 + d)) (lt-ltb d 10 small)

-- a number's last digit, read behind the value of the others
last_digit : (base bound n : ℕ) (acc : List ℕ) → 2 ≤ base → base ≤ 10 → n < bound
    → digits_on base bound (n / base) (digit_glyph false (n % base) ∷ acc) ≡ digits_on base bound n acc
last_digit base bound n acc low high below =
    let some : 0 < base = omega arith in
    let small = mod-lt n some in
    let whole : base * (n / base) + n % base ≡ n = omega arith in
    ap (λ d. digits_on base bound (n / base) (d ∷ acc)) (glyph_is (n % base) (omega arith))
    ∙ digits_on-digit base bound (n / base) (n % base) acc small (rw whole below) ∙ ap (λ v. digits_on base bound v acc) whole

onto_read : (k base bound n : ℕ) (acc : List ℕ) → 2 ≤ base → base ≤ 10 → n < bound → n < base ^ k
    → digits_on base bound 0 (digits_onto k base false n acc) ≡ digits_on base bound n acc
onto_read zero base bound n acc low high below fits = ap (λ v. digits_on base bound v acc) {x = 0} {y = n} (omega (arith, pow-zero base))
onto_read (suc k) base bound n acc low high below fits =
    let some : 0 < base = omega arith in
    elim (cases_eq (n / base) 0) [
      | inl none ↦
          ap (digits_on base bound 0) (onto_last k base n acc none)
          ∙ ap (λ v. digits_on base bound v (digit_glyph false (n % base) ∷ acc)) (sym none) ∙ last_digit base bound n acc low high below
      | inr more ↦
          let front : n / base < base ^ k = (div-lt_iff_lt-mul some).1 (omega (arith, pow-suc base k)) in
          let less : n / base < bound = omega (arith, div-le_self n base) in
          ap (digits_on base bound 0) (onto_more k base n acc more)
          ∙ onto_read k base bound (n / base) (digit_glyph false (n % base) ∷ acc) low high less front ∙ last_digit base bound n acc low high below
    ]

digits_read : (base bound n : ℕ) → 2 ≤ base → base ≤ 10 → n < bound → n < base ^ 64 → digits_on base bound 0 (digits base false n) ≡ Some n
digits_read base bound n low high below fits =
    ap (digits_on base bound 0) (sym (digits_are base n)) ∙ onto_read 64 base bound n [] low high below fits

-- decimal

below_by_digits : (bound : ℕ) (ds : List ℕ) → 48 < get_or ds 0 0 → number_below bound ds ≡ digits_on 10 bound 0 ds
below_by_digits bound [] some = absurd (omega arith)
below_by_digits bound (digit ∷ more) some = cond-false _ _ _ (ne_eqb digit 48 (omega arith))

pub number_below-decimal : (bound n : ℕ) → n < bound → n < 2 ^ 64 → number_below bound (decimal n) ≡ Some n
number_below-decimal bound n below fits =
    elim (cases_eq n 0) [
      | inl none ↦ rw none (ap (number_below bound) (decimal_digit 0 (omega arith)))
      | inr some ↦
          below_by_digits bound (decimal n) (first_decimal n (omega arith) fits) ∙ digits_read 10 bound n (omega arith) (omega arith) below (omega arith)
    ]

-- offsets

offset_by_digits : (ds : List ℕ) → 48 ≤ get_or ds 0 0 → offset_in ds ≡ option_map pos (number_below 2147483648 ds)
offset_by_digits [] some = absurd (omega arith)
offset_by_digits (digit ∷ more) some = cond-false _ _ _ (ne_eqb digit 45 (omega arith))

high_first : (n : ℕ) → n < 2 ^ 64 → 48 ≤ get_or (decimal n) 0 0
high_first n fits =
    elim (cases_eq n 0) [
      | inl none ↦ rw none (rw (decimal_digit 0 (omega arith)) (omega arith))
      | inr some ↦ let first = first_decimal n (omega arith) fits in omega arith
    ]

index_in-decimal : (n : ℕ) → n < 2147483648 → index_in 2147483648 (decimal (suc n)) ≡ Some (suc n)
index_in-decimal n small = ap (λ found. option_and_then from_one found) (number_below-decimal 2147483649 (suc n) (omega arith) (omega arith))
    ∙ cond-false (eqb (suc n) 0) None (Some (suc n)) (ne_eqb (suc n) 0 (omega arith))

pub offset_in-decimal : (offset : ℤ) → negsuc 2147483647 ≤ℤ offset → offset ≤ℤ pos 2147483647 → offset_in (signed_decimal offset) ≡ Some offset
offset_in-decimal (pos n) low high =
    let small : n < 2147483648 = omega (arith, ints) in
    offset_by_digits (decimal n) (high_first n (omega arith)) ∙ ap (λ found. option_map pos found) (number_below-decimal 2147483648 n small (omega arith))
offset_in-decimal (negsuc n) low high =
    let small : n < 2147483648 = omega (arith, ints) in
    ap (λ found. option_map negative found) (index_in-decimal n small)

-- octal

onto_short : (j k base n : ℕ) (acc : List ℕ) → 2 ≤ base → n < base ^ suc j → length (digits_onto k base false n acc) ≤ suc j + length acc
onto_short j zero base n acc low fits = omega arith
onto_short zero (suc k) base n acc low fits =
    let some : 0 < base = omega arith in
    let front : n / base < base ^ 0 = (div-lt_iff_lt-mul some).1 (omega (arith, pow-suc base 0)) in
    let none : n / base ≡ 0 = omega (arith, pow-zero base) in
    rw (onto_last k base n acc none) (omega arith)
onto_short (suc j) (suc k) base n acc low fits =
    let some : 0 < base = omega arith in
    elim (cases_eq (n / base) 0) [
      | inl none ↦ rw (onto_last k base n acc none) (omega arith)
      | inr more ↦
          let front : n / base < base ^ suc j = (div-lt_iff_lt-mul some).1 (omega (arith, pow-suc base (suc j))) in
          let rest = onto_short j k base (n / base) (digit_glyph false (n % base) ∷ acc) low front in
          rw (onto_more k base n acc more) (omega (arith, rest))
    ]

octal_short : (j mode : ℕ) → mode < 8 ^ suc j → length (octal_word mode) ≤ suc j
octal_short j mode fits =
    let onto = onto_short j 64 8 mode [] (omega arith) fits in
    rw (sym (digits_are 8 mode)) (omega (arith, onto))

octal_some : (mode : ℕ) → mode < 4096 → 1 ≤ length (octal_word mode)
octal_some mode small = (digits_is_IsNumeral 8 false (omega arith) (omega arith) mode (omega arith)).0.0

pub octal_in-octal : (j mode : ℕ) → mode < 8 ^ suc j → mode < 4096 → octal_in (suc j) (octal_word mode) ≡ Some mode
octal_in-octal j mode fits small =
    cond-true _ (digits_on 8 4096 0 (octal_word mode)) None (and_from _ _ (le-leb 1 (length (octal_word mode)) (octal_some mode small)) (le-leb (length (octal_word mode)) (suc j) (octal_short j mode fits)))
    ∙ digits_read 8 4096 mode (omega arith) (omega arith) small (omega arith)
