-- What the words of a line write is in the ranges of a call's text.
use Rattle.std.proofs.Common.{List, [], ◌∷◌, ℕ, ℤ, pos, negsuc, zero, suc, ◌+◌, ◌-◌, ◌*◌, ◌^◌, ◌<◌, ◌≤◌, ◌≡◌, ◌&&◌, true, false, eqb, nat_le, nat_lt, length, replicate, Option, Some, None, Result, Ok, Err, option_map, option_and_then, refl, inl, inr, arith}
use Rattle.std.specs.Prelude.{IfSome, bytes_eq, ◌≤ℤ◌}
use Rattle.std.specs.List.{list_all}
use Rattle.std.specs.Result.{result_ok}
use Rattle.std.proofs.Math.Nat.{mul-le-mul_left, mul-le-mul_right, one-le-pow, pow-suc}
use Rattle.std.proofs.lemmas.Bool.{and_parts, cases_Bool, cond_both, leb-true, ltb-true, ne_eqb}
use Rattle.std.proofs.lemmas.Int.{ints}
use Rattle.std.proofs.lemmas.List.{length-replicate}
use Rattle.std.proofs.lemmas.List.Elements.{All-from_get_or, All-replicate, All-weaker}
use Rattle.std.proofs.lemmas.List.Sums.{AllPass-from_list_all}
use Rattle.std.proofs.lemmas.Slice.Eq.{bytes_eq-Decides}
use Rattle.hex.specs.Hex.{IsBytes, decode_of}
use Rattle.hex.specs.declared.error.FromHexError.{FromHexError}
use Rattle.hex.proofs.HexLemmas.{decode_of-ok}
use Rattle.mb_jobs.specs.Numbers.{digits_on, from_one, index_in, is_digit, negative, number_below, octal_in, offset_in, zero_before}
use Rattle.mb_jobs.specs.Paths.{has_bytes, hex_in, is_path_byte, is_text_byte, path_in, raw_in, some_bytes}
use Rattle.mb_call_texts.specs.Writable.{CanBePath, CanBeWrite}

-- below a bound
abbrev pub IsBelow : ℕ → Option ℕ → Type 0
IsBelow bound found = IfSome found (λ number. number < bound)

digits_on-IsBelow : (base bound value : ℕ) (word : List ℕ) → value < bound → IsBelow bound (digits_on base bound value word)
digits_on-IsBelow base bound value [] below = below
digits_on-IsBelow base bound value (digit ∷ more) below =
    cond_both (is_digit base digit && nat_lt (base * value + (digit - 48)) bound) (digits_on base bound (base * value + (digit - 48)) more) None (IsBelow bound)
    (λ holds. digits_on-IsBelow base bound (base * value + (digit - 48)) more (ltb-true (base * value + (digit - 48)) bound (and_parts (is_digit base digit) (nat_lt (base * value + (digit - 48)) bound) holds).1)) (λ _. tt)

zero_before-IsBelow : (bound : ℕ) (word : List ℕ) → 0 < bound → IsBelow bound (zero_before word)
zero_before-IsBelow bound [] some = some
zero_before-IsBelow bound (digit ∷ more) some = tt

pub number_below-IsBelow : (bound : ℕ) (word : List ℕ) → 0 < bound → IsBelow bound (number_below bound word)
number_below-IsBelow bound [] some = tt
number_below-IsBelow bound (digit ∷ more) some =
    cond_both (eqb digit 48) (zero_before more) (digits_on 10 bound 0 (digit ∷ more)) (IsBelow bound)
    (λ _. zero_before-IsBelow bound more some) (λ _. digits_on-IsBelow 10 bound 0 (digit ∷ more) some)

next_room : (value d power : ℕ) → d < 8 → (8 * value + d + 1) * power ≤ (value + 1) * (power * 8)
next_room value d power less = omega (arith, mul-le-mul_right {m = 8 * value + d + 1} {n = 8 * (value + 1)} power (omega arith))

-- octal digits are below a power of 8
digits_on-octal : (bound value k : ℕ) (word : List ℕ) → length word ≤ k → IsBelow ((value + 1) * 8 ^ k) (digits_on 8 bound value word)
digits_on-octal bound value k [] short = omega (arith, mul-le-mul_left (value + 1) (one-le-pow k 8 (omega arith)))
digits_on-octal bound value zero (digit ∷ more) short = absurd (omega arith)
digits_on-octal bound value (suc k) (digit ∷ more) short =
    cond_both (is_digit 8 digit && nat_lt (8 * value + (digit - 48)) bound) (digits_on 8 bound (8 * value + (digit - 48)) more) None (IsBelow ((value + 1) * 8 ^ suc k))
    (λ holds.
    let is = and_parts (is_digit 8 digit) (nat_lt (8 * value + (digit - 48)) bound) holds in
    let small = ltb-true digit (48 + 8) (and_parts (nat_le 48 digit) (nat_lt digit (48 + 8)) is.0).1 in
    wider (digits_on 8 bound (8 * value + (digit - 48)) more) ((8 * value + (digit - 48) + 1) * 8 ^ k) ((value + 1) * 8 ^ suc k) (room (digit - 48) (omega arith)) (digits_on-octal bound (8 * value + (digit - 48)) k more (omega arith)))
    (λ _. tt)
  where
    room : (d : ℕ) → d < 8 → (8 * value + d + 1) * 8 ^ k ≤ (value + 1) * 8 ^ suc k
    room d less = rw (pow-suc 8 k) (next_room value d (8 ^ k) less)

    wider : (found : Option ℕ) (a b : ℕ) → a ≤ b → IsBelow a found → IsBelow b found
    wider None a b le is = tt
    wider (Some n) a b le is = omega arith

pub octal_in-three : (word : List ℕ) → IsBelow 512 (octal_in 3 word)
octal_in-three word =
    cond_both (nat_le 1 (length word) && nat_le (length word) 3) (digits_on 8 4096 0 word) None (IsBelow 512)
    (λ holds. let short = leb-true (length word) 3 (and_parts (nat_le 1 (length word)) (nat_le (length word) 3) holds).1 in digits_on-octal 4096 0 3 word short) (λ _. tt)

pub octal_in-four : (word : List ℕ) → IsBelow 4096 (octal_in 4 word)
octal_in-four word =
    cond_both (nat_le 1 (length word) && nat_le (length word) 4) (digits_on 8 4096 0 word) None (IsBelow 4096)
    (λ _. digits_on-IsBelow 8 4096 0 word (omega arith)) (λ _. tt)

-- offsets

abbrev pub IsOffset : ℤ → Type 0
IsOffset offset = (negsuc 2147483647 ≤ℤ offset) × (offset ≤ℤ pos 2147483647)

offset_pos : (found : Option ℕ) → IsBelow 2147483648 found → IfSome (option_map pos found) IsOffset
offset_pos None below = tt
offset_pos (Some n) below = (omega (arith, ints), omega (arith, ints))

offset_negative : (found : Option ℕ) → IsBelow 2147483649 found → IfSome (option_map negative (option_and_then from_one found)) IsOffset
offset_negative None below = tt
offset_negative (Some zero) below = tt
offset_negative (Some (suc n)) below = rw (ne_eqb (suc n) 0 (omega arith)) (omega (arith, ints), omega (arith, ints))

pub offset_in-IsOffset : (word : List ℕ) → IfSome (offset_in word) IsOffset
offset_in-IsOffset [] = tt
offset_in-IsOffset (first ∷ more) =
    cond_both (eqb first 45) (option_map negative (index_in 2147483648 more)) (option_map pos (number_below 2147483648 (first ∷ more))) (λ (found : Option ℤ). IfSome found IsOffset)
    (λ _. offset_negative (number_below 2147483649 more) (number_below-IsBelow 2147483649 more (omega arith)))
    (λ _. offset_pos (number_below 2147483648 (first ∷ more)) (number_below-IsBelow 2147483648 (first ∷ more) (omega arith)))

-- paths

byte_prints : (byte : ℕ) → is_path_byte byte ≡ true → (33 ≤ byte) × (byte ≤ 126)
byte_prints byte holds =
    let range = and_parts (nat_le 33 byte) (nat_le byte 126) holds in
    (leb-true 33 byte range.0, leb-true byte 126 range.1)

empty_path : CanBePath []
empty_path = record { short = omega arith; prints = λ k d inside. absurd (omega arith); plain = λ same. cc same }

path_from_tests : (word : List ℕ) → bytes_eq word (34 ∷ 34 ∷ []) ≡ false → (has_bytes 255 word && list_all is_path_byte word) ≡ true → CanBePath word
path_from_tests word other holds =
    let parts = and_parts (has_bytes 255 word) (list_all is_path_byte word) holds in
    let sized = and_parts (nat_le 1 (length word)) (nat_le (length word) 255) parts.0 in
    record {
      short = leb-true (length word) 255 sized.1;
      prints = All-weaker (λ byte. is_path_byte byte ≡ true) (λ byte. (33 ≤ byte) × (byte ≤ 126)) byte_prints word (AllPass-from_list_all is_path_byte word parts.1);
      plain = λ same. let equal = (bytes_eq-Decides word (34 ∷ 34 ∷ [])).1 same in cc;
    }

pub path_in-CanBePath : (word : List ℕ) → IfSome (path_in word) CanBePath
path_in-CanBePath word =
    elim (cases_Bool (bytes_eq word (34 ∷ 34 ∷ []))) [
      | inl same ↦ rw same empty_path
      | inr other ↦ rw other (
          cond_both (has_bytes 255 word && list_all is_path_byte word) (Some word) None (λ (found : Option (List ℕ)). IfSome found CanBePath)
          (λ holds. path_from_tests word other holds) (λ _. tt))
    ]

-- what is written

text_byte : (byte : ℕ) → is_text_byte byte ≡ true → byte < 256
text_byte byte holds =
    let small = leb-true byte 126 (and_parts (nat_le 32 byte) (nat_le byte 126) holds).1 in
    omega arith

pub raw_in-CanBeWrite : (text : List ℕ) → IfSome (raw_in text) CanBeWrite
raw_in-CanBeWrite text =
    cond_both (has_bytes 65535 text && list_all is_text_byte text) (Some text) None (λ (found : Option (List ℕ)). IfSome found CanBeWrite)
    (λ holds.
    let parts = and_parts (has_bytes 65535 text) (list_all is_text_byte text) holds in
    let sized = and_parts (nat_le 1 (length text)) (nat_le (length text) 65535) parts.0 in
    record {
      short = leb-true (length text) 65535 sized.1;
      small = All-weaker (λ byte. is_text_byte byte ≡ true) (λ byte. byte < 256) text_byte text (AllPass-from_list_all is_text_byte text parts.1);
    })
    (λ _. tt)

some_bytes-CanBeWrite : (bytes : List ℕ) → IsBytes bytes → IfSome (some_bytes bytes) CanBeWrite
some_bytes-CanBeWrite bytes are =
    cond_both (has_bytes 65535 bytes) (Some bytes) None (λ (found : Option (List ℕ)). IfSome found CanBeWrite)
    (λ holds. record {
      short = leb-true (length bytes) 65535 (and_parts (nat_le 1 (length bytes)) (nat_le (length bytes) 65535) holds).1;
      small = All-from_get_or (λ byte. byte < 256) bytes 0 (λ i inside. are i);
    })
    (λ _. tt)

decoded : (digits : List ℕ) (found : Result (List ℕ) FromHexError) → decode_of digits ≡ found → IfSome (option_and_then some_bytes (result_ok found)) CanBeWrite
decoded digits (Ok bytes) is = some_bytes-CanBeWrite bytes (decode_of-ok digits bytes is).3
decoded digits (Err error) is = tt

pub hex_in-CanBeWrite : (digits : List ℕ) → IfSome (hex_in digits) CanBeWrite
hex_in-CanBeWrite digits = decoded digits (decode_of digits) refl

pub replicate-CanBeWrite : (count byte : ℕ) → count < 65536 → byte < 256 → CanBeWrite (replicate count byte)
replicate-CanBeWrite count byte short small = record {
  short = rw (length-replicate count byte) (omega arith);
  small = All-replicate (λ byte. byte < 256) count byte small;
}
