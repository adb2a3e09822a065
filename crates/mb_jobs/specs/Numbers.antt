-- Numbers in a job's texts.
use Rattle.std.specs.Prelude.{List, [], ◌∷◌, ℕ, ℤ, pos, neg_ℤ, ◌+◌, ◌-◌, ◌*◌, ◌==◌, ◌&&◌, Bool, nat_le, nat_lt, length, Option, Some, None, option_map, option_and_then, if◌then◌else◌}

-- a digit of a base of at most 10; the digit 0 is the byte 48
abbrev pub is_digit : ℕ → ℕ → Bool
is_digit base byte = nat_le 48 byte && nat_lt byte (48 + base)

-- the digits read on from a value, as long as it stays below a bound
abbrev pub digits_on : ℕ → ℕ → ℕ → List ℕ → Option ℕ
digits_on base bound value [] = Some value
digits_on base bound value (digit ∷ more) =
    if is_digit base digit && nat_lt (base * value + (digit - 48)) bound then digits_on base bound (base * value + (digit - 48)) more
    else None

-- a `0` stands alone
abbrev pub zero_before : List ℕ → Option ℕ
zero_before [] = Some 0
zero_before (digit ∷ more) = None

-- a number below a bound: `0`, or decimal digits without a leading 0
abbrev pub number_below : ℕ → List ℕ → Option ℕ
number_below bound [] = None
number_below bound (digit ∷ more) = if digit == 48 then zero_before more else digits_on 10 bound 0 (digit ∷ more)

-- a number of at most 65535, such as a descriptor, a count, or a user
abbrev pub short_in : List ℕ → Option ℕ
short_in word = number_below 65536 word

-- one to so many octal digits, at most four: the bits of a mode (V7 chmod(2))
abbrev pub octal_in : ℕ → List ℕ → Option ℕ
octal_in most word = if nat_le 1 (length word) && nat_le (length word) most then digits_on 8 4096 0 word else None

-- a number that is not 0
abbrev pub from_one : ℕ → Option ℕ
from_one number = if number == 0 then None else Some number

-- one of so many places, counted from 1
abbrev pub index_in : ℕ → List ℕ → Option ℕ
index_in count word = option_and_then from_one (number_below (count + 1) word)

-- a number's negative
abbrev pub negative : ℕ → ℤ
negative number = neg_ℤ (pos number)

-- an offset of 32 bits: a number, or a `-` (45) and a number other than 0
abbrev pub offset_in : List ℕ → Option ℤ
offset_in [] = None
offset_in (first ∷ more) = if first == 45 then option_map negative (index_in 2147483648 more) else option_map pos (number_below 2147483648 (first ∷ more))
