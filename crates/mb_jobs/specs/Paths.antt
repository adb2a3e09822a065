-- The words of a call that are no numbers: paths, the directions of `open`, the places of `lseek`, and what is written.
use Rattle.std.specs.Prelude.{List, [], ◌∷◌, ℕ, Bool, ◌&&◌, nat_le, bytes_eq, codes, length, Option, Some, None, option_and_then, if◌then◌else◌}
use Rattle.std.specs.List.{list_all}
use Rattle.std.specs.Result.{result_ok}
use Rattle.hex.specs.Hex.{decode_of}
use Rattle.mb_kinds.specs.declared.calls.How.{How}
use Rattle.mb_kinds.specs.declared.calls.How.TheVariants.{Reading, Writing, Both}
use Rattle.mb_kinds.specs.declared.calls.Whence.{Whence}
use Rattle.mb_kinds.specs.declared.calls.Whence.TheVariants.{Start, Here, End}

-- a byte that prints and is no blank
abbrev pub is_path_byte : ℕ → Bool
is_path_byte byte = nat_le 33 byte && nat_le byte 126

-- the text has 1 to so many bytes
abbrev pub has_bytes : ℕ → List ℕ → Bool
has_bytes most text = nat_le 1 (length text) && nat_le (length text) most

-- a path of 1 to 255 such bytes; the word `""` is the empty path
abbrev pub path_in : List ℕ → Option (List ℕ)
path_in word =
    if bytes_eq word (34 ∷ 34 ∷ []) then Some []
    else if has_bytes 255 word && list_all is_path_byte word then Some word
    else None

-- `r`, `w` or `rw`
abbrev pub how_in : List ℕ → Option How
how_in word =
    if bytes_eq word (codes "r") then Some Reading
    else if bytes_eq word (codes "w") then Some Writing
    else if bytes_eq word (codes "rw") then Some Both
    else None

-- `0` from the start, `1` from here, `2` from the end (V7 lseek(2))
abbrev pub whence_in : List ℕ → Option Whence
whence_in word =
    if bytes_eq word (codes "0") then Some Start
    else if bytes_eq word (codes "1") then Some Here
    else if bytes_eq word (codes "2") then Some End
    else None

-- a byte that prints, or a blank
abbrev pub is_text_byte : ℕ → Bool
is_text_byte byte = nat_le 32 byte && nat_le byte 126

-- the bytes that are written as they stand
abbrev pub raw_in : List ℕ → Option (List ℕ)
raw_in text = if has_bytes 65535 text && list_all is_text_byte text then Some text else None

-- bytes that a call may write, of which there are some
abbrev pub some_bytes : List ℕ → Option (List ℕ)
some_bytes bytes = if has_bytes 65535 bytes then Some bytes else None

-- the bytes that are written as pairs of hex digits
abbrev pub hex_in : List ℕ → Option (List ℕ)
hex_in digits = option_and_then some_bytes (result_ok (decode_of digits))
