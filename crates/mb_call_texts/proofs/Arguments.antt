-- Paths, words and written bytes are read back.
use Rattle.std.proofs.Common.{List, [], ◌∷◌, ℕ, zero, suc, ◌<◌, ◌≤◌, ◌≡◌, ◌≢◌, true, false, length, Some, option_and_then, refl, ap, ◌∙◌, arith}
use Rattle.std.specs.Prelude.{All, bytes_eq}
use Rattle.std.specs.List.{list_all}
use Rattle.std.specs.Result.{result_ok}
use Rattle.std.proofs.lemmas.Bool.{and_from, cond-false, cond-true, false_from_ne_true, le-leb}
use Rattle.std.proofs.lemmas.List.Elements.{All-head, All-tail, All-weaker}
use Rattle.std.proofs.lemmas.List.Sums.{list_all-from_AllPass}
use Rattle.std.proofs.lemmas.Slice.Eq.{bytes_eq-Decides}
use Rattle.hex.specs.Hex.{IsBytes, encode_lower}
use Rattle.hex.proofs.HexLemmas.{decode_of-encode_lower}
use Rattle.mb_kinds.specs.declared.calls.How.{How}
use Rattle.mb_kinds.specs.declared.calls.How.TheVariants.{Reading, Writing, Both}
use Rattle.mb_kinds.specs.declared.calls.Whence.{Whence}
use Rattle.mb_kinds.specs.declared.calls.Whence.TheVariants.{Start, Here, End}
use Rattle.mb_jobs.specs.Paths.{has_bytes, hex_in, how_in, is_path_byte, path_in, some_bytes, whence_in}
use Rattle.mb_call_texts.specs.CallText.{how_word, path_word, whence_word}
use Rattle.mb_call_texts.specs.Writable.{CanBePath, CanBeWrite}

path_byte : (byte : ℕ) → (33 ≤ byte) × (byte ≤ 126) → is_path_byte byte ≡ true
path_byte byte range = and_from _ _ (le-leb 33 byte range.0) (le-leb byte 126 range.1)

path_bytes : (path : List ℕ) → CanBePath path → list_all is_path_byte path ≡ true
path_bytes path can =
    list_all-from_AllPass is_path_byte path (All-weaker (λ byte. (33 ≤ byte) × (byte ≤ 126)) (λ byte. is_path_byte byte ≡ true) path_byte path can.prints)

not_quotes : (path : List ℕ) → path ≢ 34 ∷ 34 ∷ [] → bytes_eq path (34 ∷ 34 ∷ []) ≡ false
not_quotes path other = false_from_ne_true _ (λ same. other ((bytes_eq-Decides path (34 ∷ 34 ∷ [])).0 same))

pub path_in-word : (path : List ℕ) → CanBePath path → path_in (path_word path) ≡ Some path
path_in-word [] can = refl
path_in-word (byte ∷ more) can =
    let short = can.short in
    let sized : has_bytes 255 (byte ∷ more) ≡ true = and_from _ _ (le-leb 1 (length (byte ∷ more)) (omega arith)) (le-leb (length (byte ∷ more)) 255 short) in
    cond-false _ _ _ (not_quotes (byte ∷ more) can.plain) ∙ cond-true _ _ _ (and_from _ _ sized (path_bytes (byte ∷ more) can))

pub how_in-word : (how : How) → how_in (how_word how) ≡ Some how
how_in-word Reading = refl
how_in-word Writing = refl
how_in-word Both = refl

pub whence_in-word : (whence : Whence) → whence_in (whence_word whence) ≡ Some whence
whence_in-word Start = refl
whence_in-word Here = refl
whence_in-word End = refl

are_bytes : (bytes : List ℕ) → All (λ byte. byte < 256) bytes → IsBytes bytes
are_bytes [] small i = omega arith
are_bytes (byte ∷ more) small zero = All-head (λ byte. byte < 256) byte more small
are_bytes (byte ∷ more) small (suc i) = are_bytes more (All-tail (λ byte. byte < 256) byte more small) i

pub hex_in-encode_lower : (byte : ℕ) (more : List ℕ) → CanBeWrite (byte ∷ more) → hex_in (encode_lower (byte ∷ more)) ≡ Some (byte ∷ more)
hex_in-encode_lower byte more can =
    let short = can.short in
    ap (λ found. option_and_then some_bytes (result_ok found)) (decode_of-encode_lower (byte ∷ more) (are_bytes (byte ∷ more) can.small))
    ∙ cond-true _ _ _ (and_from _ _ (le-leb 1 (length (byte ∷ more)) (omega arith)) (le-leb (length (byte ∷ more)) 65535 short))
