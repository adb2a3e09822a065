-- The table that some bytes write, by whether the bytes are UTF-8.
use Rattle.std.proofs.Common.{List, ℕ, ◌≡◌, None}
use Rattle.std.proofs.lemmas.Bool.{cond-true, cond-false, false_from_ne_true}
use Rattle.std.proofs.lemmas.Str.{IsUtf8-from_is_utf8, is_utf8-from_IsUtf8}
use Rattle.std.specs.Str.{IsUtf8, is_utf8}
use Rattle.toml.specs.Parse.{parse_document}
use Rattle.mb_jobs.specs.Job.{table_in}

pub table_in-no_text : (bytes : List ℕ) → (IsUtf8 bytes → ⊥) → table_in bytes ≡ None
table_in-no_text bytes bad =
    cond-false (is_utf8 bytes) (parse_document bytes) None (false_from_ne_true (is_utf8 bytes) (λ e. bad (IsUtf8-from_is_utf8 bytes e)))

pub table_in-text : (bytes : List ℕ) → IsUtf8 bytes → table_in bytes ≡ parse_document bytes
table_in-text bytes good =
    cond-true (is_utf8 bytes) (parse_document bytes) None (is_utf8-from_IsUtf8 bytes good)
