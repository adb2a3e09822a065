-- Texts of calls as they are written by hand, and calls that no text writes.
use Rattle.std.proofs.Common.{[], ◌∷◌, ◌≡◌, negsuc, Some, None, codes, refl, arith}
use Rattle.std.specs.Fmt.{digits}
use Rattle.hex.specs.Hex.{decode_pairs, encode_with}
use Rattle.mb_kinds.specs.declared.calls.Call.TheVariants.{Open, Creat, Write, Lseek, Unlink, Chmod, Access}
use Rattle.mb_kinds.specs.declared.calls.How.TheVariants.{Both}
use Rattle.mb_kinds.specs.declared.calls.Whence.TheVariants.{Start, Here}
use Rattle.mb_jobs.specs.Calls.{line_call}
use Rattle.mb_call_texts.specs.CallText.{call_text}
use Rattle.mb_call_texts.specs.Writable.{CanBeWritten}
use Rattle.mb_call_texts.specs.Worked.{WorkedReadings, WorkedTexts}

opens : call_text (Open (codes "/p") Both) ≡ codes "open /p rw"
opens = refl

creates : call_text (Creat (codes "/p") 420) ≡ codes "creat /p 644"
unfolding digits
creates = refl

seeks : call_text (Lseek 3 (negsuc 4) Here) ≡ codes "lseek 3 -5 1"
unfolding digits
seeks = refl

writes : call_text (Write 3 (codes "hi")) ≡ codes "hex 3 6869"
unfolding digits encode_with
writes = refl

writes_none : call_text (Write 12 []) ≡ codes "fill 12 0 0"
unfolding digits
writes_none = refl

removes_empty : call_text (Unlink []) ≡ codes "unlink \"\""
removes_empty = refl

-- a leading zero is read and not written
leading_zero : line_call (codes "chmod /p 0644") ≡ Some (Chmod (codes "/p") 420)
leading_zero = refl

no_four_digits : line_call (codes "creat /p 0644") ≡ None
no_four_digits = refl

below_eight : CanBeWritten (Access [] 8) → ⊥
below_eight can = let low = can.1 in omega (arith, low)

empty_path : line_call (codes "unlink \"\"") ≡ Some (Unlink [])
empty_path = refl

-- the word of two quotes is the empty path, so no word is the path of two quotes
no_quotes : CanBeWritten (Unlink (34 ∷ 34 ∷ [])) → ⊥
no_quotes can = can.plain refl

no_blank_in_a_path : line_call (codes "unlink /a b") ≡ None
no_blank_in_a_path = refl

-- a text may write no bytes only by a fill
no_bytes : line_call (codes "fill 3 0 7") ≡ Some (Write 3 [])
no_bytes = refl

no_empty_hex : line_call (codes "hex 3 ") ≡ None
unfolding decode_pairs
no_empty_hex = refl

-- the least offset, and one below it
least : line_call (codes "lseek 3 -2147483648 0") ≡ Some (Lseek 3 (negsuc 2147483647) Start)
least = refl

no_less : line_call (codes "lseek 3 -2147483649 0") ≡ None
no_less = refl

pub worked_texts : WorkedTexts
worked_texts = record { opens = opens; creates = creates; seeks = seeks; writes = writes; writes_none = writes_none; removes_empty = removes_empty }

pub worked_readings : WorkedReadings
worked_readings = record {
  leading_zero = leading_zero;
  no_four_digits = no_four_digits;
  empty_path = empty_path;
  no_quotes = no_quotes;
  no_blank_in_a_path = no_blank_in_a_path;
  no_bytes = no_bytes;
  no_empty_hex = no_empty_hex;
  least = least;
  no_less = no_less;
  below_eight = below_eight;
}
