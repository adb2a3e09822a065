-- Texts of calls as they are written by hand, and calls that no text writes.
use Rattle.std.specs.Prelude.{[], ◌∷◌, ◌≡◌, negsuc, Some, None, codes}
use Rattle.mb_kinds.specs.declared.calls.Call.TheVariants.{Open, Creat, Write, Lseek, Unlink, Chmod, Access}
use Rattle.mb_kinds.specs.declared.calls.How.TheVariants.{Both}
use Rattle.mb_kinds.specs.declared.calls.Whence.TheVariants.{Start, Here}
use Rattle.mb_jobs.specs.Calls.{line_call}
use Rattle.mb_call_texts.specs.CallText.{call_text}
use Rattle.mb_call_texts.specs.Writable.{CanBeWritten}

-- what is written; 420 is 644 in octal, `negsuc 4` is -5, and "hi" has the bytes 68 and 69 in hex
pub record WorkedTexts : Type 0 where
  pub opens : call_text (Open (codes "/p") Both) ≡ codes "open /p rw"
  pub creates : call_text (Creat (codes "/p") 420) ≡ codes "creat /p 644"
  pub seeks : call_text (Lseek 3 (negsuc 4) Here) ≡ codes "lseek 3 -5 1"
  pub writes : call_text (Write 3 (codes "hi")) ≡ codes "hex 3 6869"
  pub writes_none : call_text (Write 12 []) ≡ codes "fill 12 0 0"
  pub removes_empty : call_text (Unlink []) ≡ codes "unlink \"\""

-- what is read, of texts that are not the one that is written for their call, too
pub record WorkedReadings : Type 0 where
  -- a leading zero is read and not written, where a mode may have four digits
  pub leading_zero : line_call (codes "chmod /p 0644") ≡ Some (Chmod (codes "/p") 420)
  pub no_four_digits : line_call (codes "creat /p 0644") ≡ None
  -- two quotes are the empty path, so no word is the path of two quotes
  pub empty_path : line_call (codes "unlink \"\"") ≡ Some (Unlink [])
  pub no_quotes : CanBeWritten (Unlink (34 ∷ 34 ∷ [])) → ⊥
  pub no_blank_in_a_path : line_call (codes "unlink /a b") ≡ None
  -- a text may write no bytes only by a fill
  pub no_bytes : line_call (codes "fill 3 0 7") ≡ Some (Write 3 [])
  pub no_empty_hex : line_call (codes "hex 3 ") ≡ None
  -- the least offset, and one below it
  pub least : line_call (codes "lseek 3 -2147483648 0") ≡ Some (Lseek 3 (negsuc 2147483647) Start)
  pub no_less : line_call (codes "lseek 3 -2147483649 0") ≡ None
  -- permissions are below 8
  pub below_eight : CanBeWritten (Access [] 8) → ⊥
