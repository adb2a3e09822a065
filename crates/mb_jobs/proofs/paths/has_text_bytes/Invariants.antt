use Rattle.std.proofs.Common.{◌≡◌, ◌&&◌, drop}
use Rattle.std.specs.List.{list_all}
use Rattle.mb_jobs.specs.Paths.{is_text_byte}
use Rattle.mb_jobs.proofs.paths.has_text_bytes.Given as goal

abbrev pub invariant-loop-byte : goal.invariant-loop-byte
invariant-loop-byte l = (l.prints && list_all is_text_byte (drop l.byte-index l.text)) ≡ list_all is_text_byte l.text
