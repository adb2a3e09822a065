use Rattle.std.proofs.Common.{◌≡◌, ◌&&◌, drop}
use Rattle.std.specs.List.{list_all}
use Rattle.mb_jobs.specs.Paths.{is_path_byte}
use Rattle.mb_jobs.proofs.paths.has_path_bytes.Given as goal

abbrev pub invariant-loop-byte : goal.invariant-loop-byte
invariant-loop-byte l = (l.prints && list_all is_path_byte (drop l.byte-index l.word)) ≡ list_all is_path_byte l.word
