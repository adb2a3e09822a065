use Rattle.std.proofs.Common.{◌≢◌, arith}
use Rattle.std.proofs.lemmas.List.Elements.{All-replicate}
use Rattle.mb_walks.proofs.meeting_tests.a_path_of_255_bytes_names_a_file.Goals as goal

pub creat-requires : goal.creat-requires
creat-requires g c = record { short = omega arith; no_zero = All-replicate (λ byte. byte ≢ 0) 255 120 (omega arith) }
