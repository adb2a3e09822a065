use Rattle.mb_tables.proofs.Seen.{logged_moves, rises_by_one}
use Rattle.mb_tables.proofs.laws.tables_move.Goals as goal

pub returns : goal.returns
returns c = record { moves = logged_moves; once = rises_by_one }
