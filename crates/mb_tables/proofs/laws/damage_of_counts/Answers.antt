use Rattle.mb_tables.proofs.Strokes.{damaged_counts}
use Rattle.mb_tables.proofs.laws.damage_of_counts.Goals as goal

pub returns : goal.returns
returns c = λ pages opens strokes. damaged_counts strokes pages opens
