use Rattle.mb_cache.proofs.Strokes.{damaged_pages}
use Rattle.mb_cache.proofs.laws.damage_of_pages.Goals as goal

pub returns : goal.returns
returns c = λ pages opens strokes. damaged_pages strokes pages opens
