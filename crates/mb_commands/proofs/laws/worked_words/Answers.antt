use Rattle.std.proofs.Common.{refl}
use Rattle.mb_commands.proofs.laws.worked_words.Goals as goal

pub returns : goal.returns
returns c = record { mkfs = refl; check = refl; run = refl; threads = refl; image = refl; option = refl; more = refl; zero = refl }
