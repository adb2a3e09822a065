use Rattle.std.proofs.Common.{refl}
use Rattle.mb_word.specs.Numbers.{word_at, long_at, addr_at, word_bytes, long_bytes, addr_bytes}
use Rattle.mb_word.proofs.laws.worked_numbers.Goals as goal

pub returns : goal.returns
unfolding word_at long_at addr_at word_bytes long_bytes addr_bytes
returns c = record { long_written = refl; long_read = refl; addr_written = refl; addr_read = refl }
