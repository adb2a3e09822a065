use Rattle.std.proofs.Common.{refl, arith}
use Rattle.mb_nodes.proofs.FreshVolumes.{fresh_volume}
use Rattle.mb_mkfs.specs.Volume.{fresh}
use Rattle.mb_mkfs.proofs.Rooting.{fresh_made}
use Rattle.mb_mkfs.proofs.laws.worked_numbers.Goals as goal

pub returns : goal.returns
returns c = record {
  isize = refl;
  count = refl;
  first = refl;
  second = refl;
  last = refl;
  behind = refl;
  held = refl;
  not_held = refl;
  end = refl;
  highest = refl;
  lowest = refl;
  volume = fresh_volume (fresh 100 16) 4 100 (fresh_made 100 16 (record { some_inodes = omega arith; few_inodes = omega arith; whole = refl; some_blocks = omega arith; few_blocks = omega arith }));
}
