use Rattle.std.proofs.Common.{refl}
use Rattle.mb_callers.proofs.Gatherings.{blocks_gathered, tables_gathered}
use Rattle.mb_callers.proofs.laws.gathered.Goals as goal

pub returns-clause-blocks : goal.returns-clause-blocks
returns-clause-blocks g c = λ old new live need mine kept pages got. blocks_gathered g.D.Disk.told old new live mine need kept pages got

pub returns-clause-tables : goal.returns-clause-tables
returns-clause-tables g c = λ old new live mine kept pages got gathers. tables_gathered g.D.Disk.told old new live mine _ kept pages got refl gathers
