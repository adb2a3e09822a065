use Rattle.mb_core_order.proofs.Readings.{records_other}
use Rattle.mb_core_order.proofs.Readings.{stand_other}
use Rattle.mb_core_order.proofs.in_order.others_stand.Goals as goal

pub returns-clause-records : goal.returns-clause-records
returns-clause-records c = records_other

pub returns-clause-stand : goal.returns-clause-stand
returns-clause-stand c = stand_other
