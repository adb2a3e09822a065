use Rattle.mb_tree.proofs.Opened.{opening_valid}
use Rattle.mb_core_order.proofs.Begins.{right_begins}
use Rattle.mb_core_order.proofs.laws.core_begins.Goals as goal

pub returns : goal.returns
returns g c = λ fs first config cache opens room may. right_begins fs first config cache opens room may.config_is may.stamps may.pins g.D.Disk.told g.D.Disk.faults may.bare may.counted may.tells may.later
    (λ old image tree began now volume. let one = may.swept old image tree began now volume in (one.0, one.1, opening_valid tree config.callers volume.sound))
