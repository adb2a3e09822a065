use Rattle.mb_program.proofs.CheckLemmas.{comes_of_check, device_of_check}
use Rattle.mb_program.proofs.deciding.check_over.Goals as goal

pub returns-clause-comes : goal.returns-clause-comes
returns-clause-comes g c =
    comes_of_check g.D.Disk.told g.D.Disk.faults c.args.disk _ c.sound-scanned.result c.told_as.result c.told_as.ensures c.sound-scanned.ensures.scan c.sound-scanned.ensures.told c.sound-scanned.ensures.cause.failed

pub returns-clause-device : goal.returns-clause-device
returns-clause-device g c = λ failed. c.sound-scanned.ensures.cause.failed (device_of_check c.sound-scanned.result c.told_as.result c.told_as.ensures failed)
