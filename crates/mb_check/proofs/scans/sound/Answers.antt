use Rattle.mb_check_files.proofs.Listing.{if_told}
use Rattle.mb_check_files.proofs.Underways.{told_of}
use Rattle.mb_check.specs.Whole.{fault_of}
use Rattle.mb_check.proofs.Sounding.{came_as, sound_as, stop_scanned}
use Rattle.mb_check.proofs.scans.sound.Goals as goal

pub returns-in_err-files-clause-scan : goal.returns-in_err-files-clause-scan
returns-in_err-files-clause-scan g c = if_told (g.D.Disk.told c.args.disk.now) _ (λ image told.
    stop_scanned image c.in_err-files.field-0.0 c.from_residual.result (came_as c.from_residual.result (fault_of c.in_err-files.field-0.0) c.from_residual.ensures)
    (told_of (g.D.Disk.told c.args.disk.now) image _ told c.in_err-files.ensures.walk))

pub returns-clause-scan : goal.returns-clause-scan
returns-clause-scan g c = if_told (g.D.Disk.told c.args.disk.now) _ (λ image told.
    let walk = told_of (g.D.Disk.told c.args.disk.now) image _ told c.in_ok-files.ensures.walk in
    let tells = told_of (g.D.Disk.told c.args.disk.now) image _ told c.in_ok-files.ensures.tells in
    sound_as image (λ block. g.met.D.Disk.sized c.args.disk.now image block told) walk.0 walk.1 c.in_ok-told.told (c.in_ok-told.ensures image tells))
