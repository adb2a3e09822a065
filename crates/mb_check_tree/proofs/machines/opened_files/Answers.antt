use Rattle.std.proofs.Common.{◌∙◌}
use Rattle.mb_check.specs.Whole.{fault_of}
use Rattle.mb_check.proofs.Sounding.{came_as}
use Rattle.mb_check_files.proofs.Listing.{if_told}
use Rattle.mb_check_files.proofs.Underways.{told_of}
use Rattle.mb_check_tree.proofs.Openings.{files_opened, stop_opened}
use Rattle.mb_check_tree.proofs.machines.opened_files.Goals as goal

pub returns-in_err-files-clause-files : goal.returns-in_err-files-clause-files
returns-in_err-files-clause-files g c = if_told (g.D.Disk.told c.args.disk.now) _ (λ image told.
    let scan = told_of (g.D.Disk.told c.args.disk.now) image _ told c.in_ok-_told.ensures.scan in
    let walk = told_of (g.D.Disk.told c.sound.new.disk) image _ (c.sound.ensures.told ∙ told) c.in_err-files.ensures.walk in
    stop_opened image c.in_ok-_told._told scan c.in_err-files.field-0.0 c.from_residual-in_err-files.result (came_as c.from_residual-in_err-files.result (fault_of c.in_err-files.field-0.0) c.from_residual-in_err-files.ensures) walk)

pub returns-clause-files : goal.returns-clause-files
returns-clause-files g c = if_told (g.D.Disk.told c.args.disk.now) _ (λ image told.
    let scan = told_of (g.D.Disk.told c.args.disk.now) image _ told c.in_ok-_told.ensures.scan in
    let tells = told_of (g.D.Disk.told c.sound.new.disk) image _ (c.sound.ensures.told ∙ told) c.in_ok-files.ensures.tells in
    files_opened image (λ block. g.met.D.Disk.sized c.args.disk.now image block told) c.in_ok-_told._told scan c.in_ok-files.files tells)
