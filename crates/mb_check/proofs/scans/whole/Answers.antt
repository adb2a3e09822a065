use Rattle.std.proofs.Common.{[], Ok, Err, refl, ◌∙◌, arith}
use Rattle.mb_check_files.specs.declared.surveys.VolumeFiles.{VolumeFiles}
use Rattle.mb_check_files.proofs.Listing.{if_told}
use Rattle.mb_check_files.proofs.Stopping.{came_from}
use Rattle.mb_check_files.proofs.SuperTests.{finds_as}
use Rattle.mb_check_files.proofs.Underways.{told_of}
use Rattle.mb_check.proofs.LateParts.{enough_inodes, first_ends, keeps_files, late_finds, then_late}
use Rattle.mb_check.proofs.scans.whole.Goals as goal

pub returns-in_err-files-clause-walk : goal.returns-in_err-files-clause-walk
returns-in_err-files-clause-walk g c = if_told (g.D.Disk.told c.args.disk.now) _ (λ image told.
    finds_as {S = VolumeFiles} c.in_err-files.field-0.0 (Err c.in_err-files.field-0.0) c.from_residual.result [] [] _ _ refl (came_from c.from_residual.result c.in_err-files.field-0.0 c.from_residual.ensures)
    (first_ends image) (told_of (g.D.Disk.told c.args.disk.now) image _ told c.in_err-files.ensures.walk))

pub returns-in_err-late_parts-clause-walk : goal.returns-in_err-late_parts-clause-walk
returns-in_err-late_parts-clause-walk g c = if_told (g.D.Disk.told c.args.disk.now) _ (λ image told.
    let first = told_of (g.D.Disk.told c.args.disk.now) image _ told c.in_ok-files.ensures.walk in
    let tells = told_of (g.D.Disk.told c.args.disk.now) image _ told c.in_ok-files.ensures.tells in
    let low = enough_inodes image first.0 (λ block. g.met.D.Disk.sized c.args.disk.now image block told) first.1 in
    let last = tells.last in
    late_finds image first.0 c.in_err-late_parts.field-0.0 c.from_residual-in_err-late_parts.result (came_from c.from_residual-in_err-late_parts.result c.in_err-late_parts.field-0.0 c.from_residual-in_err-late_parts.ensures) first.1
    (told_of (g.D.Disk.told c.volume_files.new.disk) image _ (c.volume_files.ensures.told ∙ told) c.in_err-late_parts.ensures.walk first.0 (keeps_files image c.in_ok-files.files tells) last (omega (arith, last, low))))

pub returns-clause-walk : goal.returns-clause-walk
returns-clause-walk g c = if_told (g.D.Disk.told c.args.disk.now) _ (λ image told.
    let first = told_of (g.D.Disk.told c.args.disk.now) image _ told c.in_ok-files.ensures.walk in
    let tells = told_of (g.D.Disk.told c.args.disk.now) image _ told c.in_ok-files.ensures.tells in
    let low = enough_inodes image first.0 (λ block. g.met.D.Disk.sized c.args.disk.now image block told) first.1 in
    let last = tells.last in (
      first.0,
      then_late image first.0 (Ok first.0) first.1
          (told_of (g.D.Disk.told c.volume_files.new.disk) image _ (c.volume_files.ensures.told ∙ told) c.in_ok-late_parts.ensures.walk first.0 (keeps_files image c.in_ok-files.files tells) last (omega (arith, last, low))),
    ))
