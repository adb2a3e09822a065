use Rattle.std.proofs.Common.{◌≤◌, ◌+◌, ◌*◌, ◌-◌, ℕ, suc, List, length, ◌≡◌, [], ◌<◌, Ok, Err, refl, sym, ap, subst, ◌∙◌, arith}
use Rattle.mb_check_files.proofs.AreaParts.{area_notes, stops_direct, done_direct, stops_level, done_level}
use Rattle.mb_check_files.proofs.Listing.{if_told}
use Rattle.mb_check_files.proofs.Notings.{extends_more}
use Rattle.mb_check_files.proofs.Stopping.{came_from, passes_on}
use Rattle.mb_check_files.proofs.Underways.{told_of}
use Rattle.mb_check_files.proofs.areas.area.Goals as goal

pub returns-in_err-direct-clause-walk : goal.returns-in_err-direct-clause-walk
returns-in_err-direct-clause-walk g c = if_told (g.D.Disk.told c.args.disk.now) _ (λ image told ino list reads are stands.
    rw (came_from c.from_residual.result c.in_err-direct.field-0.0 c.from_residual.ensures)
    (passes_on c.in_err-direct.field-0.0 c.direct.new.met c.direct.new.met list list _ _
    (λ broken h. stops_direct image.at ino c.args.holder c.args.inode.now reads list broken h)
    (c.in_err-direct.ensures.walk image.at list are stands)))

pub returns-in_err-single-clause-walk : goal.returns-in_err-single-clause-walk
returns-in_err-single-clause-walk g c = if_told (g.D.Disk.told c.args.disk.now) _ (λ image told ino list reads are stands.
    let one = c.in_ok-direct.ensures.walk image.at list are stands in
    let before = done_direct image.at ino c.args.holder c.args.inode.now reads list one.0 one.1 in
    rw (came_from c.from_residual-in_err-single.result c.in_err-single.field-0.0 c.from_residual-in_err-single.ensures)
    (passes_on c.in_err-single.field-0.0 c.single.new.met c.single.new.met one.0 list _ _
    (λ broken h. stops_level image.at ino c.args.holder c.args.inode.now reads list 1 10 c.address.result one.0 broken (omega arith) refl c.address.ensures before h)
    (told_of (g.D.Disk.told c.args.disk.now) image _ told c.in_err-single.ensures.walk one.0 are one.2)))

pub returns-in_err-double-clause-walk : goal.returns-in_err-double-clause-walk
returns-in_err-double-clause-walk g c = if_told (g.D.Disk.told c.args.disk.now) _ (λ image told ino list reads are stands.
    let one = c.in_ok-direct.ensures.walk image.at list are stands in
    let before = done_direct image.at ino c.args.holder c.args.inode.now reads list one.0 one.1 in
    let two = told_of (g.D.Disk.told c.args.disk.now) image _ told c.in_ok-single.ensures.walk one.0 are one.2 in
    let later = done_level image.at ino c.args.holder c.args.inode.now reads list 1 10 c.address.result one.0 two.0 (omega arith) refl c.address.ensures before two.1 in
    rw (came_from c.from_residual-in_err-double.result c.in_err-double.field-0.0 c.from_residual-in_err-double.ensures)
    (passes_on c.in_err-double.field-0.0 c.double.new.met c.double.new.met two.0 list _ _
    (λ broken h. stops_level image.at ino c.args.holder c.args.inode.now reads list 2 11 c.address-2.result two.0 broken (omega arith) refl c.address-2.ensures later h)
    (told_of (g.D.Disk.told c.single.new.disk) image _ (c.single.ensures.told ∙ told) c.in_err-double.ensures.walk two.0 are two.2)))

pub returns-in_err-triple-clause-walk : goal.returns-in_err-triple-clause-walk
returns-in_err-triple-clause-walk g c = if_told (g.D.Disk.told c.args.disk.now) _ (λ image told ino list reads are stands.
    let one = c.in_ok-direct.ensures.walk image.at list are stands in
    let before = done_direct image.at ino c.args.holder c.args.inode.now reads list one.0 one.1 in
    let two = told_of (g.D.Disk.told c.args.disk.now) image _ told c.in_ok-single.ensures.walk one.0 are one.2 in
    let later = done_level image.at ino c.args.holder c.args.inode.now reads list 1 10 c.address.result one.0 two.0 (omega arith) refl c.address.ensures before two.1 in
    let three = told_of (g.D.Disk.told c.single.new.disk) image _ (c.single.ensures.told ∙ told) c.in_ok-double.ensures.walk two.0 are two.2 in
    let last = done_level image.at ino c.args.holder c.args.inode.now reads list 2 11 c.address-2.result two.0 three.0 (omega arith) refl c.address-2.ensures later three.1 in
    rw (came_from c.from_residual-in_err-triple.result c.in_err-triple.field-0.0 c.from_residual-in_err-triple.ensures)
    (passes_on c.in_err-triple.field-0.0 c.triple.new.met c.triple.new.met three.0 list _ _
    (λ broken h. stops_level image.at ino c.args.holder c.args.inode.now reads list 3 12 c.address-3.result three.0 broken (omega arith) refl c.address-3.ensures last h)
    (told_of (g.D.Disk.told c.double.new.disk) image _ (c.double.ensures.told ∙ c.single.ensures.told ∙ told) c.in_err-triple.ensures.walk three.0 are three.2)))

pub returns-clause-walk : goal.returns-clause-walk
returns-clause-walk g c = if_told (g.D.Disk.told c.args.disk.now) _ (λ image told ino list reads are stands.
    let one = c.in_ok-direct.ensures.walk image.at list are stands in
    let before = done_direct image.at ino c.args.holder c.args.inode.now reads list one.0 one.1 in
    let two = told_of (g.D.Disk.told c.args.disk.now) image _ told c.in_ok-single.ensures.walk one.0 are one.2 in
    let later = done_level image.at ino c.args.holder c.args.inode.now reads list 1 10 c.address.result one.0 two.0 (omega arith) refl c.address.ensures before two.1 in
    let three = told_of (g.D.Disk.told c.single.new.disk) image _ (c.single.ensures.told ∙ told) c.in_ok-double.ensures.walk two.0 are two.2 in
    let last = done_level image.at ino c.args.holder c.args.inode.now reads list 2 11 c.address-2.result two.0 three.0 (omega arith) refl c.address-2.ensures later three.1 in
    let four = told_of (g.D.Disk.told c.double.new.disk) image _ (c.double.ensures.told ∙ c.single.ensures.told ∙ told) c.in_ok-triple.ensures.walk three.0 are three.2 in
    (four.0, done_level image.at ino c.args.holder c.args.inode.now reads list 3 12 c.address-3.result three.0 four.0 (omega arith) refl c.address-3.ensures last four.1, four.2))

pub returns-clause-notes : goal.returns-clause-notes
returns-clause-notes g c = if_told (g.D.Disk.told c.args.disk.now) _ (λ image told ino reads.
    area_notes image.at ino c.args.holder c.args.inode.now reads _ _ _ _ _ c.address.result c.address-2.result c.address-3.result c.address.ensures c.address-2.ensures c.address-3.ensures
    c.in_ok-direct.ensures.notes
    (told_of (g.D.Disk.told c.args.disk.now) image _ told c.in_ok-single.ensures.notes)
    (told_of (g.D.Disk.told c.single.new.disk) image _ (c.single.ensures.told ∙ told) c.in_ok-double.ensures.notes)
    (told_of (g.D.Disk.told c.double.new.disk) image _ (c.double.ensures.told ∙ c.single.ensures.told ∙ told) c.in_ok-triple.ensures.notes))

pub returns-clause-kept : goal.returns-clause-kept
returns-clause-kept g c = extends_more _ _ _ c.in_ok-direct.ensures.kept (extends_more _ _ _ c.in_ok-single.ensures.kept (extends_more _ _ _ c.in_ok-double.ensures.kept c.in_ok-triple.ensures.kept))

pub returns-clause-few : goal.returns-clause-few
returns-clause-few g c =
    let a = c.in_ok-direct.ensures.few.paid in
    let b = c.in_ok-single.ensures.few.paid in
    let d = c.in_ok-double.ensures.few.paid in
    let e = c.in_ok-triple.ensures.few.paid in
    record { paid = omega (arith, a, b, d, e) }
