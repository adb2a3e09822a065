use Rattle.std.proofs.Common.{◌≡◌, ℕ, List, Bool, [], Ok, Err, true, false, refl, ap, sym, ◌∙◌, ◌-◌, ◌*◌, subst, length, replicate, arith}
use Rattle.mb_check_files.specs.declared.bounds.Bounds.{Bounds}
use Rattle.mb_check_files.specs.declared.surveys.Space.{Space}
use Rattle.mb_scan_laws.specs.Laws.{first_items}
use Rattle.mb_check_files.specs.InodeTables.{KeepsInodes}
use Rattle.mb_check_files.specs.Passes.{Stands}
use Rattle.mb_check_files.proofs.Listing.{if_told, given}
use Rattle.mb_check_files.proofs.Stopping.{came_from}
use Rattle.mb_check_files.proofs.SuperTests.{bounds_of, finds_as, stands_none, super_ends}
use Rattle.mb_check_files.proofs.Underways.{told_of}
use Rattle.mb_check_files.proofs.surveys.volume_files.Goals as goal

pub returns-in_err-bounds-clause-walk : goal.returns-in_err-bounds-clause-walk
returns-in_err-bounds-clause-walk g c = if_told (g.D.Disk.told c.args.disk.now) _ (λ image told.
    finds_as {S = Bounds} c.in_err-bounds.field-0.0 (Err c.in_err-bounds.field-0.0) c.from_residual.result [] [] _ _ refl (came_from c.from_residual.result c.in_err-bounds.field-0.0 c.from_residual.ensures)
    (λ broken h. super_ends image broken h)
    (told_of (g.D.Disk.told c.args.disk.now) image _ told c.in_err-bounds.ensures.walk))

pub returns-in_err-held-clause-walk : goal.returns-in_err-held-clause-walk
returns-in_err-held-clause-walk g c = if_told (g.D.Disk.told c.args.disk.now) _ (λ image told.
    let same = given (g.D.Disk.told c.args.disk.now) image c.super_block.new.block 1 told c.in_ok-bounds.ensures.bytes in
    let head = told_of (g.D.Disk.told c.args.disk.now) image _ told c.in_ok-bounds.ensures.passes in
    let stands = subst (λ (f : List Bool). Stands f []) (sym (c.deref_mut.ensures.value ∙ c.in_ok-met.ensures.items_if_clones_equal (λ y e. e))) (stands_none c.in_ok-bounds.bounds.high) in
    finds_as {S = Space} c.in_err-held.field-0.0 (Err c.in_err-held.field-0.0) c.from_residual-in_err-held.result [] [] (first_items image) (first_items image) refl (came_from c.from_residual-in_err-held.result c.in_err-held.field-0.0 c.from_residual-in_err-held.ensures)
    (λ broken h. h)
    (told_of (g.D.Disk.told c.super_block.new.disk) image _ (c.super_block.ensures.told ∙ told) c.in_err-held.ensures.walk same head stands))

pub returns-clause-walk : goal.returns-clause-walk
returns-clause-walk g c = if_told (g.D.Disk.told c.args.disk.now) _ (λ image told.
    let same = given (g.D.Disk.told c.args.disk.now) image c.super_block.new.block 1 told c.in_ok-bounds.ensures.bytes in
    let head = told_of (g.D.Disk.told c.args.disk.now) image _ told c.in_ok-bounds.ensures.passes in
    let stands = subst (λ (f : List Bool). Stands f []) (sym (c.deref_mut.ensures.value ∙ c.in_ok-met.ensures.items_if_clones_equal (λ y e. e))) (stands_none c.in_ok-bounds.bounds.high) in
    told_of (g.D.Disk.told c.super_block.new.disk) image _ (c.super_block.ensures.told ∙ told) c.in_ok-held.ensures.walk same head stands)

pub returns-clause-tells : goal.returns-clause-tells
returns-clause-tells g c = if_told (g.D.Disk.told c.args.disk.now) _ (λ image told.
    let same = given (g.D.Disk.told c.args.disk.now) image c.super_block.new.block 1 told c.in_ok-bounds.ensures.bytes in
    let head = told_of (g.D.Disk.told c.args.disk.now) image _ told c.in_ok-bounds.ensures.passes in
    let stands = subst (λ (f : List Bool). Stands f []) (sym (c.deref_mut.ensures.value ∙ c.in_ok-met.ensures.items_if_clones_equal (λ y e. e))) (stands_none c.in_ok-bounds.bounds.high) in
    let are = bounds_of image c.super_block.new.block c.in_ok-bounds.bounds c.in_ok-bounds.ensures.sized same in
    let tells = told_of (g.D.Disk.told c.super_block.new.disk) image _ (c.super_block.ensures.told ∙ told) c.in_ok-held.ensures.tells same head stands in
    record {
      last = ap (λ n. 8 * (n - 2)) (sym are.low);
      table = told_of (g.D.Disk.told c.super_block.new.disk) image _ (c.super_block.ensures.told ∙ told) c.in_ok-held.ensures.kept (c.in_ok-table.ensures.none image.at);
      few = c.in_ok-held.ensures.few;
      space = record { paid = (let p = tells.paid in let e = c.in_ok-held.held-is in cc); chain = (let p = tells.chain in let e = c.in_ok-held.free-is in cc) };
    })
