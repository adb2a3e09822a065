use Rattle.mb_check_files.proofs.Listing.{if_told, given}
use Rattle.mb_check_tree.proofs.Fillings.{hole_fills, part_fills}
use Rattle.mb_check_tree.proofs.parts.part.Goals as goal

pub returns-then-address-eq0-clause-fills : goal.returns-then-address-eq0-clause-fills
returns-then-address-eq0-clause-fills g c = if_told (g.D.Disk.told c.args.disk.now) _ (λ image told. hole_fills image.at c.args.parts.now c.args.number 1 (λ k. c.args.address) (λ k low. c.if-address-eq0.true))

pub returns-clause-fills : goal.returns-clause-fills
returns-clause-fills g c = if_told (g.D.Disk.told c.args.disk.now) _ (λ image told.
    part_fills image.at c.args.parts.now c.insert.new.self c.args.number c.args.address c.read.new.into c.if-address-eq0.false (given (g.D.Disk.told c.args.disk.now) image c.read.new.into c.args.address told c.in_ok-read.ensures.bytes) c.in_ok-insert.ensures.ok)
