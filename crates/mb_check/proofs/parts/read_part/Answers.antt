use Rattle.mb_check_files.proofs.Listing.{if_told, given}
use Rattle.mb_check.proofs.PartReads.{part_read}
use Rattle.mb_check.proofs.parts.read_part.Goals as goal

pub returns-clause-part : goal.returns-clause-part
returns-clause-part g c = if_told (g.D.Disk.told c.args.disk.now) _ (λ image told dir keeps less.
    part_read image.at c.args.table.now dir c.args.kept.now keeps c.args.part c.part_block-number.result c.read.new.into less (c.part_block-number.ensures image.at dir keeps less)
    (given (g.D.Disk.told c.args.disk.now) image c.read.new.into c.part_block-number.result told c.in_ok-read.ensures.bytes))
