use Rattle.std.proofs.Common.{◌+◌, ◌*◌, ◌/◌, ◌≤◌, sym, subst}
use Rattle.mb_rules.specs.Files.{size_at}
use Rattle.mb_check.specs.Reaching.{Advances}
use Rattle.mb_check_files.proofs.Listing.{if_told}
use Rattle.mb_check_files.proofs.Underways.{told_of}
use Rattle.mb_check.proofs.Marking.{room}
use Rattle.mb_check.proofs.reaching.part_targets.Goals as goal

pub returns-clause-reach : goal.returns-clause-reach
returns-clause-reach g c = if_told (g.D.Disk.told c.args.disk.now) _ (λ image told dir keeps from reaching slots.
    let read = told_of (g.D.Disk.told c.args.disk.now) image _ told c.in_ok-read_part.ensures.part dir keeps c.requires in
    let count = c.slots_of_part.ensures in
    subst (λ n. Advances image.at dir (32 * c.args.part + n) c.args.reach.now c.mark_block.new.self) count
    (c.in_ok-mark_block.ensures image.at dir read.holds from (subst (λ n. 32 * c.args.part + n ≤ size_at image.at dir / 16) (sym count) (room image.at c.args.table.now dir c.args.kept.now keeps c.args.part c.requires)) reaching slots))
