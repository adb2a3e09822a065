use Rattle.std.proofs.Common.{map, ap, ◌∙◌}
use Rattle.mb_tree.specs.Opening.{first_seat}
use Rattle.mb_check_files.proofs.Listing.{if_told}
use Rattle.mb_check_files.proofs.Underways.{told_of}
use Rattle.mb_check_tree.proofs.Openings.{opened_as}
use Rattle.mb_check_tree.proofs.machines.machine.Goals as goal

pub returns-clause-opening : goal.returns-clause-opening
returns-clause-opening g c = if_told (g.D.Disk.told c.args.disk.now) _ (λ image told.
    let files = told_of (g.D.Disk.told c.args.disk.now) image _ told c.in_ok-files.ensures.files in
    let tree = told_of (g.D.Disk.told c.opened_files.new.disk) image _ (c.opened_files.ensures.told ∙ told) c.in_ok-tree.ensures.tree files in
    opened_as image c.args.callers.now c.in_ok-files.files files c.in_ok-tree.tree c.in_ok-seats.seats tree (c.in_ok-seats.ensures ∙ ap (map first_seat) c.as_slice.ensures.creds))
