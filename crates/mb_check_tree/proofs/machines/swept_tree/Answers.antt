use Rattle.std.proofs.Common.{refl, arith}
use Rattle.mb_check.proofs.LateParts.{keeps_files}
use Rattle.mb_check_files.proofs.Listing.{if_told}
use Rattle.mb_check_files.proofs.Underways.{told_of}
use Rattle.mb_check_tree.proofs.Openings.{tree_is}
use Rattle.mb_check_tree.proofs.machines.swept_tree.Goals as goal

pub returns-clause-tree : goal.returns-clause-tree
returns-clause-tree g c = if_told (g.D.Disk.told c.args.disk.now) _ (λ image told are.
    let nodes = told_of (g.D.Disk.told c.args.disk.now) image _ told c.in_ok-nodes.ensures.nodes (keeps_files image c.args.files.now are.tells) are.tells.last in
    let few = are.few in
    let sum = c.saturating_add.ensures in
    tree_is image c.args.files.now are c.in_ok-nodes.nodes c.args.files.now.last c.saturating_add.result nodes refl (omega (arith, few, sum)))
