use Rattle.std.proofs.Common.{◌∙◌}
use Rattle.mb_check_files.proofs.Listing.{if_told, given}
use Rattle.mb_check_files.proofs.Underways.{told_of}
use Rattle.mb_check_tree.proofs.NodesRead.{free_node, read_as, used_node}
use Rattle.mb_check_tree.proofs.nodes.node.Goals as goal

pub returns-then-found-eq0-clause-node : goal.returns-then-found-eq0-clause-node
returns-then-found-eq0-clause-node g c = if_told (g.D.Disk.told c.args.disk.now) _ (λ image told keeps from low.
    let same = given (g.D.Disk.told c.args.disk.now) image c.read.new.into c.inode_block.result told c.in_ok-read.ensures.bytes in
    let is = read_as image.at c.args.ino c.inode_block.result c.inode_place.result c.read.new.into c.read-found.result c.inode_block.ensures c.inode_place.ensures same c.read-found.ensures in
    free_node image.at c.args.ino from c.read-found.result is c.if-found-eq0.true)

pub returns-clause-node : goal.returns-clause-node
returns-clause-node g c = if_told (g.D.Disk.told c.args.disk.now) _ (λ image told keeps from low.
    let same = given (g.D.Disk.told c.args.disk.now) image c.read.new.into c.inode_block.result told c.in_ok-read.ensures.bytes in
    let is = read_as image.at c.args.ino c.inode_block.result c.inode_place.result c.read.new.into c.read-found.result c.inode_block.ensures c.inode_place.ensures same c.read-found.ensures in
    let body = told_of (g.D.Disk.told c.read.new.self) image _ (c.read.ensures.told ∙ told) c.in_ok-body.ensures.body keeps from low is in
    used_node image.at c.args.ino from c.read-found.result is c.in_ok-body.body c.if-found-eq0.false body)
