use Rattle.mb_tree.proofs.Arms.{creat_arm, unlink_arm, mkdir_arm, rmdir_arm}
use Rattle.mb_tree.proofs.machines.row.Goals as goal

pub returns-in-Creat-clause-row : goal.returns-in-Creat-clause-row
returns-in-Creat-clause-row c = creat_arm c.args.nodes.now c.args.seats.now c.args.seat.now c.args.call.now c.in-Creat.path _ c.args.moment c.args.pick c.creat_row.result c.in-Creat.mode c.in-Creat.is c.as_slice-in-Creat.ensures.bytes c.creat_row.ensures.row

pub returns-in-Unlink-clause-row : goal.returns-in-Unlink-clause-row
returns-in-Unlink-clause-row c = unlink_arm c.args.nodes.now c.args.seats.now c.args.seat.now c.args.call.now c.in-Unlink.path _ c.args.moment c.args.pick c.unlink_row.result c.in-Unlink.is c.as_slice-in-Unlink.ensures.bytes c.unlink_row.ensures.row

pub returns-in-Mkdir-clause-row : goal.returns-in-Mkdir-clause-row
returns-in-Mkdir-clause-row c = mkdir_arm c.args.nodes.now c.args.seats.now c.args.seat.now c.args.call.now c.in-Mkdir.path _ c.args.moment c.args.pick c.mkdir_row.result c.in-Mkdir.mode c.in-Mkdir.is c.as_slice-in-Mkdir.ensures.bytes c.mkdir_row.ensures.row

pub returns-in-Rmdir-clause-row : goal.returns-in-Rmdir-clause-row
returns-in-Rmdir-clause-row c = rmdir_arm c.args.nodes.now c.args.seats.now c.args.seat.now c.args.call.now c.in-Rmdir.path _ c.args.moment c.args.pick c.rmdir_row.result c.in-Rmdir.is c.as_slice-in-Rmdir.ensures.bytes c.rmdir_row.ensures.row
