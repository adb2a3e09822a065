use Rattle.mb_run.proofs.InTime.{quits_time}
use Rattle.mb_volume_core.proofs.Leaving.{has_open_call, quit_origin, quits_by}
use Rattle.mb_volume_core.proofs.Orderly.{orderly}
use Rattle.mb_volume_core.proofs.Standing.{quit_stands}
use Rattle.mb_volume_core.proofs.volume_core.VolumeCoreEventCore.quit.Goals as goal

pub quit-requires : goal.quit-requires
quit-requires g c = has_open_call c.args.self.now.core c.args.caller c.requires.waits

pub returns-clause-quits : goal.returns-clause-quits
returns-clause-quits g c =
    let core = c.args.self.now.core in
    let has = has_open_call core c.args.caller c.requires.waits in
    quits_by core c.args.caller has.0.mine has.0.here c.quit.new.self (c.quit.ensures.quit has.0.mine has.0.here).0

pub returns-clause-stands : goal.returns-clause-stands
returns-clause-stands g c =
    let core = c.args.self.now.core in
    let has = has_open_call core c.args.caller c.requires.waits in
    quit_stands core c.quit.new.self c.args.caller has.0.mine has.0.here (c.quit.ensures.quit has.0.mine has.0.here).0

pub returns-clause-origin : goal.returns-clause-origin
returns-clause-origin g c =
    let core = c.args.self.now.core in
    let has = has_open_call core c.args.caller c.requires.waits in
    quit_origin core c.args.caller has.0.mine has.0.here c.quit.new.self (c.quit.ensures.quit has.0.mine has.0.here).0

pub returns-clause-right : goal.returns-clause-right
returns-clause-right g c = orderly g.D.Disk.told g.D.Disk.faults c.quit.new.self c.quit.ensures.right (quits_time c.args.caller _ _ (returns-clause-quits g c) c.requires.right.seals)
