use Rattle.std.proofs.Common.{List, ℕ, subst}
use Rattle.mb_tree.specs.declared.operations.FsOp.TheVariants.{Create, Empty, MakeDir, RemoveDir, Enlink, Delink, Put, SetMode, SetOwner, SetTimes, Hold, Release}
use Rattle.mb_iface.specs.Acting.{Acts}
use Rattle.mb_fsops.proofs.Performing.{kept_beside, kept_by, performed, performed_whatever}
use Rattle.mb_fsops.proofs.v7.perform.Goals as goal

pub returns-in-Create-clause-performs : goal.returns-in-Create-clause-performs
returns-in-Create-clause-performs g c = performed (g.V.View.shown c.args.view.now) c.args.opens.now c.args.op.now (Create c.in-Create.dir c.in-Create.name c.in-Create.mode c.in-Create.uid c.in-Create.gid c.in-Create.moment) c.in-Create.is c.args.demanded c.create.result (c.create.ensures.performs c.args.opens.now)

pub returns-in-Empty-clause-performs : goal.returns-in-Empty-clause-performs
returns-in-Empty-clause-performs g c = performed_whatever (g.V.View.shown c.args.view.now) c.args.opens.now c.args.op.now (Empty c.in-Empty.ino c.in-Empty.moment) c.in-Empty.is c.args.demanded c.empty.result c.empty.ensures.need c.empty.ensures.answer

pub returns-in-MakeDir-clause-performs : goal.returns-in-MakeDir-clause-performs
returns-in-MakeDir-clause-performs g c = performed (g.V.View.shown c.args.view.now) c.args.opens.now c.args.op.now (MakeDir c.in-MakeDir.dir c.in-MakeDir.name c.in-MakeDir.mode c.in-MakeDir.uid c.in-MakeDir.gid c.in-MakeDir.moment) c.in-MakeDir.is c.args.demanded c.make_dir.result (c.make_dir.ensures.performs c.args.opens.now)

pub returns-in-RemoveDir-clause-performs : goal.returns-in-RemoveDir-clause-performs
returns-in-RemoveDir-clause-performs g c = performed (g.V.View.shown c.args.view.now) c.args.opens.now c.args.op.now (RemoveDir c.in-RemoveDir.dir c.in-RemoveDir.name c.in-RemoveDir.moment) c.in-RemoveDir.is c.args.demanded c.remove_dir.result (c.remove_dir.ensures c.args.opens.now c.args.demanded)

pub returns-in-Enlink-clause-performs : goal.returns-in-Enlink-clause-performs
returns-in-Enlink-clause-performs g c = performed (g.V.View.shown c.args.view.now) c.args.opens.now c.args.op.now (Enlink c.in-Enlink.dir c.in-Enlink.name c.in-Enlink.ino c.in-Enlink.moment) c.in-Enlink.is c.args.demanded c.enlink.result (c.enlink.ensures c.args.opens.now c.args.demanded)

pub returns-in-Delink-clause-performs : goal.returns-in-Delink-clause-performs
returns-in-Delink-clause-performs g c = performed (g.V.View.shown c.args.view.now) c.args.opens.now c.args.op.now (Delink c.in-Delink.dir c.in-Delink.name c.in-Delink.moment) c.in-Delink.is c.args.demanded c.delink.result (c.delink.ensures c.args.demanded)

pub returns-in-Put-clause-performs : goal.returns-in-Put-clause-performs
returns-in-Put-clause-performs g c = performed_whatever (g.V.View.shown c.args.view.now) c.args.opens.now c.args.op.now (Put c.in-Put.ino c.in-Put.offset c.in-Put.bytes c.in-Put.moment) c.in-Put.is c.args.demanded c.put.result c.put.ensures.need (λ image tree part volume counts number. subst (λ (bytes : List ℕ). Acts (g.V.View.shown c.args.view.now) image tree counts (Put c.in-Put.ino c.in-Put.offset bytes c.in-Put.moment) number c.put.result) c.as_slice.ensures.bytes (c.put.ensures.answer image tree part volume counts number))

pub returns-in-SetMode-clause-performs : goal.returns-in-SetMode-clause-performs
returns-in-SetMode-clause-performs g c = performed (g.V.View.shown c.args.view.now) c.args.opens.now c.args.op.now (SetMode c.in-SetMode.ino c.in-SetMode.mode c.in-SetMode.moment) c.in-SetMode.is c.args.demanded c.set_mode.result (c.set_mode.ensures c.args.opens.now c.args.demanded)

pub returns-in-SetOwner-clause-performs : goal.returns-in-SetOwner-clause-performs
returns-in-SetOwner-clause-performs g c = performed (g.V.View.shown c.args.view.now) c.args.opens.now c.args.op.now (SetOwner c.in-SetOwner.ino c.in-SetOwner.uid c.in-SetOwner.gid c.in-SetOwner.moment) c.in-SetOwner.is c.args.demanded c.set_owner.result (c.set_owner.ensures c.args.opens.now c.args.demanded)

pub returns-in-SetTimes-clause-performs : goal.returns-in-SetTimes-clause-performs
returns-in-SetTimes-clause-performs g c = performed (g.V.View.shown c.args.view.now) c.args.opens.now c.args.op.now (SetTimes c.in-SetTimes.ino c.in-SetTimes.atime c.in-SetTimes.mtime c.in-SetTimes.moment) c.in-SetTimes.is c.args.demanded c.set_times.result (c.set_times.ensures c.args.opens.now c.args.demanded)

pub returns-in-Hold-clause-performs : goal.returns-in-Hold-clause-performs
returns-in-Hold-clause-performs g c = performed (g.V.View.shown c.args.view.now) c.args.opens.now c.args.op.now (Hold c.in-Hold.ino) c.in-Hold.is c.args.demanded c.hold.result (c.hold.ensures.performs c.args.opens.now c.args.demanded)

pub returns-in-Release-clause-performs : goal.returns-in-Release-clause-performs
returns-in-Release-clause-performs g c = performed (g.V.View.shown c.args.view.now) c.args.opens.now c.args.op.now (Release c.in-Release.inos) c.in-Release.is c.args.demanded c.release.result (c.release.ensures c.args.demanded)

pub returns-in-Create-clause-still : goal.returns-in-Create-clause-still
returns-in-Create-clause-still g c = kept_beside c.args.op.now (Create c.in-Create.dir c.in-Create.name c.in-Create.mode c.in-Create.uid c.in-Create.gid c.in-Create.moment) c.in-Create.is (λ changes. tt) c.create.result

pub returns-in-Empty-clause-still : goal.returns-in-Empty-clause-still
returns-in-Empty-clause-still g c = kept_beside c.args.op.now (Empty c.in-Empty.ino c.in-Empty.moment) c.in-Empty.is (λ changes. tt) c.empty.result

pub returns-in-MakeDir-clause-still : goal.returns-in-MakeDir-clause-still
returns-in-MakeDir-clause-still g c = kept_beside c.args.op.now (MakeDir c.in-MakeDir.dir c.in-MakeDir.name c.in-MakeDir.mode c.in-MakeDir.uid c.in-MakeDir.gid c.in-MakeDir.moment) c.in-MakeDir.is (λ changes. tt) c.make_dir.result

pub returns-in-RemoveDir-clause-still : goal.returns-in-RemoveDir-clause-still
returns-in-RemoveDir-clause-still g c = kept_beside c.args.op.now (RemoveDir c.in-RemoveDir.dir c.in-RemoveDir.name c.in-RemoveDir.moment) c.in-RemoveDir.is (λ changes. tt) c.remove_dir.result

pub returns-in-Enlink-clause-still : goal.returns-in-Enlink-clause-still
returns-in-Enlink-clause-still g c = kept_beside c.args.op.now (Enlink c.in-Enlink.dir c.in-Enlink.name c.in-Enlink.ino c.in-Enlink.moment) c.in-Enlink.is (λ changes. tt) c.enlink.result

pub returns-in-Delink-clause-still : goal.returns-in-Delink-clause-still
returns-in-Delink-clause-still g c = kept_beside c.args.op.now (Delink c.in-Delink.dir c.in-Delink.name c.in-Delink.moment) c.in-Delink.is (λ changes. tt) c.delink.result

pub returns-in-Put-clause-still : goal.returns-in-Put-clause-still
returns-in-Put-clause-still g c = kept_beside c.args.op.now (Put c.in-Put.ino c.in-Put.offset c.in-Put.bytes c.in-Put.moment) c.in-Put.is (λ changes. tt) c.put.result

pub returns-in-SetMode-clause-still : goal.returns-in-SetMode-clause-still
returns-in-SetMode-clause-still g c = kept_beside c.args.op.now (SetMode c.in-SetMode.ino c.in-SetMode.mode c.in-SetMode.moment) c.in-SetMode.is (λ changes. tt) c.set_mode.result

pub returns-in-SetOwner-clause-still : goal.returns-in-SetOwner-clause-still
returns-in-SetOwner-clause-still g c = kept_beside c.args.op.now (SetOwner c.in-SetOwner.ino c.in-SetOwner.uid c.in-SetOwner.gid c.in-SetOwner.moment) c.in-SetOwner.is (λ changes. tt) c.set_owner.result

pub returns-in-SetTimes-clause-still : goal.returns-in-SetTimes-clause-still
returns-in-SetTimes-clause-still g c = kept_beside c.args.op.now (SetTimes c.in-SetTimes.ino c.in-SetTimes.atime c.in-SetTimes.mtime c.in-SetTimes.moment) c.in-SetTimes.is (λ changes. tt) c.set_times.result

pub returns-in-Hold-clause-still : goal.returns-in-Hold-clause-still
returns-in-Hold-clause-still g c = kept_by c.args.op.now (Hold c.in-Hold.ino) c.in-Hold.is c.hold.result c.hold.ensures.still

pub returns-in-Release-clause-still : goal.returns-in-Release-clause-still
returns-in-Release-clause-still g c = kept_beside c.args.op.now (Release c.in-Release.inos) c.in-Release.is (λ changes. tt) c.release.result
