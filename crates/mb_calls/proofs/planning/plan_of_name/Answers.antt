use Rattle.std.proofs.Common.{[], ◌∷◌, ap, sym, subst}
use Rattle.mb_calls.specs.Continuing.{BusyAlike}
use Rattle.mb_calls.specs.Halts.Scope.{lacking}
use Rattle.mb_calls.proofs.Asking.{told_of}
use Rattle.std.specs.Prelude.{slice_get}
use Rattle.std.specs.List.{Contains}
use Rattle.mb_calls.specs.Looked.{paths_of}
use Rattle.mb_calls.specs.Halts.Scope.{around}
use Rattle.mb_calls.proofs.Nearby.{first_of, second_of, spot_beside}
use Rattle.mb_calls.proofs.planning.plan_of_name.Goals as goal

pub returns-in-Creat-clause-wants : goal.returns-in-Creat-clause-wants
returns-in-Creat-clause-wants g c = c.creat_spot.ensures.follows.need (lacking _) c.place-spot.ensures.wants

pub returns-in-Creat-clause-says : goal.returns-in-Creat-clause-says
returns-in-Creat-clause-says g c = λ image tree others over alike. rw c.in-Creat.is (c.creat_spot.ensures.follows.gives tree.nodes _ (c.place-spot.ensures.says image tree over))

pub returns-in-Unlink-clause-wants : goal.returns-in-Unlink-clause-wants
returns-in-Unlink-clause-wants g c = c.unlink_spot.ensures.follows.need (lacking _) c.place-spot-in-Unlink.ensures.wants

pub returns-in-Unlink-clause-says : goal.returns-in-Unlink-clause-says
returns-in-Unlink-clause-says g c = λ image tree others over alike. rw c.in-Unlink.is (c.unlink_spot.ensures.follows.gives tree.nodes _ (c.place-spot-in-Unlink.ensures.says image tree over))

pub returns-in-Mkdir-clause-wants : goal.returns-in-Mkdir-clause-wants
returns-in-Mkdir-clause-wants g c = c.mkdir_spot.ensures.follows.need (lacking _) c.place-spot-in-Mkdir.ensures.wants

pub returns-in-Mkdir-clause-says : goal.returns-in-Mkdir-clause-says
returns-in-Mkdir-clause-says g c = λ image tree others over alike. rw c.in-Mkdir.is (c.mkdir_spot.ensures.follows.gives tree.nodes _ (c.place-spot-in-Mkdir.ensures.says image tree over))

pub returns-in-Link-clause-wants : goal.returns-in-Link-clause-wants
returns-in-Link-clause-wants g c = c.link_spot.ensures.follows.need (lacking _) c.find-asked.ensures.wants c.place-spot-in-Link.ensures.wants

pub returns-in-Link-clause-says : goal.returns-in-Link-clause-says
returns-in-Link-clause-says g c = λ image tree others over alike. rw c.in-Link.is (c.link_spot.ensures.follows.gives _ tree.nodes _ (c.find-asked.ensures.says image tree over) (c.place-spot-in-Link.ensures.says image tree over))

pub returns-in-Rmdir-clause-wants : goal.returns-in-Rmdir-clause-wants
returns-in-Rmdir-clause-wants g c = c.rmdir_spot.ensures.follows.need (lacking _) c.place-spot-in-Rmdir.ensures.wants c.used-used.ensures.wants

pub returns-in-Rmdir-clause-says : goal.returns-in-Rmdir-clause-says
returns-in-Rmdir-clause-says g c = λ image tree others over alike.
    let spot = c.place-spot-in-Rmdir.ensures.says image tree over in
    rw c.in-Rmdir.is (c.rmdir_spot.ensures.follows.gives tree.nodes others _ (subst (λ a. BusyAlike a c.args.opens.now c.args.seats.now others) c.in-Rmdir.is alike) spot (c.used-used.ensures.says image tree over.part over.volume (told_of tree.nodes _ c.place-spot-in-Rmdir.result spot)))

pub returns-in-Creat-clause-near : goal.returns-in-Creat-clause-near
returns-in-Creat-clause-near g c = λ image tree over. c.creat_spot.ensures.follows.need (around image tree c.args.seat.now c.args.call.now) (c.place-spot.ensures.near image tree c.args.call.now over (subst (λ a. Contains (paths_of a) c.in-Creat.path) (sym c.in-Creat.is) (first_of c.in-Creat.path [])))

pub returns-in-Unlink-clause-near : goal.returns-in-Unlink-clause-near
returns-in-Unlink-clause-near g c = λ image tree over. c.unlink_spot.ensures.follows.need (around image tree c.args.seat.now c.args.call.now) (c.place-spot-in-Unlink.ensures.near image tree c.args.call.now over (subst (λ a. Contains (paths_of a) c.in-Unlink.path) (sym c.in-Unlink.is) (first_of c.in-Unlink.path [])))

pub returns-in-Mkdir-clause-near : goal.returns-in-Mkdir-clause-near
returns-in-Mkdir-clause-near g c = λ image tree over. c.mkdir_spot.ensures.follows.need (around image tree c.args.seat.now c.args.call.now) (c.place-spot-in-Mkdir.ensures.near image tree c.args.call.now over (subst (λ a. Contains (paths_of a) c.in-Mkdir.path) (sym c.in-Mkdir.is) (first_of c.in-Mkdir.path [])))

pub returns-in-Link-clause-near : goal.returns-in-Link-clause-near
returns-in-Link-clause-near g c = λ image tree over. c.link_spot.ensures.follows.need (around image tree c.args.seat.now c.args.call.now) (c.find-asked.ensures.near image tree c.args.call.now over (subst (λ a. Contains (paths_of a) c.in-Link.from) (sym c.in-Link.is) (first_of c.in-Link.from (c.in-Link.to ∷ []))))
    (c.place-spot-in-Link.ensures.near image tree c.args.call.now over (subst (λ a. Contains (paths_of a) c.in-Link.to) (sym c.in-Link.is) (second_of c.in-Link.from c.in-Link.to [])))

pub returns-in-Rmdir-clause-near : goal.returns-in-Rmdir-clause-near
returns-in-Rmdir-clause-near g c = λ image tree over.
    let has = (subst (λ a. Contains (paths_of a) c.in-Rmdir.path) (sym c.in-Rmdir.is) (first_of c.in-Rmdir.path [])) in
    let spot = c.place-spot-in-Rmdir.ensures.says image tree over in
    c.rmdir_spot.ensures.follows.need (around image tree c.args.seat.now c.args.call.now) (c.place-spot-in-Rmdir.ensures.near image tree c.args.call.now over has)
    (c.used-used.ensures.near image tree c.args.seat.now c.args.call.now over.part over.volume (told_of tree.nodes _ c.place-spot-in-Rmdir.result spot) (spot_beside tree.nodes c.args.seat.now c.args.call.now c.in-Rmdir.path has c.place-spot-in-Rmdir.result spot))

pub place-spot-requires : goal.place-spot-requires
place-spot-requires g c = record { kept = c.requires.going.first c.in-Creat.path (ap (λ a. slice_get (paths_of a) 0) c.in-Creat.is) }

pub place-spot-requires-in-Unlink : goal.place-spot-requires-in-Unlink
place-spot-requires-in-Unlink g c = record { kept = c.requires.going.first c.in-Unlink.path (ap (λ a. slice_get (paths_of a) 0) c.in-Unlink.is) }

pub place-spot-requires-in-Mkdir : goal.place-spot-requires-in-Mkdir
place-spot-requires-in-Mkdir g c = record { kept = c.requires.going.first c.in-Mkdir.path (ap (λ a. slice_get (paths_of a) 0) c.in-Mkdir.is) }

pub place-spot-requires-in-Rmdir : goal.place-spot-requires-in-Rmdir
place-spot-requires-in-Rmdir g c = record { kept = c.requires.going.first c.in-Rmdir.path (ap (λ a. slice_get (paths_of a) 0) c.in-Rmdir.is) }

pub find-asked-requires : goal.find-asked-requires
find-asked-requires g c = record { kept = c.requires.going.first c.in-Link.from (ap (λ a. slice_get (paths_of a) 0) c.in-Link.is) }

pub place-spot-requires-in-Link : goal.place-spot-requires-in-Link
place-spot-requires-in-Link g c = record { kept = c.requires.going.second c.in-Link.to (ap (λ a. slice_get (paths_of a) 1) c.in-Link.is) }
