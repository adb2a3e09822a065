use Rattle.std.proofs.Common.{Ok, ap, sym, ◌∙◌}
use Rattle.mb_tree.proofs.KnownPlaces.{known_place}
use Rattle.mb_calls.proofs.Nearby.{place_beside}
use Rattle.mb_calls.proofs.asks.place.Goals as goal

pub returns-in-Ok-clause-says : goal.returns-in-Ok-clause-says
returns-in-Ok-clause-says g c = λ image tree over. record {
  is = c.in-Ok.ensures.says image tree over ∙ ap Ok (sym c.look_beside.ensures.is);
  told = c.look_beside.ensures.told image tree over.part over.volume (known_place tree over.volume.sound c.args.seat.now.cred c.args.seat.now.cwd c.args.path.now c.in-Ok.placed over.seated.cwd (c.in-Ok.ensures.says image tree over));
}

pub returns-in-Ok-clause-near : goal.returns-in-Ok-clause-near
returns-in-Ok-clause-near g c = λ image tree made over has.
    c.look_beside.ensures.near image tree c.args.seat.now made over.part over.volume
    (known_place tree over.volume.sound c.args.seat.now.cred c.args.seat.now.cwd c.args.path.now c.in-Ok.placed over.seated.cwd (c.in-Ok.ensures.says image tree over))
    (place_beside tree.nodes c.args.seat.now made c.args.path.now has c.in-Ok.placed (c.in-Ok.ensures.says image tree over))
