use Rattle.std.proofs.Common.{arith}
use Rattle.mb_namei.proofs.Searching.{no_hole, of_part, count_one}
use Rattle.mb_namei.specs.Directories.{IsBlockOf}
use Rattle.mb_namei.proofs.searches.count_part.Goals as goal

pub returns-in-Bytes : goal.returns-in-Bytes
returns-in-Bytes g c =
    (let e = c.count_slots.ensures in (
      omega (arith, e.1, c.min.ensures),
      count_one (g.V.View.shown c.args.view.now) c.args.changes.now c.args.dir c.args.part c.args.count c.min.result c.in-Bytes.bytes.now c.requires.few c.requires.part c.min.ensures c.in-Bytes.ensures c.count_slots.result e.0,
    ))

pub returns-in-Hole : goal.returns-in-Hole
returns-in-Hole g c = no_hole (g.V.View.shown c.args.view.now) c.args.changes.now c.args.dir c.args.part c.args.count c.requires.few c.requires.part c.in-Hole.ensures

pub returns-in-Need : goal.returns-in-Need
returns-in-Need g c =
    (let e = c.in-Need.ensures in
    (e.0, of_part (g.V.View.shown c.args.view.now) c.args.changes.now c.args.dir c.args.part (λ blocks. IsBlockOf blocks c.args.dir c.in-Need.need.first) c.requires.few e.1))
