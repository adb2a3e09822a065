use Rattle.std.proofs.Common.{inl, inr, arith}
use Rattle.mb_namei.specs.Directories.{IsBlockOf}
use Rattle.mb_namei.proofs.Searching.{no_hole, of_part, seek_named, seek_empty, seek_other}
use Rattle.mb_namei.proofs.searches.search_part.Goals as goal

pub returns-in-Hole : goal.returns-in-Hole
returns-in-Hole g c = no_hole (g.V.View.shown c.args.view.now) c.args.changes.now c.args.dir c.args.part c.args.count c.requires.few c.requires.part c.in-Hole.ensures

pub returns-in-Need : goal.returns-in-Need
returns-in-Need g c =
    (let e = c.in-Need.ensures in
    (e.0, of_part (g.V.View.shown c.args.view.now) c.args.changes.now c.args.dir c.args.part (λ blocks. IsBlockOf blocks c.args.dir c.in-Need.need.first) c.requires.few e.1))

pub returns-in-Named : goal.returns-in-Named
returns-in-Named g c =
    (let e = c.in-Named.ensures in
    let w = e.within in (
      omega (arith, w, c.min-here.ensures, c.requires.part),
      seek_named (g.V.View.shown c.args.view.now) c.args.changes.now c.args.dir c.args.part c.args.count c.min-here.result c.in-Bytes.bytes.now c.requires.few c.requires.part c.min-here.ensures c.in-Bytes.ensures c.args.empty c.in-Named.place c.in-Named.ino c.args.name.now e,
    ))

pub returns-then-place-here : goal.returns-then-place-here
returns-then-place-here g c = (
  omega arith,
  seek_other (g.V.View.shown c.args.view.now) c.args.changes.now c.args.dir c.args.part c.args.count c.min-here.result c.in-Bytes.bytes.now c.requires.few c.requires.part c.min-here.ensures c.in-Bytes.ensures c.args.empty c.in-Unnamed.place c.args.name.now c.in-Unnamed.ensures (inl c.if-place-here.true),
)

pub returns-then-part-place : goal.returns-then-part-place
returns-then-part-place g c = (
  omega arith,
  seek_other (g.V.View.shown c.args.view.now) c.args.changes.now c.args.dir c.args.part c.args.count c.min-here.result c.in-Bytes.bytes.now c.requires.few c.requires.part c.min-here.ensures c.in-Bytes.ensures c.args.empty c.in-Unnamed.place c.args.name.now c.in-Unnamed.ensures (inr c.if-part-place.true),
)

pub returns-else-part-place : goal.returns-else-part-place
returns-else-part-place g c = (
  omega (arith, c.if-part-place.false),
  seek_empty (g.V.View.shown c.args.view.now) c.args.changes.now c.args.dir c.args.part c.args.count c.min-here.result c.in-Bytes.bytes.now c.requires.few c.requires.part c.min-here.ensures c.in-Bytes.ensures c.args.empty c.in-Unnamed.place c.args.name.now c.in-Unnamed.ensures c.if-place-here.false c.if-part-place.false,
)
