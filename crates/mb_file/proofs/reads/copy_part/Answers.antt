use Rattle.std.proofs.Common.{◌+◌, refl, ℕ, replicate}
use Rattle.mb_alloc.proofs.Within.{lacks}
use Rattle.mb_kinds.specs.Changed.{changed}
use Rattle.mb_file.proofs.Finding.{asked_part}
use Rattle.mb_file.proofs.Reading.{appends_found, appends_hole, zeros_is}
use Rattle.mb_file.proofs.reads.copy_part.Goals as goal

pub returns-in_default : goal.returns-in_default
returns-in_default g c = asked_part (g.V.View.shown c.args.view.now) c.args.changes.now c.args.ino c.args.part c.in-Block.block c.one.result c.in-Block.ensures
    (c.one.ensures.need (g.V.View.shown c.args.view.now) (lacks (changed c.args.changes.now c.in-Block.block) (g.V.View.shown c.args.view.now c.in-Block.block) c.in_default.ensures.missing)) c.one.ensures.first

pub returns-in-Some : goal.returns-in-Some
returns-in-Some g c = appends_found (g.V.View.shown c.args.view.now) c.args.changes.now c.args.ino c.args.part c.args.at c.args.some c.args.at (c.args.at + c.args.some) c.requires refl refl c.args.bytes.now.items c.append.new.bytes.items
    c.in-Block.block c.in-Some.found.now c.in-Block.ensures c.in-Some.ensures.found c.append.result c.append.ensures

pub returns-in-Hole : goal.returns-in-Hole
returns-in-Hole g c = appends_hole (g.V.View.shown c.args.view.now) c.args.changes.now c.args.ino c.args.part c.args.at c.args.some c.args.at (c.args.at + c.args.some) c.requires refl refl c.args.bytes.now.items c.append-in-Hole.new.bytes.items
    c.in-Hole.ensures (replicate {A = ℕ} 512 0) zeros_is c.append-in-Hole.result c.append-in-Hole.ensures
