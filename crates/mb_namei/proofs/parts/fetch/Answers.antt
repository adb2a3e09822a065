use Rattle.std.proofs.Common.{arith}
use Rattle.mb_namei.proofs.Fetching.{missing_part, asked_part, far_part, found_part, lacking_part}
use Rattle.mb_namei.proofs.parts.fetch.Goals as goal

pub returns-in-Missing : goal.returns-in-Missing
returns-in-Missing g c = (let e = c.in-Missing.ensures in missing_part (g.V.View.shown c.args.view.now) c.args.changes.now c.args.ino c.args.part (omega (arith, c.requires.part, c.requires.few)) c.in-Missing.level e.0 e.1)

pub returns-in-Need : goal.returns-in-Need
returns-in-Need g c = (let e = c.in-Need.ensures in (e.0, asked_part (g.V.View.shown c.args.view.now) c.args.changes.now c.args.ino c.args.part (omega (arith, c.requires.part, c.requires.few)) c.in-Need.need.first e.1))

pub returns-then-block-ge262144 : goal.returns-then-block-ge262144
returns-then-block-ge262144 g c = (let e = c.in-At.ensures in far_part (g.V.View.shown c.args.view.now) c.args.changes.now c.args.ino c.args.part (omega (arith, c.requires.part, c.requires.few)) c.in-At.block e.0 e.1 c.if-block-ge262144.true)

pub returns-in-Some : goal.returns-in-Some
returns-in-Some g c = (let e = c.in-At.ensures in found_part (g.V.View.shown c.args.view.now) c.args.changes.now c.args.ino c.args.part (omega (arith, c.requires.part, c.requires.few)) c.in-At.block e.0 e.1 c.in-Some.bytes.now c.in-Some.ensures.found)

pub returns-in-None : goal.returns-in-None
returns-in-None g c = (let e = c.in-At.ensures in (c.lacked.ensures.need, lacking_part (g.V.View.shown c.args.view.now) c.args.changes.now c.args.ino c.args.part (omega (arith, c.requires.part, c.requires.few)) c.in-At.block e.0 e.1 c.lacked.result.first c.lacked.ensures.first))
