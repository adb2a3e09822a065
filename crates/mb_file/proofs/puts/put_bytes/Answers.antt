use Rattle.std.proofs.Common.{◌≡◌, ◌+◌, ◌-◌, [], take, drop, refl, ap, arith}
use Rattle.mb_file.proofs.PuttingBytes.{bytes_first, bytes_next, bytes_refused, bytes_asked, bytes_all}
use Rattle.mb_file.proofs.puts.put_bytes.Goals as goal

pub loop-done-init : goal.loop-done-init
loop-done-init g c = (omega arith, bytes_first (g.V.View.shown c.args.view.now) c.args.changes.now c.args.ino c.args.offset c.args.bytes.now)

pub loop-done-preserved : goal.loop-done-preserved
loop-done-preserved g c = (
  omega (arith, c.min-some.ensures, c.loop-done-test.true),
  bytes_next (g.V.View.shown c.args.view.now) c.args.changes.now c.args.ino c.args.offset c.args.bytes.now c.loop-done.changes c.put_part.new.changes c.loop-done.done c.loop-done.invariant.1 c.min-some.result (c.loop-done.done + c.min-some.result) _ refl (ap (λ n. take n (drop c.loop-done.done c.args.bytes.now)) (let e : c.loop-done.done + c.min-some.result - c.loop-done.done ≡ c.min-some.result = omega arith in e))
      c.loop-done-test.true (omega (arith, c.min-some.ensures, c.loop-done-test.true)) (omega (arith, c.min-some.ensures, c.loop-done-test.true)) (omega (arith, c.min-some.ensures)) c.in-Done.ensures,
)

pub returns-in-NoneLeft : goal.returns-in-NoneLeft
returns-in-NoneLeft g c = bytes_refused (g.V.View.shown c.args.view.now) c.args.changes.now c.args.ino c.args.offset c.args.bytes.now c.loop-done.changes c.put_part.new.changes c.loop-done.done c.loop-done.invariant.1 c.loop-done-test.true c.in-NoneLeft.ensures

pub returns-in-Need : goal.returns-in-Need
returns-in-Need g c = bytes_asked (g.V.View.shown c.args.view.now) c.args.changes.now c.args.ino c.args.offset c.args.bytes.now c.loop-done.changes c.put_part.new.changes c.loop-done.done c.loop-done.invariant.1 0 0 [] c.in-Need.need c.in-Need.ensures

pub returns : goal.returns
returns g c = bytes_all (g.V.View.shown c.args.view.now) c.args.changes.now c.args.ino c.args.offset c.args.bytes.now c.loop-done.changes c.loop-done.done (omega (arith, c.loop-done-test.false)) c.loop-done.invariant.1
