use Rattle.std.proofs.Common.{◌≡◌, ◌<◌, ◌∙◌, Some, arith, length, refl, slice_get, subst, sym}
use Rattle.std.proofs.lemmas.Bool.Decides.{nat_tests}
use Rattle.std.proofs.lemmas.Option.{same_Some, slice_get_read}
use Rattle.mb_calls.specs.Following.{IsGoing}
use Rattle.mb_bench.specs.Gathered.{shown_of}
use Rattle.mb_bench.proofs.benches.performed.Goals as goal

-- the session with which the call begins is the first
pub loop-asks-init : goal.loop-asks-init
loop-asks-init c = λ seat is.
    let seats = c.as_slice-seats.result.now in
    let some : 0 < length seats = (let t = sym c.is_empty.ensures ∙ c.if-is_empty.false in grind (arith, nat_tests)) in
    let own : slice_get seats 0 ≡ Some c.index-seats-0.result = slice_get_read seats (length seats) 0 c.index-seats-0.result refl some c.index-seats-0.is in
    subst (λ s. IsGoing (shown_of c.args.device.now) s c.args.call.now c.new-performing.result) (same_Some c.index-seats-0.result seat (sym own ∙ is)) (c.new-performing.ensures (shown_of c.args.device.now) c.args.call.now)

pub loop-asks-preserved : goal.loop-asks-preserved
loop-asks-preserved c = λ seat is. c.walks_go_on.ensures (shown_of c.loop-asks.device) (shown_of c.gather.new.self) seat c.args.call.now c.go.new.self c.gather.ensures (c.go.ensures.going seat is)

pub returns-in-Ready : goal.returns-in-Ready
returns-in-Ready c =
    let seats = c.as_slice-seats.result.now in
    let some : 0 < length seats = (let t = sym c.is_empty.ensures ∙ c.if-is_empty.false in grind (arith, nat_tests)) in
    (c.in-Ready.ensures.fit c.index-seats-0.result (slice_get_read seats (length seats) 0 c.index-seats-0.result refl some c.index-seats-0.is)).range
