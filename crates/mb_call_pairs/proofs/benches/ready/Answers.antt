use Rattle.std.proofs.Common.{◌≡◌, ◌∙◌, Some, get_or, length, refl, subst, sym}
use Rattle.std.proofs.lemmas.Option.{same_Some, slice_get_read}
use Rattle.std.specs.List.{slice_get}
use Rattle.mb_kinds.specs.Changed.{changed}
use Rattle.mb_calls.specs.Following.{IsGoing}
use Rattle.mb_call_pairs.proofs.benches.ready.Goals as goal

-- the session with which the call begins is the caller's
pub loop-init : goal.loop-init
loop-init c = λ seat is. let read : c.index-seats-from.result ≡ get_or c.args.seats.now c.args.caller c.index-seats-from.result = subst (λ k. c.index-seats-from.result ≡ get_or c.args.seats.now k c.index-seats-from.result) c.from.ensures c.index-seats-from.is in let own : slice_get c.args.seats.now c.args.caller ≡ Some c.index-seats-from.result = slice_get_read c.args.seats.now (length c.args.seats.now) c.args.caller c.index-seats-from.result refl c.requires read in subst (λ s. IsGoing (changed c.nothing-view.result.blocks) s c.args.call.now c.new-performing.result) (same_Some c.index-seats-from.result seat (sym own ∙ is)) (c.new-performing.ensures (changed c.nothing-view.result.blocks) c.args.call.now)

pub loop-preserved : goal.loop-preserved
loop-preserved c = λ seat is. c.walks_go_on.ensures (changed c.loop.view.blocks) (changed c.gather_for.new.view.blocks) seat c.args.call.now c.go.new.self c.gather_for.ensures (c.go.ensures.going seat is)

pub returns-in-Ready : goal.returns-in-Ready
returns-in-Ready c = let read : c.index-seats-from.result ≡ get_or c.args.seats.now c.args.caller c.index-seats-from.result = subst (λ k. c.index-seats-from.result ≡ get_or c.args.seats.now k c.index-seats-from.result) c.from.ensures c.index-seats-from.is in (c.in-Ready.ensures.fit c.index-seats-from.result (slice_get_read c.args.seats.now (length c.args.seats.now) c.args.caller c.index-seats-from.result refl c.requires read)).range
