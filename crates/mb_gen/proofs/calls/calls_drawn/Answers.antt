use Rattle.std.proofs.Common.{[], ◌∷◌, length-append, refl, sym, arith}
use Rattle.mb_gen.proofs.OneMore.{calls_more, calls_none}
use Rattle.mb_gen.proofs.calls.calls_drawn.Goals as goal

pub calls-init : goal.calls-init
calls-init g c = rw c.in_ok-calls.ensures.items (record { drawn = sym (calls_none g.G.NextWord.step c.args.draws.now); size = refl })

pub calls-preserved : goal.calls-preserved
calls-preserved g c =
    let whole = length-append c.calls.calls.items (c.in_ok-call_drawn.field-0 ∷ []) in
    let size = c.calls.invariant.size in
    rw c.in_ok-push.ensures.items (record {
      drawn = calls_more g.G.NextWord.step c.calls._index c.args.draws.now c.calls.draws c.calls.calls.items c.in_ok-call_drawn.field-0 c.call_drawn.new.draws c.calls.invariant.drawn c.in_ok-call_drawn.ensures;
      size = omega (arith, whole, size);
    })
