use Rattle.std.proofs.Common.{◌≡◌, ◌+◌, ◌-◌, suc, refl, length-set, ◌∙◌, subst, arith}
use Rattle.mb_file.proofs.Listing.{HasParts, parts_next, parts_pushed, parts_many}
use Rattle.mb_file.proofs.walks.push_some.Goals as goal

pub loop-passed-preserved : goal.loop-passed-preserved
loop-passed-preserved c =
    let long = c.loop-passed.invariant.0 in
    let low = c.loop-passed.invariant.1 in
    let step : 128 - c.loop-passed.passed ≡ suc (127 - c.loop-passed.passed) = omega (arith, c.loop-passed-test.true) in
    let next : 127 - c.loop-passed.passed ≡ 128 - (c.loop-passed.passed + 1) = omega (arith, c.loop-passed-test.true) in
    let went = parts_next c.args.index.now c.args.list.now.items c.loop-passed.parts _ c.loop-passed.count (128 - c.loop-passed.passed) (127 - c.loop-passed.passed) c.long_at-part.result c.from-count.result
    step c.long_at-part.ensures c.long_at-part.type_inv c.from-count.ensures (omega (arith, low, long, c.loop-passed-test.true)) refl c.loop-passed.invariant.2 in (
      length-set c.loop-passed.parts c.loop-passed.count c.long_at-part.result ∙ long,
      (let few = went.0 in omega (arith, low, few)),
      subst (HasParts c.args.index.now c.args.list.now.items _ (c.loop-passed.count + c.from-count.result)) next went.1,
    )

pub returns-then-len-count-gt262144-clause-parts : goal.returns-then-len-count-gt262144-clause-parts
returns-then-len-count-gt262144-clause-parts c =
    parts_many c.args.index.now c.args.list.now.items c.loop-passed.parts c.args.list.now.items c.loop-passed.count (128 - c.loop-passed.passed) (omega (arith, c.loop-passed-test.false)) (omega (arith, c.loop-passed.invariant.0, c.loop-passed.invariant.1)) (omega (arith, c.if-len-count-gt262144.true)) c.loop-passed.invariant.2

pub returns-clause-parts : goal.returns-clause-parts
returns-clause-parts c =
    parts_pushed c.args.index.now c.args.list.now.items c.loop-passed.parts c.extend_from_slice.new.self.items c.loop-passed.count (128 - c.loop-passed.passed) (omega (arith, c.loop-passed-test.false)) c.loop-passed.invariant.2 c.extend_from_slice.result c.extend_from_slice.ensures.items
