use Rattle.std.proofs.Common.{◌≡◌, ◌+◌, ◌-◌, ◌≤◌, inl, inr, suc, set, ◌++◌, refl, sym, length-set, ◌∙◌, subst, arith}
use Rattle.std.specs.Prelude.{if◌then◌else◌, is_ok}
use Rattle.std.proofs.lemmas.List.{take_all}
use Rattle.mb_file.proofs.Listing.{HasParts, is_part, parts_next, parts_pushed}
use Rattle.mb_file.proofs.walks.push_parts.Goals as goal
use Rattle.mb_file.proofs.walks.push_parts.Goals.{After-from-count}

at_most_one : (c : After-from-count) → c.from-count.result ≤ 1
at_most_one c = elim (is_part c.long_at-part.result c.from-count.result c.long_at-part.type_inv c.from-count.ensures) [
  | inl one ↦ (let e = one.0 in omega (arith, e))
  | inr none ↦ (let e = none.0 in omega (arith, e))
]

pub loop-passed-preserved : goal.loop-passed-preserved
loop-passed-preserved c =
    let long = c.loop-passed.invariant.0 in
    let low = c.loop-passed.invariant.1 in
    let few = at_most_one c in
    let after = set c.loop-passed.parts c.loop-passed.passed c.long_at-part.result in
    let step : 128 - c.loop-passed.passed ≡ suc (127 - c.loop-passed.passed) = omega (arith, c.loop-passed-test.true) in
    let next : 127 - c.loop-passed.passed ≡ 128 - (c.loop-passed.passed + 1) = omega (arith, c.loop-passed-test.true) in (
      length-set c.loop-passed.parts c.loop-passed.passed c.long_at-part.result ∙ long,
      omega (arith, low, few),
      λ all.
          (let same : c.loop-passed.count ≡ c.loop-passed.passed = omega (arith, all, low, few) in
          let one : c.from-count.result ≡ 1 = omega (arith, all, low, few) in
          let went = parts_next c.args.index.now c.args.list.now.items c.loop-passed.parts after c.loop-passed.passed (128 - c.loop-passed.passed) (127 - c.loop-passed.passed) c.long_at-part.result c.from-count.result
          step c.long_at-part.ensures c.long_at-part.type_inv c.from-count.ensures (omega (arith, long, c.loop-passed-test.true)) refl (c.loop-passed.invariant.2 same) in
          subst (HasParts c.args.index.now c.args.list.now.items after (c.loop-passed.passed + 1)) next (subst (λ n. HasParts c.args.index.now c.args.list.now.items after (c.loop-passed.passed + n) (127 - c.loop-passed.passed)) one went.1)),
    )

pub returns-clause-parts : goal.returns-clause-parts
returns-clause-parts c =
    let whole = take_all c.loop-passed.passed c.loop-passed.parts (omega (arith, c.loop-passed.invariant.0, c.loop-passed-test.false)) in
    parts_pushed c.args.index.now c.args.list.now.items c.loop-passed.parts c.extend_from_slice.new.self.items c.loop-passed.passed (128 - c.loop-passed.passed) (omega (arith, c.loop-passed-test.false))
    (c.loop-passed.invariant.2 (omega (arith, c.loop-passed.invariant.1, c.loop-passed.auto.passed-end, c.if-count-lt128.false))) c.extend_from_slice.result
    (subst (λ xs. c.extend_from_slice.new.self.items ≡ if is_ok c.extend_from_slice.result then c.args.list.now.items ++ xs else c.args.list.now.items) (sym whole) c.extend_from_slice.ensures.items)
