use Rattle.std.proofs.Common.{rules, ◌≤◌, ◌+◌, ◌*◌, ◌-◌, ℕ, suc, List, length, ◌≡◌, [], ◌<◌, ◌∷◌, Ok, Err, refl, sym, ap, subst, ◌∙◌, arith}
use Rattle.mb_word.specs.Numbers.{word_at, long_at}
use Rattle.mb_rules.specs.Items.{Item, each_from, walked}
use Rattle.mb_rules.specs.FreeChain.{free_items}
use Rattle.mb_check_files.specs.Passes.{Stands, AreBounds}
use Rattle.mb_check_files.proofs.Eachs.{each_none, each_more, each_stops}
use Rattle.mb_check_files.proofs.chains.upper.Goals as goal

pub loop-place-init : goal.loop-place-init
loop-place-init c = (omega arith, λ blocks list are stands. (list, each_none _ list 1 (1 - 1) refl, stands))

pub returns-in-Err : goal.returns-in-Err
returns-in-Err c blocks list are stands =
    let so = c.loop-place.invariant.1 blocks list are stands in
    let p : ℕ = c.loop-place.place in
    let from = c.loop-place.auto.place in
    let less = c.loop-place-test.true in
    let count = c.word_at.ensures in
    let wide = c.from-count.ensures in
    let stop = c.in-Err.ensures.walk blocks so.0 are so.2 in
    each_stops (λ place. free_items blocks c.args.holder (long_at c.args.bytes.now (c.args.base + 2 + 4 * place))) list so.0 c.in-Err.broken 1 (p - 1) p (word_at c.args.bytes.now c.args.base - 1)
    (omega arith) (omega arith) so.1 (subst (λ a. walked so.0 (free_items blocks c.args.holder a) ≡ Err c.in-Err.broken) c.long_at.ensures stop)

pub loop-place-preserved : goal.loop-place-preserved
loop-place-preserved c = (
  let less = c.loop-place-test.true in omega arith,
  λ blocks list are stands.
      let so = c.loop-place.invariant.1 blocks list are stands in
      let p : ℕ = c.loop-place.place in
      let from = c.loop-place.auto.place in
      let next = c.in-Ok.ensures.walk blocks so.0 are so.2 in (
        next.0,
        each_more (λ place. free_items blocks c.args.holder (long_at c.args.bytes.now (c.args.base + 2 + 4 * place))) list so.0 next.0 1 (p - 1) p (p + 1 - 1)
            (omega arith) (omega arith) so.1 (subst (λ a. walked so.0 (free_items blocks c.args.holder a) ≡ Ok next.0) c.long_at.ensures next.1),
        next.2,
      ),
)

pub returns : goal.returns
returns c blocks list are stands =
    let so = c.loop-place.invariant.1 blocks list are stands in
    let p : ℕ = c.loop-place.place in
    let most = c.loop-place.auto.place-end in
    let past = c.loop-place-test.false in
    let near = c.loop-place.invariant.0 in
    let from = c.loop-place.auto.place in
    let count = c.word_at.ensures in
    let wide = c.from-count.ensures in
    let same : p - 1 ≡ word_at c.args.bytes.now c.args.base - 1 = omega arith in
    (so.0, subst (λ n. walked list (each_from (λ place. free_items blocks c.args.holder (long_at c.args.bytes.now (c.args.base + 2 + 4 * place))) 1 n) ≡ Ok so.0) same so.1, so.2)
