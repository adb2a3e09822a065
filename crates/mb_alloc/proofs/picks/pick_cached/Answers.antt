use Rattle.std.proofs.Common.{refl, sym, ap, ◌∙◌, ◌-◌, ◌∷◌, [], arith}
use Rattle.mb_word.specs.Fields.{isize_of}
use Rattle.mb_tree.specs.Views.{over}
use Rattle.mb_kinds.specs.Changed.{changed}
use Rattle.mb_alloc.specs.Numbers.{cached_below}
use Rattle.mb_alloc.proofs.Picking.{passed_more, picked_now, cache_cut}
use Rattle.mb_alloc.proofs.picks.pick_cached.Goals as goal

pub returns-in-Done : goal.returns-in-Done
returns-in-Done g c = (
  c.in-Done.ensures.within,
  λ blocks part keeps.
      (let old = over blocks (changed c.args.changes.now) in
      let bytes = c.in-Some.ensures.found blocks part in
      let left = c.word_at-count.result - 1 - c.loop-passed.passed in (
        cached_below (old 1) left,
        picked_now (g.V.View.shown c.args.view.now) c.args.changes.now c.in-Some.bytes.now c.word_at-count.result c.loop-passed.passed left c.word_at-ino.result blocks part bytes c.word_at-count.ensures
            (omega (arith, c.loop-passed-test.true)) refl c.word_at-ino.ensures (c.in-Free.ensures blocks part (c.word_at-size.ensures ∙ ap isize_of (sym bytes))) c.loop-passed.invariant,
        cache_cut old (over blocks (changed c.edit.new.changes)) left (left ∷ 0 ∷ []) keeps (omega (arith, c.if-count-gt100.false, c.loop-passed-test.true)) refl (c.in-Done.ensures.wrote blocks part),
      )),
)

pub loop-passed-preserved : goal.loop-passed-preserved
loop-passed-preserved g c = passed_more (g.V.View.shown c.args.view.now) c.args.changes.now c.in-Some.bytes.now c.word_at-count.result c.loop-passed.passed (c.word_at-count.result - 1 - c.loop-passed.passed) c.word_at-ino.result
    (omega (arith, c.loop-passed-test.true)) refl c.word_at-ino.ensures (λ blocks part. c.in-Used.ensures blocks part (c.word_at-size.ensures ∙ ap isize_of (sym (c.in-Some.ensures.found blocks part)))) c.loop-passed.invariant
