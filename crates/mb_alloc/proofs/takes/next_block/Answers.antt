use Rattle.std.proofs.Common.{sym, ap, ◌∙◌, ◌+◌, ◌*◌, arith}
use Rattle.mb_word.specs.Numbers.{word_at, long_at}
use Rattle.mb_tree.specs.Views.{over}
use Rattle.mb_kinds.specs.Changed.{changed}
use Rattle.mb_alloc.proofs.Takings.{too_many, out_far, next_is}
use Rattle.mb_alloc.proofs.takes.next_block.Goals as goal

pub returns-then-count-gt50 : goal.returns-then-count-gt50
returns-then-count-gt50 g c = λ blocks part keeps.
    absurd (let bytes = c.in-Some.ensures.found blocks part in
    too_many (over blocks (changed c.args.changes.now)) c.word_at-count.result keeps (c.word_at-count.ensures ∙ ap (λ b. word_at b 6) (sym bytes)) c.if-count-gt50.true)

pub returns-then-block-ge262144 : goal.returns-then-block-ge262144
returns-then-block-ge262144 g c = λ blocks part keeps.
    absurd (let bytes = c.in-Some.ensures.found blocks part in
    out_far (over blocks (changed c.args.changes.now)) c.word_at-count.result c.long_at-block.result keeps (c.word_at-count.ensures ∙ ap (λ b. word_at b 6) (sym bytes)) c.if-count-eq0.false
    (c.long_at-block.ensures ∙ ap (λ b. long_at b (4 + 4 * c.word_at-count.result)) (sym bytes)) c.if-block-eq0.false c.if-block-ge262144.true)

pub returns : goal.returns
returns g c = (
  omega (arith, c.if-block-eq0.false),
  omega (arith, c.if-block-ge262144.false),
  c.in-Some.ensures.placed,
  λ blocks part.
      (let bytes = c.in-Some.ensures.found blocks part in
      let counted = c.word_at-count.ensures ∙ ap (λ b. word_at b 6) (sym bytes) in
      record {
        next = next_is (over blocks (changed c.args.changes.now)) c.word_at-count.result c.long_at-block.result counted c.if-count-eq0.false (omega (arith, c.if-count-gt50.false))
            (c.long_at-block.ensures ∙ ap (λ b. long_at b (4 + 4 * c.word_at-count.result)) (sym bytes)) c.if-block-eq0.false;
        behind = sym counted ∙ omega (arith, c.if-count-eq0.false);
      }),
)
