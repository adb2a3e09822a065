use Rattle.std.proofs.Common.{refl, sym, ap, subst, ◌∙◌, take, IsSome, arith}
use Rattle.mb_tree.specs.Views.{over}
use Rattle.mb_kinds.specs.Changed.{changed}
use Rattle.mb_alloc.proofs.Takings.{taken_zeroed_more, taken_zeroed_last}
use Rattle.mb_alloc.proofs.takes.take_zeroed.Goals as goal

pub returns-in-Done : goal.returns-in-Done
returns-in-Done g c = (
  c.in-Block.ensures.0,
  c.in-Block.ensures.1,
  c.in-Done.ensures.within (subst (λ o. IsSome o) c.in-Some.ensures refl),
  λ blocks part keeps.
      taken_zeroed_more (over blocks (changed c.args.changes.now)) (over blocks (changed c.zero_and_edit.new.changes)) c.in-Block.block c.in-Block.left c.word.result keeps (c.in-Block.ensures.3 blocks part) c.if-left-gt0.true c.word.ensures
      (c.in-Done.ensures.wrote blocks part),
)

pub returns-in-Done-zero_and_edit : goal.returns-in-Done-zero_and_edit
returns-in-Done-zero_and_edit g c = (
  c.in-Block.ensures.0,
  c.in-Block.ensures.1,
  c.in-Done-zero_and_edit.ensures.within (subst (λ o. IsSome o) c.in-Some.ensures refl),
  λ blocks part keeps.
      (let held = c.in-Some-seen.ensures.found blocks part in
      taken_zeroed_last (over blocks (changed c.args.changes.now)) (over blocks (changed c.zero_and_edit-2.new.changes)) c.in-Block.block c.in-Block.left c.list_bytes-list.result keeps (c.in-Block.ensures.3 blocks part) (omega (arith, c.if-left-gt0.false))
      (c.list_bytes-list.ensures.bytes ∙ ap (take 202) (sym held)) c.list_bytes-list.ensures.sized (c.in-Done-zero_and_edit.ensures.wrote blocks part)),
)
