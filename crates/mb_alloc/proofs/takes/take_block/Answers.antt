use Rattle.std.proofs.Common.{sym, ap, ◌∙◌, take, arith}
use Rattle.mb_tree.specs.Views.{over}
use Rattle.mb_kinds.specs.Changed.{changed}
use Rattle.mb_alloc.proofs.Takings.{taken_more, taken_last}
use Rattle.mb_alloc.proofs.takes.take_block.Goals as goal

pub returns-in-Done : goal.returns-in-Done
returns-in-Done g c = (
  c.in-Block.ensures.0,
  c.in-Block.ensures.1,
  c.in-Done.ensures.within,
  λ blocks part keeps.
      taken_more (over blocks (changed c.args.changes.now)) (over blocks (changed c.edit.new.changes)) c.in-Block.block c.in-Block.left c.word.result keeps (c.in-Block.ensures.3 blocks part) c.if-left-gt0.true c.word.ensures
      (c.in-Done.ensures.wrote blocks part),
)

pub returns-in-Done-edit : goal.returns-in-Done-edit
returns-in-Done-edit g c = (
  c.in-Block.ensures.0,
  c.in-Block.ensures.1,
  c.in-Done-edit.ensures.within,
  λ blocks part keeps.
      (let held = c.in-Some.ensures.found blocks part in
      taken_last (over blocks (changed c.args.changes.now)) (over blocks (changed c.edit-2.new.changes)) c.in-Block.block c.in-Block.left c.list_bytes-list.result keeps (c.in-Block.ensures.3 blocks part) (omega (arith, c.if-left-gt0.false))
      (c.list_bytes-list.ensures.bytes ∙ ap (take 202) (sym held)) c.list_bytes-list.ensures.sized (c.in-Done-edit.ensures.wrote blocks part)),
)
