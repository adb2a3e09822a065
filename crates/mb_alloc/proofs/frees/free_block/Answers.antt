use Rattle.std.proofs.Common.{refl, sym, ap, subst, IfSome, ◌≢◌, ◌∙◌, take, drop, ℕ, replicate, arith}
use Rattle.std.proofs.lemmas.List.{length-replicate}
use Rattle.mb_word.specs.Fields.{nfree_of}
use Rattle.mb_word.specs.Numbers.{word_at, put_at}
use Rattle.mb_tree.specs.Views.{over}
use Rattle.mb_kinds.specs.Changed.{changed}
use Rattle.mb_alloc.proofs.Takings.{too_many}
use Rattle.mb_alloc.proofs.Freeings.{freed_none, freed_some, freed_full, put_back, put_back_full}
use Rattle.mb_alloc.proofs.Within.{length-take_drop}
use Rattle.mb_alloc.proofs.frees.free_block.Goals as goal

pub returns-then-count-gt50 : goal.returns-then-count-gt50
returns-then-count-gt50 g c = (
  λ handed within. within,
  λ blocks part keeps real.
      absurd (let bytes = c.in-Some.ensures.found blocks part in
      too_many (over blocks (changed c.args.changes.now)) c.word_at-count.result keeps (c.word_at-count.ensures ∙ ap (λ b. word_at b 6) (sym bytes)) c.if-count-gt50.true),
  λ room within. within,
)

pub returns-in-Done : goal.returns-in-Done
returns-in-Done g c = (
  c.in-Done.ensures.within,
  λ blocks part keeps real.
      (let bytes = c.in-Some.ensures.found blocks part in
      let counted = c.word_at-count.ensures ∙ ap (λ b. word_at b 6) (sym bytes) in
      put_back_full (over blocks (changed c.args.changes.now)) (over blocks (changed c.put_and_edit.new.changes)) c.word_at-count.result c.args.block counted c.if-count-eq50.true
      (freed_full (over blocks (changed c.args.changes.now)) (over blocks (changed c.put_and_edit.new.changes)) c.word_at-count.result c.args.block (replicate {A = ℕ} 512 0) c.write_at.new.into _ _ _ keeps
      counted c.if-count-eq50.true real c.requires (length-replicate {A = ℕ} 512 0)
      (c.write_at.ensures.bytes ∙ ap (λ b. put_at (replicate {A = ℕ} 512 0) 0 (take 202 (drop 6 b))) (sym bytes))
      (length-take_drop (over blocks (changed c.args.changes.now) 1) 202 6 (let l = keeps.sized 1 in omega (arith, l)))
      refl c.put_word.ensures c.put_long.ensures
      (c.in-Done.ensures.wrote blocks part))),
  λ room within. absurd (subst (λ o. IfSome o (λ first. nfree_of first ≢ 50)) c.in-Some.ensures.there room (sym c.word_at-count.ensures ∙ c.if-count-eq50.true)),
)

pub returns-in-Done-edit : goal.returns-in-Done-edit
returns-in-Done-edit g c = (
  λ handed. c.in-Done-edit.ensures.within,
  λ blocks part keeps real.
      (let bytes = c.in-Some.ensures.found blocks part in
      put_back (over blocks (changed c.args.changes.now)) (over blocks (changed c.edit.new.changes)) c.args.block _ real (c.in-Done-edit.ensures.wrote blocks part)
      (freed_none (over blocks (changed c.args.changes.now)) (over blocks (changed c.edit.new.changes)) c.word_at-count.result c.args.block _ _ _ _ keeps
      (c.word_at-count.ensures ∙ ap (λ b. word_at b 6) (sym bytes)) c.if-count-eq0.true real c.requires refl
      c.put_word-then-count-eq0.ensures c.put_long-then-count-eq0.ensures c.put_long-then-count-eq0-2.ensures (c.in-Done-edit.ensures.wrote blocks part))),
  λ room. c.in-Done-edit.ensures.within,
)

pub returns-in-Done-edit_both : goal.returns-in-Done-edit_both
returns-in-Done-edit_both g c = (
  λ handed. c.in-Done-edit_both.ensures.within,
  λ blocks part keeps real.
      (let bytes = c.in-Some.ensures.found blocks part in
      put_back (over blocks (changed c.args.changes.now)) (over blocks (changed c.edit_both.new.changes)) c.args.block _ real (c.in-Done-edit_both.ensures.wrote blocks part)
      (freed_some (over blocks (changed c.args.changes.now)) (over blocks (changed c.edit_both.new.changes)) c.word_at-count.result c.args.block _ _ _ keeps
      (c.word_at-count.ensures ∙ ap (λ b. word_at b 6) (sym bytes)) c.if-count-eq0.false (omega (arith, c.if-count-gt50.false, c.if-count-eq50.false)) real c.requires refl
      c.put_long-2.ensures refl (c.in-Done-edit_both.ensures.wrote blocks part))),
  λ room. c.in-Done-edit_both.ensures.within,
)
