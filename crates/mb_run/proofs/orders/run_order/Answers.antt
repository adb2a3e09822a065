use Rattle.std.proofs.Common.{List, ℕ, ◌∙◌, refl, subst}
use Rattle.std.proofs.lemmas.List.{take_all}
use Rattle.mb_run.specs.Letters.{HasBegunBy, letters_of}
use Rattle.mb_run.specs.Orders.{IsWhole, asked_in}
use Rattle.mb_run.specs.Runs.{EntersFirst}
use Rattle.mb_run.proofs.Calm.{told_take}
use Rattle.mb_run.proofs.Calmly.{plain_before}
use Rattle.mb_run.proofs.Letters.{begun_take}
use Rattle.mb_run.proofs.Asked.{whole_more}
use Rattle.mb_run.proofs.orders.run_order.Goals as goal

pub loop-character-preserved : goal.loop-character-preserved
loop-character-preserved g c =
    let whole = rw c.loop-character.invariant.test at c.if-not-step_character.ensures.whole refl in
    record {
      whole = whole_more _ _ c.args.order.now c.loop-character.character-index _ _ _ _ _ _ c.loop-character-test.true c.loop-character.invariant.whole whole;
      firsts = λ letters fresh. begun_take (letters_of c.args.callers.now) c.args.calls.now c.args.order.now c.loop-character.character-index (g.C.EventCore.sight c.loop-character.core) (g.C.EventCore.sight c.step_character.new.core)
          (c.loop-character.invariant.firsts letters fresh) whole.firsts (c.if-not-step_character.ensures.letters refl letters) whole.config c.loop-character-test.true;
      told = λ nowhere letters calm plain. told_take (letters_of c.args.callers.now) c.args.calls.now c.args.order.now c.loop-character.character-index (g.C.EventCore.sight c.loop-character.core) (g.C.EventCore.sight c.step_character.new.core) _ _
          c.loop-character-test.true (c.loop-character.invariant.told nowhere letters calm (plain_before (g.C.EventCore.sight c.loop-character.core) (g.C.EventCore.sight c.step_character.new.core) whole.later.entries whole.later.history plain)) whole.later.trail
          ((rw c.loop-character.invariant.test at c.if-not-step_character.ensures.calm refl) nowhere letters) plain;
      size = c.step_character.ensures.length ∙ c.loop-character.invariant.size;
      origin = c.step_character.ensures.origin ∙ c.loop-character.invariant.origin;
      test = c.step_character.ensures.test ∙ c.loop-character.invariant.test;
    }

pub returns-clause-firsts : goal.returns-clause-firsts
returns-clause-firsts g c = λ so letters fresh. subst (λ (seen : List ℕ). HasBegunBy (letters_of c.args.callers.now) c.args.calls.now seen (g.C.EventCore.sight c.loop-character.core))
    (take_all c.loop-character.character-index c.args.order.now c.loop-character-test.false) (c.loop-character.invariant.firsts letters fresh)

pub returns-clause-whole : goal.returns-clause-whole
returns-clause-whole g c = λ so. subst (λ (steps : List ℕ). IsWhole c.args.calls.now (g.H.Hook.test c.args.hook.now) (asked_in steps) (g.C.EventCore.sight c.args.core.now) (g.C.EventCore.sight c.loop-character.core) c.args.runners.now c.loop-character.runners)
    (take_all c.loop-character.character-index c.args.order.now c.loop-character-test.false) c.loop-character.invariant.whole

pub returns-clause-enters : goal.returns-clause-enters
returns-clause-enters g c = λ so calm nowhere letters plain. subst (λ (seen : List ℕ). EntersFirst c.args.calls.now (letters_of c.args.callers.now) seen (g.C.EventCore.sight c.loop-character.core).trail)
    (take_all c.loop-character.character-index c.args.order.now c.loop-character-test.false) (c.loop-character.invariant.told nowhere letters calm plain).enters
