use Rattle.std.proofs.Common.{sym}
use Rattle.mb_run.proofs.Moving.{moved_whole, moved_yes}
use Rattle.mb_run.proofs.Waiting.{letter_may}
use Rattle.mb_run.proofs.Starting.{letter_acts, letter_begun, past_begun}
use Rattle.mb_run.proofs.orders.step_letter.Goals as goal
use Rattle.std.proofs.Common.{slice_set, true, false, subst}
use Rattle.mb_run.specs.Calm.{TurnsCalmly}
use Rattle.mb_run.proofs.Calm.{letter_idle, letter_turns}

pub returns-in_default-clause-begins : goal.returns-in_default-clause-begins
returns-in_default-clause-begins g c = λ so. past_begun _ _ _ _ _ c.index-runners-caller.result c.requires.underway c.requires.within (sym c.in_default.ensures)

pub returns-then-capital-clause-begins : goal.returns-then-capital-clause-begins
returns-then-capital-clause-begins g c = λ so. letter_begun _ _ _ _ _ _ _ _ c.requires.underway c.requires.within (moved_yes _ _ _ _ _ _ _ c.step_to_finish.ensures.moved so) (c.step_to_finish.ensures.begins so)

pub returns-clause-begins : goal.returns-clause-begins
returns-clause-begins g c = λ so. letter_begun _ _ _ _ _ _ _ _ c.requires.underway c.requires.within (moved_yes _ _ _ _ _ _ _ c.step_once.ensures.moved so) (c.step_once.ensures.begins so)

pub returns-then-capital-clause-alone : goal.returns-then-capital-clause-alone
returns-then-capital-clause-alone g c = λ so. letter_acts _ _ _ _ _ _ _ _ c.requires.underway c.requires.within (moved_yes _ _ _ _ _ _ _ c.step_to_finish.ensures.moved so)

pub returns-clause-alone : goal.returns-clause-alone
returns-clause-alone g c = λ so. letter_acts _ _ _ _ _ _ _ _ c.requires.underway c.requires.within (moved_yes _ _ _ _ _ _ _ c.step_once.ensures.moved so)

pub returns-then-capital-clause-whole : goal.returns-then-capital-clause-whole
returns-then-capital-clause-whole g c = λ so. moved_whole _ _ _ _ _ _ _ _ c.requires.underway c.requires.within (moved_yes _ _ _ _ _ _ _ c.step_to_finish.ensures.moved so) c.step_to_finish.ensures.right

pub step_once-requires : goal.step_once-requires
step_once-requires g c = letter_may _ _ _ _ _ c.index-runners-caller.result _ _ c.requires.underway c.requires.within (sym c.in-Some.ensures)

pub returns-clause-whole : goal.returns-clause-whole
returns-clause-whole g c = λ so. moved_whole _ _ _ _ _ _ _ _ c.requires.underway c.requires.within (moved_yes _ _ _ _ _ _ _ c.step_once.ensures.moved so) c.step_once.ensures.right

pub returns-in_default-clause-calm : goal.returns-in_default-clause-calm
returns-in_default-clause-calm g c = λ so. letter_idle c.args.calls.now (g.H.Hook.test c.args.hook.now) (g.C.EventCore.sight c.args.core.now) (g.C.EventCore.sight c.args.core.now) c.args.runners.now c.args.caller c.index-runners-caller.result c.index-runners-caller.result c.index-runners-caller.result c.requires.underway c.requires.within (sym c.in_default.ensures) c.args.capital

pub returns-then-capital-clause-calm : goal.returns-then-capital-clause-calm
returns-then-capital-clause-calm g c = λ so. subst (λ b. TurnsCalmly c.args.calls.now (g.H.Hook.test c.args.hook.now) b c.args.caller (g.C.EventCore.sight c.args.core.now) (g.C.EventCore.sight c.step_to_finish.new.core) c.args.runners.now (slice_set c.args.runners.now c.args.caller c.step_to_finish.new.runner)) (sym c.if-capital.true)
    (letter_turns _ _ _ _ _ _ c.index-runners-caller.result _ _ c.requires.underway c.requires.within true _ (sym c.in-Some.ensures) (moved_yes _ _ _ _ _ _ _ c.step_to_finish.ensures.moved so) (c.step_to_finish.ensures.calm so))

pub returns-clause-calm : goal.returns-clause-calm
returns-clause-calm g c = λ so. subst (λ b. TurnsCalmly c.args.calls.now (g.H.Hook.test c.args.hook.now) b c.args.caller (g.C.EventCore.sight c.args.core.now) (g.C.EventCore.sight c.step_once.new.core) c.args.runners.now (slice_set c.args.runners.now c.args.caller c.step_once.new.runner)) (sym c.if-capital.false)
    (letter_turns _ _ _ _ _ _ c.index-runners-caller.result _ _ c.requires.underway c.requires.within false _ (sym c.in-Some.ensures) (moved_yes _ _ _ _ _ _ _ c.step_once.ensures.moved so) (c.step_once.ensures.calm so))
