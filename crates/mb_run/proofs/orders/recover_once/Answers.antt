use Rattle.std.proofs.Common.{Bool, true, false, ◌≡◌, ◌<◌, ◌∙◌, ap, sym, refl, arith, length, slice_set}
use Rattle.std.proofs.Math.ListN.{length-set}
use Rattle.mb_run.proofs.Moving.{moved_whole}
use Rattle.mb_run.proofs.Quiet.{quiet_whole}
use Rattle.mb_run.proofs.Taking.{takes_none}
use Rattle.mb_run.proofs.Waiting.{letter_may, open_has, open_low, open_rests, open_waits, rolled_gives_up, rolled_move}
use Rattle.mb_run.specs.Sights.{recovers}
use Rattle.mb_run.proofs.Starting.{open_rolls, quiet_alone}
use Rattle.mb_run.proofs.orders.recover_once.Goals as goal

never_over : {b : Bool} → b ≡ false → b ≡ true → ⊥
never_over none some = (let both : false ≡ true = sym none ∙ some in cc)

pub returns-in_default-clause-alone : goal.returns-in_default-clause-alone
returns-in_default-clause-alone g c = λ so. quiet_alone _ _ c.recover_alone.ensures.quiet

pub returns-in_default-clause-whole : goal.returns-in_default-clause-whole
returns-in_default-clause-whole g c = λ so. quiet_whole _ _ 0 _ _ _ c.requires.underway c.recover_alone.ensures.quiet c.recover_alone.ensures.seals (takes_none 0 _ _ refl c.recover_alone.ensures.quiet) c.recover_alone.ensures.right

pub bounds-runners-caller : goal.bounds-runners-caller
bounds-runners-caller g c = open_low _ _ _ _ _ c.requires.underway c.in-Some.ensures

pub bounds-runners-caller-in-Some : goal.bounds-runners-caller-in-Some
bounds-runners-caller-in-Some g c = open_low _ _ _ _ _ c.requires.underway c.in-Some.ensures

pub bounds-runners-caller-2 : goal.bounds-runners-caller-2
bounds-runners-caller-2 g c = open_low _ _ _ _ _ c.requires.underway c.in-Some.ensures

pub unreachable-requires : goal.unreachable-requires
unreachable-requires g c = open_has _ _ _ _ _ c.requires.underway c.in-Some.ensures c.index-runners-caller.result (sym c.in_default-find_call.ensures)

pub roll-requires-clause-may : goal.roll-requires-clause-may
roll-requires-clause-may g c = letter_may _ _ _ _ _ c.index-runners-caller.result _ _ c.requires.underway (open_low _ _ _ _ _ c.requires.underway c.in-Some.ensures) (sym c.in-Some-find_call.ensures)

pub roll-requires-clause-rests : goal.roll-requires-clause-rests
roll-requires-clause-rests g c = open_rests _ _ _ _ _ c.requires.underway c.in-Some.ensures _ (ap recovers (sym c.stage.ensures) ∙ sym c.is_recovering.ensures ∙ c.if-not-is_recovering.false)

pub roll-requires-clause-waits : goal.roll-requires-clause-waits
roll-requires-clause-waits g c = open_waits _ _ _ _ _ c.requires.underway c.in-Some.ensures _

pub bounds-runners-caller-in-NoMemory : goal.bounds-runners-caller-in-NoMemory
bounds-runners-caller-in-NoMemory g c =
    let low : c.in-Some.caller < length c.args.runners.now = open_low _ _ _ _ _ c.requires.underway c.in-Some.ensures in
    let size : length (slice_set c.args.runners.now c.in-Some.caller c.roll.new.runner) ≡ length c.args.runners.now = length-set c.args.runners.now c.in-Some.caller c.roll.new.runner in
    omega (arith, low, size)

pub give_up-requires : goal.give_up-requires
give_up-requires g c = rolled_gives_up _ _ _ _ _ _ _ _ _ c.requires.underway (open_low _ _ _ _ _ c.requires.underway c.in-Some.ensures) c.in-NoMemory.ensures.rolled c.roll.ensures.right

pub returns-in_default-roll : goal.returns-in_default-roll
returns-in_default-roll g c = record {
  whole = λ so. moved_whole _ _ _ _ _ _ _ _ c.requires.underway (open_low _ _ _ _ _ c.requires.underway c.in-Some.ensures) (rolled_move _ _ _ _ _ _ c.roll.result c.roll.ensures.rolled) c.roll.ensures.right;
  alone = λ so. open_rolls _ _ _ _ _ _ _ _ _ c.requires.underway c.in-Some.ensures c.roll.ensures.rolled;
  idle = λ over. absurd (never_over over (ap recovers (sym c.stage.ensures) ∙ sym c.is_recovering.ensures ∙ c.if-not-is_recovering.false));
  length = length-set c.args.runners.now c.in-Some.caller c.roll.new.runner;
  origin = c.roll.ensures.origin;
  test = c.roll.ensures.test;
  right = c.roll.ensures.right;
}

pub returns-in_default-clause-idle : goal.returns-in_default-clause-idle
returns-in_default-clause-idle g c = λ over. absurd (never_over over (ap recovers (sym c.stage.ensures) ∙ sym c.is_recovering.ensures ∙ c.if-not-is_recovering.false))
