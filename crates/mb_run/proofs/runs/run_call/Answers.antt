use Rattle.std.proofs.Common.{arith, refl, sym, ◌<◌, ◌∙◌, length}
use Rattle.std.proofs.Math.ListN.{length-set}
use Rattle.mb_run.proofs.Everybody.{turned_less, holder_low, holder_has, holder_may, holder_mine, held_less}
use Rattle.mb_run.proofs.GivingUp.{turn_gives_up}
use Rattle.mb_run.proofs.Moving.{moved_whole, whole_same, whole_then}
use Rattle.mb_run.proofs.RunningOut.{again_moves, busy_moves, ended_answered, ended_moves, none_answered, ran_moves}
use Rattle.mb_run.proofs.Waiting.{letter_may}
use Rattle.mb_run.proofs.runs.run_call.Goals as goal

pub returns-in-Ended-clause-whole : goal.returns-in-Ended-clause-whole
returns-in-Ended-clause-whole g c = λ so. whole_then _ _ 0 0 _ _ _ _ _ _ c.turns.invariant.whole (moved_whole _ _ _ _ _ _ _ _ c.turns.invariant.whole.underway (let low : c.args.caller < length c.turns.runners = omega (arith, c.requires.within, c.turns.invariant.size) in low) (ended_moves _ _ _ _ _ _ (rw c.turns.invariant.test at c.in-Ended.ensures.turns)) c.turn.ensures.right)

pub turns-smaller-in-Again : goal.turns-smaller-in-Again
turns-smaller-in-Again g c = turned_less _ _ _ _ _ _ _ _ c.turns.invariant.whole.underway (let low : c.args.caller < length c.turns.runners = omega (arith, c.requires.within, c.turns.invariant.size) in low) (rw c.turns.invariant.test at c.in-Again.ensures.turns)

pub turns-preserved-in-Again : goal.turns-preserved-in-Again
turns-preserved-in-Again g c = record { whole = whole_then _ _ 0 0 _ _ _ _ _ _ c.turns.invariant.whole (moved_whole _ _ _ _ _ _ _ _ c.turns.invariant.whole.underway (let low : c.args.caller < length c.turns.runners = omega (arith, c.requires.within, c.turns.invariant.size) in low) (again_moves _ _ _ _ _ _ (rw c.turns.invariant.test at c.in-Again.ensures.turns)) c.turn.ensures.right); size = length-set c.turns.runners c.args.caller c.turn.new.runner ∙ c.turns.invariant.size; origin = c.turn.ensures.origin ∙ c.turns.invariant.origin; test = c.turn.ensures.test ∙ c.turns.invariant.test }

pub unreachable-requires : goal.unreachable-requires
unreachable-requires g c = holder_has _ _ _ _ _ _ _ _ c.turns.invariant.whole.underway (let low : c.args.caller < length c.turns.runners = omega (arith, c.requires.within, c.turns.invariant.size) in low) c.in-Busy.holder (rw c.turns.invariant.test at c.in-Busy.ensures.turns) c.turn.ensures.right c.index-runners-holder.result (sym c.in_default-find_call.ensures)

pub run_holder-requires-clause-may : goal.run_holder-requires-clause-may
run_holder-requires-clause-may g c = rw (c.turn.ensures.test ∙ c.turns.invariant.test) (holder_may _ _ _ _ _ _ _ _ c.turns.invariant.whole.underway (let low : c.args.caller < length c.turns.runners = omega (arith, c.requires.within, c.turns.invariant.size) in low) c.in-Busy.holder (rw c.turns.invariant.test at c.in-Busy.ensures.turns) c.turn.ensures.right c.index-runners-holder.result _ _ (sym c.in-Some-find_call.ensures))

pub run_holder-requires-clause-mine : goal.run_holder-requires-clause-mine
run_holder-requires-clause-mine g c = holder_mine _ _ _ _ _ _ _ _ c.turns.invariant.whole.underway (let low : c.args.caller < length c.turns.runners = omega (arith, c.requires.within, c.turns.invariant.size) in low) c.in-Busy.holder (rw c.turns.invariant.test at c.in-Busy.ensures.turns) c.turn.ensures.right _

pub turns-smaller : goal.turns-smaller
turns-smaller g c = held_less _ _ _ _ _ _ _ _ c.turns.invariant.whole.underway (let low : c.args.caller < length c.turns.runners = omega (arith, c.requires.within, c.turns.invariant.size) in low) c.in-Busy.holder (rw c.turns.invariant.test at c.in-Busy.ensures.turns) c.turn.ensures.right _ _ _ (rw (c.turn.ensures.test ∙ c.turns.invariant.test) at c.if-not-run_holder.ensures.ran) c.run_holder.ensures.right

pub turns-preserved : goal.turns-preserved
turns-preserved g c = record { whole = (let one = whole_then _ _ 0 0 _ _ _ _ _ _ c.turns.invariant.whole (moved_whole _ _ _ _ _ _ _ _ c.turns.invariant.whole.underway (let low : c.args.caller < length c.turns.runners = omega (arith, c.requires.within, c.turns.invariant.size) in low) (busy_moves _ _ _ _ _ _ _ (rw c.turns.invariant.test at c.in-Busy.ensures.turns)) c.turn.ensures.right) in whole_then _ _ 0 0 _ _ _ _ _ _ one (moved_whole _ _ _ _ _ _ _ _ one.underway (holder_low _ _ _ _ _ _ _ _ c.turns.invariant.whole.underway (let low : c.args.caller < length c.turns.runners = omega (arith, c.requires.within, c.turns.invariant.size) in low) c.in-Busy.holder (rw c.turns.invariant.test at c.in-Busy.ensures.turns) c.turn.ensures.right) (ran_moves _ _ _ _ _ _ (rw (c.turn.ensures.test ∙ c.turns.invariant.test) at c.if-not-run_holder.ensures.ran)) c.run_holder.ensures.right)); size = length-set _ _ _ ∙ length-set c.turns.runners c.args.caller c.turn.new.runner ∙ c.turns.invariant.size; origin = c.run_holder.ensures.origin ∙ c.turn.ensures.origin ∙ c.turns.invariant.origin; test = c.run_holder.ensures.test ∙ c.turn.ensures.test ∙ c.turns.invariant.test }

pub give_up-requires : goal.give_up-requires
give_up-requires g c = turn_gives_up _ _ _ _ _ _ _ _ _ c.turns.invariant.whole.underway (let low : c.args.caller < length c.turns.runners = omega (arith, c.requires.within, c.turns.invariant.size) in low) (rw c.turns.invariant.test at c.in-NoMemory.ensures.turns) c.turn.ensures.right

pub turns-init : goal.turns-init
turns-init g c = record { whole = whole_same _ _ _ _ c.requires.underway; size = refl; origin = refl; test = refl }

pub returns-in-Ended-clause-answered : goal.returns-in-Ended-clause-answered
returns-in-Ended-clause-answered g c = λ so. ended_answered _ _ _ _ _ _ _ _ _ c.turns.invariant.whole.grows (let low : c.args.caller < length c.turns.runners = omega (arith, c.requires.within, c.turns.invariant.size) in low) (rw c.turns.invariant.test at c.in-Ended.ensures.turns)

pub returns-in_default-clause-whole : goal.returns-in_default-clause-whole
returns-in_default-clause-whole g c = λ so. c.turns.invariant.whole

pub returns-in_default-clause-answered : goal.returns-in_default-clause-answered
returns-in_default-clause-answered g c = λ so. none_answered _ _ _ _ c.index-runners-caller.result (let low : c.args.caller < length c.turns.runners = omega (arith, c.requires.within, c.turns.invariant.size) in low) (sym c.in_default.ensures)

pub turn-requires : goal.turn-requires
turn-requires g c = rw c.turns.invariant.test (letter_may _ _ _ _ _ c.index-runners-caller.result _ _ c.turns.invariant.whole.underway (let low : c.args.caller < length c.turns.runners = omega (arith, c.requires.within, c.turns.invariant.size) in low) (sym c.in-Some.ensures))
