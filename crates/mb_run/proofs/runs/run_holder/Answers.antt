use Rattle.std.proofs.Common.{refl, ◌∙◌}
use Rattle.mb_run.proofs.Going.{turning_begin, turning_on, turning_less, turning_ends, waits_may, waits_waiting, shut_ends, shut_goes, shut_less, mine_then, mine_twice}
use Rattle.mb_run.proofs.GivingUp.{may_give_up}
use Rattle.mb_run.proofs.runs.run_holder.Goals as goal

pub turns-init : goal.turns-init
turns-init g c = record { going = tt; turning = turning_begin _ _ _ _ _ c.requires.may; mine = c.requires.mine; tallied = λ tally. tally; origin = refl; test = refl }

pub step-requires-clause-may : goal.step-requires-clause-may
step-requires-clause-may g c = rw c.turns.invariant.test c.turns.invariant.turning.may

pub step-requires-clause-going : goal.step-requires-clause-going
step-requires-clause-going g c = c.turns.invariant.going

pub returns-in-Ended-clause-ran : goal.returns-in-Ended-clause-ran
returns-in-Ended-clause-ran g c = turning_ends _ _ _ _ _ _ _ _ _ c.turns.invariant.turning (rw c.turns.invariant.test at c.in-Ended.ensures.did.nears) c.in-Ended.ensures.did.goes.0 c.in-Ended.ensures.did.goes.1

pub turns-preserved-in-On : goal.turns-preserved-in-On
turns-preserved-in-On g c = record { going = c.step.ensures.going; turning = turning_on _ _ _ _ _ _ _ _ _ c.turns.invariant.turning (rw c.turns.invariant.test at c.in-On.ensures.did.nears) c.in-On.ensures.did.goes.0 c.step.ensures.right; mine = mine_then _ _ _ _ _ _ _ _ _ _ c.turns.invariant.turning c.in-On.ensures.did.nears c.turns.invariant.mine; tallied = λ tally. (rw c.turns.invariant.test at c.in-On.ensures.tallied) (c.turns.invariant.tallied tally); origin = c.step.ensures.origin ∙ c.turns.invariant.origin; test = c.step.ensures.test ∙ c.turns.invariant.test }

pub turns-smaller-in-On : goal.turns-smaller-in-On
turns-smaller-in-On g c = turning_less _ _ _ _ _ _ c.in-On.ensures.did.nears c.in-On.ensures.did.goes.1

pub turns-preserved-in-Back : goal.turns-preserved-in-Back
turns-preserved-in-Back g c = record { going = c.step.ensures.going; turning = turning_on _ _ _ _ _ _ _ _ _ c.turns.invariant.turning (rw c.turns.invariant.test at c.in-Back.ensures.did.nears) c.in-Back.ensures.did.goes.0 c.step.ensures.right; mine = mine_then _ _ _ _ _ _ _ _ _ _ c.turns.invariant.turning c.in-Back.ensures.did.nears c.turns.invariant.mine; tallied = λ tally. (rw c.turns.invariant.test at c.in-Back.ensures.tallied) (c.turns.invariant.tallied tally); origin = c.step.ensures.origin ∙ c.turns.invariant.origin; test = c.step.ensures.test ∙ c.turns.invariant.test }

pub turns-smaller-in-Back : goal.turns-smaller-in-Back
turns-smaller-in-Back g c = turning_less _ _ _ _ _ _ c.in-Back.ensures.did.nears c.in-Back.ensures.did.goes.1

pub recover-requires-clause-may : goal.recover-requires-clause-may
recover-requires-clause-may g c = rw (c.step.ensures.test ∙ c.turns.invariant.test) (waits_may _ _ _ _ _ _ _ _ _ c.turns.invariant.turning (rw c.turns.invariant.test at c.in-Shut.ensures.did) c.step.ensures.right)

pub recover-requires-clause-waits : goal.recover-requires-clause-waits
recover-requires-clause-waits g c = waits_waiting _ _ _ _ _ _ c.in-Shut.ensures.did

pub returns-in-Ended-recover-clause-ran : goal.returns-in-Ended-recover-clause-ran
returns-in-Ended-recover-clause-ran g c = shut_ends _ _ _ _ _ _ _ _ _ _ _ c.turns.invariant.turning (rw c.turns.invariant.test at c.in-Shut.ensures.did) (rw (c.step.ensures.test ∙ c.turns.invariant.test) at c.in-Ended-recover.ensures.recovers)

pub turns-preserved : goal.turns-preserved
turns-preserved g c = record {
  going = tt;
  turning = shut_goes _ _ _ _ _ _ _ _ _ _ _ c.turns.invariant.turning (rw c.turns.invariant.test at c.in-Shut.ensures.did) (rw (c.step.ensures.test ∙ c.turns.invariant.test) at c.in-Back-recover.ensures.recovers) c.recover.ensures.right;
  mine = mine_twice _ _ (g.H.Hook.test c.turns.hook) _ _ _ _ _ _ _ _ _ c.turns.invariant.turning c.in-Shut.ensures.did.nears (rw c.step.ensures.test at c.in-Back-recover.ensures.recovers).nears c.turns.invariant.mine;
  tallied = λ tally. (rw (c.step.ensures.test ∙ c.turns.invariant.test) at c.in-Back-recover.ensures.tallied) ((rw c.turns.invariant.test at c.in-Shut.ensures.tallied) (c.turns.invariant.tallied tally));
  origin = c.recover.ensures.origin ∙ c.step.ensures.origin ∙ c.turns.invariant.origin;
  test = c.recover.ensures.test ∙ c.step.ensures.test ∙ c.turns.invariant.test;
}

pub turns-smaller : goal.turns-smaller
turns-smaller g c = shut_less _ _ _ _ _ _ _ _ c.in-Shut.ensures.did (rw c.step.ensures.test at c.in-Back-recover.ensures.recovers)

pub give_up-requires : goal.give_up-requires
give_up-requires g c = may_give_up _ _ _ _ _ _ _ _ c.turns.invariant.turning.may c.in-NoMemory.ensures.did.nears c.in-NoMemory.ensures.did.goes.1 c.step.ensures.right

pub give_up-requires-in-NoMemory-recover : goal.give_up-requires-in-NoMemory-recover
give_up-requires-in-NoMemory-recover g c = may_give_up _ _ _ _ _ _ _ _ (waits_may _ _ _ _ _ _ _ _ _ c.turns.invariant.turning (rw c.turns.invariant.test at c.in-Shut.ensures.did) c.step.ensures.right) c.in-NoMemory-recover.ensures.recovers.nears c.in-NoMemory-recover.ensures.recovers.goes.1 c.recover.ensures.right

pub returns-in-Ended-clause-tallied : goal.returns-in-Ended-clause-tallied
returns-in-Ended-clause-tallied g c = λ so tally. (rw c.turns.invariant.test at c.in-Ended.ensures.tallied) (c.turns.invariant.tallied tally)

pub returns-in-Ended-recover-clause-tallied : goal.returns-in-Ended-recover-clause-tallied
returns-in-Ended-recover-clause-tallied g c = λ so tally. (rw (c.step.ensures.test ∙ c.turns.invariant.test) at c.in-Ended-recover.ensures.tallied) ((rw c.turns.invariant.test at c.in-Shut.ensures.tallied) (c.turns.invariant.tallied tally))
