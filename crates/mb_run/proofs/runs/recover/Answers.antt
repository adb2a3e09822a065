use Rattle.std.proofs.Common.{refl, ◌∙◌, subst, sym}
use Rattle.mb_run.specs.Served.{IsResting}
use Rattle.mb_run.proofs.Going.{rolling_begin, rolling_on, rolling_ends, rolling_back, rolling_stops}
use Rattle.mb_run.proofs.Lengthening.{since_begins, since_ends, since_goes}
use Rattle.mb_run.proofs.runs.recover.Goals as goal

pub steps-init : goal.steps-init
steps-init g c = record { rolling = rolling_begin _ _ _ _ _ c.requires.may c.requires.outside c.requires.waits c.requires.recovered; tallied = λ tally. tally; since = since_begins _; origin = refl; test = refl }

pub roll-requires-clause-may : goal.roll-requires-clause-may
roll-requires-clause-may g c = rw c.steps.invariant.test c.steps.invariant.rolling.may

pub steps-preserved : goal.steps-preserved
steps-preserved g c = record { rolling = rolling_on _ _ _ _ _ _ _ _ _ c.steps.invariant.rolling (rw c.steps.invariant.test at c.in-On.ensures.rolled) c.roll.ensures.right; tallied = λ tally. (rw c.steps.invariant.test at c.in-On.ensures.tallied) (c.steps.invariant.tallied tally); since = since_goes _ _ _ c.steps.invariant.since c.roll.ensures.right c.in-On.ensures.forward; origin = c.roll.ensures.origin ∙ c.steps.invariant.origin; test = c.roll.ensures.test ∙ c.steps.invariant.test }

pub steps-smaller : goal.steps-smaller
steps-smaller g c = c.in-On.ensures.rolled.goes.4

pub returns-in-Ended-clause-recovers : goal.returns-in-Ended-clause-recovers
returns-in-Ended-clause-recovers g c = rolling_ends _ _ _ _ _ _ _ _ _ c.steps.invariant.rolling (rw c.steps.invariant.test at c.in-Ended.ensures.rolled)

pub returns-in-Back-clause-recovers : goal.returns-in-Back-clause-recovers
returns-in-Back-clause-recovers g c = rolling_back _ _ _ _ _ _ _ _ _ c.steps.invariant.rolling (rw c.steps.invariant.test at c.in-Back.ensures.rolled)

pub returns-in-NoMemory-clause-recovers : goal.returns-in-NoMemory-clause-recovers
returns-in-NoMemory-clause-recovers g c = rolling_stops _ _ _ _ _ _ _ _ _ c.steps.invariant.rolling (rw c.steps.invariant.test at c.in-NoMemory.ensures.rolled)

pub roll-requires-clause-rests : goal.roll-requires-clause-rests
roll-requires-clause-rests g c = subst (IsResting (g.C.EventCore.sight c.steps.core).incarnation) (sym c.steps.invariant.rolling.outside) tt

pub returns-in-Ended-clause-tallied : goal.returns-in-Ended-clause-tallied
returns-in-Ended-clause-tallied g c = λ tally. (rw c.steps.invariant.test at c.in-Ended.ensures.tallied) (c.steps.invariant.tallied tally)

pub returns-in-Back-clause-tallied : goal.returns-in-Back-clause-tallied
returns-in-Back-clause-tallied g c = λ tally. (rw c.steps.invariant.test at c.in-Back.ensures.tallied) (c.steps.invariant.tallied tally)

pub returns-in-NoMemory-clause-tallied : goal.returns-in-NoMemory-clause-tallied
returns-in-NoMemory-clause-tallied g c = λ tally. tt

pub returns-in-Ended-clause-forward : goal.returns-in-Ended-clause-forward
returns-in-Ended-clause-forward g c = since_ends _ _ _ c.steps.invariant.since c.in-Ended.ensures.forward

pub returns-in-Back-clause-forward : goal.returns-in-Back-clause-forward
returns-in-Back-clause-forward g c = since_ends _ _ _ c.steps.invariant.since c.in-Back.ensures.forward

pub returns-in-NoMemory-clause-forward : goal.returns-in-NoMemory-clause-forward
returns-in-NoMemory-clause-forward g c = since_ends _ _ _ c.steps.invariant.since c.in-NoMemory.ensures.forward
