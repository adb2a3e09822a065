use Rattle.mb_run.proofs.Beginning.{begins_after, begins_firsts, begins_underway, listed, named_below, ordered}
use Rattle.mb_run.proofs.Calm.{first_calm}
use Rattle.mb_run.proofs.Resting.{rested_begin}
use Rattle.mb_run.proofs.drives.run_all.Goals as goal

pub run_in_order-requires-clause-begins : goal.run_in_order-requires-clause-begins
run_in_order-requires-clause-begins g c = rw c.as_slice-calls.ensures (begins_after _ _ _ _ c.requires.runnable c.requires.begun c.requires.runners)

pub run_in_order-requires-clause-callers : goal.run_in_order-requires-clause-callers
run_in_order-requires-clause-callers g c = rw c.as_slice-calls.ensures (named_below _ _ c.requires.runnable c.requires.runners)

pub returns-in-None-clause-driven : goal.returns-in-None-clause-driven
returns-in-None-clause-driven g c = λ so. listed _ _ _ _ _ c.requires.begun c.in-None.is c.requires.runners.size (rw c.as_slice-calls.ensures at c.run_in_order.ensures.done so) (c.run_in_order.ensures.config so) c.run_in_order.ensures.right (λ runs. c.run_in_order.ensures.taken so (rested_begin _ _ _ _ c.requires.begun c.requires.runners runs)) (c.run_in_order.ensures.seals so)

pub run_by_order-requires-clause-underway : goal.run_by_order-requires-clause-underway
run_by_order-requires-clause-underway g c = rw c.as_slice-calls.ensures (begins_underway _ _ _ _ c.requires.runnable c.requires.begun c.requires.runners)

pub run_by_order-requires-clause-named : goal.run_by_order-requires-clause-named
run_by_order-requires-clause-named g c = rw c.as_slice-calls.ensures (named_below _ _ c.requires.runnable c.requires.runners)

pub returns-in-Some-clause-driven : goal.returns-in-Some-clause-driven
returns-in-Some-clause-driven g c = λ so. ordered _ _ _ _ _ _ c.requires.begun c.in-Some.is c.requires.runners.size (rw c.as_slice-calls.ensures at c.run_by_order.ensures.complete so) (c.run_by_order.ensures.config so) c.run_by_order.ensures.right (λ letters. (rw (c.as_slice-callers.ensures, c.as_slice-steps.ensures, c.as_slice-calls.ensures) at c.run_by_order.ensures.firsts so) letters (begins_firsts _ _ _ c.requires.begun)) (λ runs trail. (rw (c.as_slice-callers.ensures, c.as_slice-steps.ensures, c.as_slice-calls.ensures) at c.run_by_order.ensures.enters so) (first_calm _ _ _ _ runs trail c.requires.begun.seats c.requires.runners.each)) (rw c.as_slice-steps.ensures at c.run_by_order.ensures.seals so) (rw c.as_slice-steps.ensures at c.run_by_order.ensures.asks so)
