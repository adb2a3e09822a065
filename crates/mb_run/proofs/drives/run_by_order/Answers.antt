use Rattle.std.proofs.Common.{◌∙◌, add-zero, arith, refl, subst, sym}
use Rattle.mb_run.specs.Drives.{IsComplete}
use Rattle.mb_run.proofs.Completing.{complete}
use Rattle.mb_run.proofs.Letters.{order_rises}
use Rattle.mb_run.proofs.Taking.{takes_then}
use Rattle.mb_run.proofs.Timely.{timely_more, timely_then}
use Rattle.mb_run.specs.Orders.{TakesAsked}
use Rattle.mb_run.proofs.drives.run_by_order.Goals as goal
use Rattle.mb_run.specs.Letters.{letters_of}
use Rattle.mb_run.proofs.Calm.{enters_on}
use Rattle.mb_run.proofs.Calmly.{plain_before}

pub returns-clause-complete : goal.returns-clause-complete
returns-clause-complete g c = λ so.
    let one = c.if-not-run_order.ensures.whole refl in
    let two = rw c.run_order.ensures.test at c.run_out.ensures.whole so in
    subst (λ n. IsComplete c.args.calls.now n (g.H.Hook.test c.args.hook.now) (g.C.EventCore.sight c.run_out.new.core)) (c.run_out.ensures.length ∙ c.run_order.ensures.length)
    (complete _ _ _ _ two.underway (two.balanced (one.balanced c.requires.balanced)) (c.run_out.ensures.out so))

pub returns-clause-config : goal.returns-clause-config
returns-clause-config g c = λ so. (c.run_out.ensures.whole so).config ∙ (c.if-not-run_order.ensures.whole refl).config

pub returns-clause-firsts : goal.returns-clause-firsts
returns-clause-firsts g c = λ so letters fresh.
    let one = c.if-not-run_order.ensures.whole refl in
    let two = rw c.run_order.ensures.test at c.run_out.ensures.whole so in
    order_rises _ _ _ _ _ _ _ _ (c.if-not-run_order.ensures.firsts refl letters fresh) two.firsts one.underway.callers (c.requires.callers ∙ sym c.run_order.ensures.length)
    (complete _ _ _ _ two.underway (two.balanced (one.balanced c.requires.balanced)) (c.run_out.ensures.out so)) c.run_out.ensures.length

pub returns-clause-seals : goal.returns-clause-seals
returns-clause-seals g c = λ so.
    let one = (c.if-not-run_order.ensures.whole refl).seals in
    let two = (c.run_out.ensures.whole so).seals in
    timely_more _ _ _ _ (omega arith) (timely_then _ _ _ _ 0 one two)

pub returns-clause-asks : goal.returns-clause-asks
returns-clause-asks g c = λ so.
    let one = (c.if-not-run_order.ensures.whole refl).takes in
    let two = (c.run_out.ensures.whole so).takes in
    subst (λ n. TakesAsked n (g.C.EventCore.sight c.args.core.now) (g.C.EventCore.sight c.run_out.new.core)) (add-zero _) (takes_then _ _ _ _ 0 one two)

pub returns-clause-enters : goal.returns-clause-enters
returns-clause-enters g c = λ so calm nowhere letters plain.
    let later = (c.run_out.ensures.whole so).later in
    enters_on c.args.calls.now (letters_of c.args.callers.now) c.args.order.now (g.C.EventCore.sight c.run_order.new.core).trail (g.C.EventCore.sight c.run_out.new.core).trail later.trail (c.if-not-run_order.ensures.enters refl calm nowhere letters (plain_before (g.C.EventCore.sight c.run_order.new.core) (g.C.EventCore.sight c.run_out.new.core) later.entries later.history plain))
