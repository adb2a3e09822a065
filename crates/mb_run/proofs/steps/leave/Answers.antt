use Rattle.std.proofs.Common.{refl, arith}
use Rattle.mb_kinds.specs.declared.faults.Kind.TheVariants as kind
use Rattle.mb_run.proofs.Inside.{logged_asked, asked_skip, asked_left, asked_room}
use Rattle.mb_run.proofs.Inside.{has_logged}
use Rattle.mb_run.proofs.Places.{of_ticket}
use Rattle.mb_run.proofs.TallySteps.{leaving_left, leaving_skip, leaving_struck}
use Rattle.mb_run.proofs.steps.leave.Goals as goal

pub returns-then-is_struck-clause-did : goal.returns-then-is_struck-clause-did
returns-then-is_struck-clause-did g c = logged_asked _ _ _ _ _ c.requires.may _ c.requires.logged _ _ kind.Leave (λ same. omega (arith, same)) refl c.is_struck.ensures.right c.if-is_struck.ensures.asks

pub advance-requires-clause-done : goal.advance-requires-clause-done
advance-requires-clause-done g c = asked_room _ _ _ _ _ _ _ c.args.ticket.now kind.Leave c.requires.may c.if-is_struck.ensures.asks

pub returns-in-Skip-clause-did : goal.returns-in-Skip-clause-did
returns-in-Skip-clause-did g c = rw c.back.ensures (asked_skip _ _ _ _ _ _ _ _ c.requires.may c.args.ticket.now kind.Leave c.if-is_struck.ensures.asks c.in-Skip.mine c.in-Skip.now c.requires.logged c.in-Skip.ensures.leaves)

pub returns-in-Left-clause-did : goal.returns-in-Left-clause-did
returns-in-Left-clause-did g c = rw c.advance.ensures (asked_left _ _ _ _ _ _ _ _ c.requires.may c.args.ticket.now kind.Leave c.if-is_struck.ensures.asks c.in-Left.field-0 c.requires.logged c.in-Left.ensures.leaves)

pub is_struck-requires-clause-ticket : goal.is_struck-requires-clause-ticket
is_struck-requires-clause-ticket g c = of_ticket _ _ _ (has_logged _ _ _ _ _ c.requires.may c.args.ticket.now c.requires.logged)

pub returns-then-is_struck-clause-tallied : goal.returns-then-is_struck-clause-tallied
returns-then-is_struck-clause-tallied g c = leaving_struck _ _ _ _ _ c.requires.may c.args.ticket.now c.requires.logged _ _ c.if-is_struck.ensures.asks

pub returns-in-Skip-clause-tallied : goal.returns-in-Skip-clause-tallied
returns-in-Skip-clause-tallied g c = leaving_skip _ _ _ _ _ c.requires.may c.args.ticket.now c.requires.logged _ _ c.if-is_struck.ensures.asks _ c.in-Skip.mine c.in-Skip.now _ c.in-Skip.ensures.leaves

pub returns-in-Left-clause-tallied : goal.returns-in-Left-clause-tallied
returns-in-Left-clause-tallied g c = rw c.advance.ensures (leaving_left _ _ _ _ _ c.requires.may c.args.ticket.now c.requires.logged _ _ c.if-is_struck.ensures.asks _ c.in-Left.field-0 c.in-Left.ensures.leaves)
