use Rattle.std.proofs.Common.{inl, inr, ap, sym, subst, refl, true, ◌∙◌, arith}
use Rattle.mb_run.specs.Pages.{PagesGrow, PagesGrowBy}
use Rattle.mb_run.specs.declared.runner.Runner.{Runner}
use Rattle.mb_run.proofs.UnderWay.{grows_same}
use Rattle.mb_kinds.specs.declared.faults.Kind.TheVariants as kind
use Rattle.mb_core_state.specs.declared.answers.Gathered.TheVariants as gathered
use Rattle.mb_run.proofs.Inside.{inside_asked, asked_gather, asked_room}
use Rattle.mb_run.proofs.Inside.{has_ticket}
use Rattle.mb_run.proofs.Places.{of_ticket}
use Rattle.mb_run.proofs.TallySteps.{gathering_device, gathering_done, gathering_skip, gathering_struck}
use Rattle.mb_run.proofs.steps.gather.Goals as goal
use Rattle.mb_run.proofs.Calmly.{gathered_device, gathered_done, gathered_skip, struck_calm}

pub returns-then-is_struck-clause-did : goal.returns-then-is_struck-clause-did
returns-then-is_struck-clause-did g c = inside_asked _ _ _ _ _ c.requires.may _ c.requires.inside _ _ kind.Gather (λ same. omega (arith, same)) c.is_struck.ensures.right c.if-is_struck.ensures.asks

pub advance-requires-clause-done : goal.advance-requires-clause-done
advance-requires-clause-done g c = asked_room _ _ _ _ _ _ _ c.args.ticket.now kind.Gather c.requires.may c.if-is_struck.ensures.asks

pub returns-in-Skip-clause-did : goal.returns-in-Skip-clause-did
returns-in-Skip-clause-did g c = rw c.back.ensures (asked_gather _ _ _ _ _ _ _ _ c.args.ticket.now kind.Gather c.args.need c.gather.new.pages (gathered.Skip c.in-Skip.mine c.in-Skip.now) c.requires.may c.requires.inside c.if-is_struck.ensures.asks c.requires.lacks c.requires.first c.in-Skip.ensures.gathers)

pub returns-in-Device-clause-did : goal.returns-in-Device-clause-did
returns-in-Device-clause-did g c = rw c.advance.ensures (asked_gather _ _ _ _ _ _ _ _ c.args.ticket.now kind.Gather c.args.need c.gather.new.pages gathered.Device c.requires.may c.requires.inside c.if-is_struck.ensures.asks c.requires.lacks c.requires.first c.in-Device.ensures.gathers)

pub returns-in-NoMemory-clause-did : goal.returns-in-NoMemory-clause-did
returns-in-NoMemory-clause-did g c = asked_gather _ _ _ _ _ _ _ _ c.args.ticket.now kind.Gather c.args.need c.gather.new.pages gathered.NoMemory c.requires.may c.requires.inside c.if-is_struck.ensures.asks c.requires.lacks c.requires.first c.in-NoMemory.ensures.gathers

pub returns-in-Done-clause-did : goal.returns-in-Done-clause-did
returns-in-Done-clause-did g c = asked_gather _ _ _ _ _ _ _ _ c.args.ticket.now kind.Gather c.args.need c.gather.new.pages gathered.Done c.requires.may c.requires.inside c.if-is_struck.ensures.asks c.requires.lacks c.requires.first c.in-Done.ensures.gathers

pub is_struck-requires-clause-ticket : goal.is_struck-requires-clause-ticket
is_struck-requires-clause-ticket g c = of_ticket _ _ _ (has_ticket _ _ _ _ _ c.requires.may c.args.ticket.now c.requires.inside)

pub returns-then-is_struck-clause-tallied : goal.returns-then-is_struck-clause-tallied
returns-then-is_struck-clause-tallied g c = gathering_struck _ _ _ _ _ c.requires.may c.args.ticket.now c.requires.inside _ _ c.if-is_struck.ensures.asks

pub returns-in-Skip-clause-tallied : goal.returns-in-Skip-clause-tallied
returns-in-Skip-clause-tallied g c = gathering_skip _ _ _ _ _ c.requires.may c.args.ticket.now c.requires.inside _ _ c.if-is_struck.ensures.asks _ c.args.need c.gather.new.pages c.in-Skip.mine c.in-Skip.now _ c.in-Skip.ensures.gathers

pub returns-in-Device-clause-tallied : goal.returns-in-Device-clause-tallied
returns-in-Device-clause-tallied g c = rw c.advance.ensures (gathering_device _ _ _ _ _ c.requires.may c.args.ticket.now c.requires.inside _ _ c.if-is_struck.ensures.asks _ c.args.need c.gather.new.pages c.in-Device.ensures.gathers)

pub returns-in-NoMemory-clause-tallied : goal.returns-in-NoMemory-clause-tallied
returns-in-NoMemory-clause-tallied g c = λ tally. tt

pub returns-in-Done-clause-tallied : goal.returns-in-Done-clause-tallied
returns-in-Done-clause-tallied g c = gathering_done _ _ _ _ _ c.requires.may c.args.ticket.now c.requires.inside _ _ c.if-is_struck.ensures.asks _ c.args.need c.gather.new.pages c.in-Done.ensures.gathers

pub returns-then-is_struck-clause-grown : goal.returns-then-is_struck-clause-grown
returns-then-is_struck-clause-grown g c = inl (ap (λ (r : Runner). r.pages) c.if-is_struck.ensures.asks.0)

pub returns-in-Skip-clause-grown : goal.returns-in-Skip-clause-grown
returns-in-Skip-clause-grown g c = inl (ap (λ (r : Runner). r.pages) c.back.ensures)

pub returns-in-Device-clause-grown : goal.returns-in-Device-clause-grown
returns-in-Device-clause-grown g c = inl (ap (λ (r : Runner). r.pages) c.advance.ensures)

pub returns-in-NoMemory-clause-grown : goal.returns-in-NoMemory-clause-grown
returns-in-NoMemory-clause-grown g c = inr (λ lacks. subst (λ p. PagesGrow c.args.runner.now.pages p) (sym (c.in-NoMemory.ensures.gathers.1 ∙ ap (λ (r : Runner). r.pages) c.if-is_struck.ensures.asks.1)) (grows_same c.args.runner.now.pages))

pub returns-in-Done-clause-grown : goal.returns-in-Done-clause-grown
returns-in-Done-clause-grown g c = subst (λ p. PagesGrowBy c.args.need p c.gather.new.pages) (ap (λ (r : Runner). r.pages) c.if-is_struck.ensures.asks.1) (inr c.in-Done.ensures.gathers.1.grows)

pub returns-then-is_struck-clause-calm : goal.returns-then-is_struck-clause-calm
returns-then-is_struck-clause-calm g c = λ goes. struck_calm true (g.H.Hook.test c.args.hook.now) (g.C.EventCore.sight c.args.core.now) (g.C.EventCore.sight c.is_struck.new.core) _ c.args.runner.now c.is_struck.new.runner _ c.args.ticket.now kind.Gather c.if-is_struck.ensures.asks

pub returns-in-Skip-clause-calm : goal.returns-in-Skip-clause-calm
returns-in-Skip-clause-calm g c = λ goes. gathered_skip c.args.calls.now (g.H.Hook.test c.args.hook.now) (g.C.EventCore.sight c.args.core.now) (g.C.EventCore.sight c.is_struck.new.core) (g.C.EventCore.sight c.gather.new.self) c.args.runner.now c.is_struck.new.runner _ c.args.call.now c.args.ticket.now c.requires.may c.requires.inside c.if-is_struck.ensures.asks c.args.need c.gather.new.pages c.in-Skip.mine c.in-Skip.now c.in-Skip.ensures.gathers

pub returns-in-Device-clause-calm : goal.returns-in-Device-clause-calm
returns-in-Device-clause-calm g c = λ goes. gathered_device c.args.calls.now (g.H.Hook.test c.args.hook.now) (g.C.EventCore.sight c.args.core.now) (g.C.EventCore.sight c.is_struck.new.core) (g.C.EventCore.sight c.gather.new.self) c.args.runner.now c.is_struck.new.runner _ c.args.call.now c.args.ticket.now c.requires.may c.requires.inside c.if-is_struck.ensures.asks c.args.need c.gather.new.pages c.in-Device.ensures.gathers

pub returns-in-Done-clause-calm : goal.returns-in-Done-clause-calm
returns-in-Done-clause-calm g c = λ goes. gathered_done c.args.calls.now (g.H.Hook.test c.args.hook.now) (g.C.EventCore.sight c.args.core.now) (g.C.EventCore.sight c.is_struck.new.core) (g.C.EventCore.sight c.gather.new.self) c.args.runner.now c.is_struck.new.runner _ c.args.call.now c.args.ticket.now c.requires.may c.requires.inside c.if-is_struck.ensures.asks c.args.need c.gather.new.pages refl c.in-Done.ensures.gathers

pub returns-in-NoMemory-clause-calm : goal.returns-in-NoMemory-clause-calm
returns-in-NoMemory-clause-calm g c = λ goes. absurd (goes refl)
