use Rattle.std.proofs.Common.{◌≡◌, true, false, refl, ap, inl, inr, subst, sym}
use Rattle.mb_run.specs.Pages.{PagesGrow}
use Rattle.mb_run.proofs.UnderWay.{grows_same}
use Rattle.mb_volume.specs.declared.attempt.Attempt.{Attempt}
use Rattle.mb_core_state.specs.declared.answers.Gathered.TheVariants as gathered
use Rattle.mb_volume.proofs.Inside.{comes_back, comes_device, comes_gain, has_ticket, lacks_inside, moves_gathers, own_ticket}
use Rattle.mb_volume.proofs.Entered.{comes_nothing}
use Rattle.mb_volume.proofs.Rising.{gathers_still}
use Rattle.mb_volume.proofs.Marking.{passed_back, passed_gained}
use Rattle.mb_volume.proofs.events.gather.Goals as goal

pub gather-requires-clause-ticket : goal.gather-requires-clause-ticket
gather-requires-clause-ticket g c = has_ticket _ _ _ (g.C.EventCore.sight c.args.core.now) _ c.requires.on.2 _ c.requires.inside

pub returns-in-Skip-clause-comes : goal.returns-in-Skip-clause-comes
returns-in-Skip-clause-comes g c = record {
  comes = λ test. record {
    goes = λ from u. rw c.back.ensures (comes_back _ _ _ _ _ u _ c.in-Skip.ensures.gathers.1);
    marks = rw c.back.ensures (record { passes = λ asked passed. passed_back _ _ c.args.attempt.now c.in-Skip.ensures.gathers.1 (lacks_inside _ _ _ (g.C.EventCore.sight c.args.core.now) _ c.requires.on.2 _ c.requires.inside); crosses = refl });
    same = ap (λ (a : Attempt). a.crossings.caller) c.back.ensures;
    moves = moves_gathers _ _ c.args.ticket.now _ (own_ticket _ _ _ (g.C.EventCore.sight c.args.core.now) _ c.requires.on.2 _ c.requires.inside) c.args.need c.args.attempt.now.pages c.gather.new.pages (gathered.Skip c.in-Skip.mine c.in-Skip.now) c.requires.right (has_ticket _ _ _ (g.C.EventCore.sight c.args.core.now) _ c.requires.on.2 _ c.requires.inside) c.in-Skip.ensures.gathers;
  };
  still = gathers_still _ _ c.args.ticket.now c.args.need c.args.attempt.now.pages c.gather.new.pages (gathered.Skip c.in-Skip.mine c.in-Skip.now) (has_ticket _ _ _ (g.C.EventCore.sight c.args.core.now) _ c.requires.on.2 _ c.requires.inside) c.in-Skip.ensures.gathers;
}

pub returns-in-Device-clause-comes : goal.returns-in-Device-clause-comes
returns-in-Device-clause-comes g c = record {
  comes = λ test. record {
    goes = λ from u. comes_device _ _ _ _ _ u _ c.requires.inside _ c.args.need c.args.attempt.now.pages c.gather.new.pages c.args.attempt.now c.in-Device.ensures.gathers;
    marks = rw c.back-in-Device.ensures (record { passes = λ asked passed plain. absurd (let both : false ≡ true = plain in cc); crosses = refl });
    same = ap (λ (a : Attempt). a.crossings.caller) c.back-in-Device.ensures;
    moves = moves_gathers _ _ c.args.ticket.now _ (own_ticket _ _ _ (g.C.EventCore.sight c.args.core.now) _ c.requires.on.2 _ c.requires.inside) c.args.need c.args.attempt.now.pages c.gather.new.pages gathered.Device c.requires.right (has_ticket _ _ _ (g.C.EventCore.sight c.args.core.now) _ c.requires.on.2 _ c.requires.inside) c.in-Device.ensures.gathers;
  };
  still = gathers_still _ _ c.args.ticket.now c.args.need c.args.attempt.now.pages c.gather.new.pages gathered.Device (has_ticket _ _ _ (g.C.EventCore.sight c.args.core.now) _ c.requires.on.2 _ c.requires.inside) c.in-Device.ensures.gathers;
}

pub returns-in-NoMemory-clause-comes : goal.returns-in-NoMemory-clause-comes
returns-in-NoMemory-clause-comes g c = record {
  comes = λ test. record {
    goes = λ from u. rw c.in-NoMemory.ensures.gathers.1 (comes_nothing _ _ _ _ _ u _ c.in-NoMemory.ensures.gathers.0 (lacks_inside _ _ _ (g.C.EventCore.sight c.args.core.now) _ u _ c.requires.inside));
    marks = record { passes = λ asked passed. tt; crosses = refl };
    same = refl;
    moves = moves_gathers _ _ c.args.ticket.now _ (own_ticket _ _ _ (g.C.EventCore.sight c.args.core.now) _ c.requires.on.2 _ c.requires.inside) c.args.need c.args.attempt.now.pages c.gather.new.pages gathered.NoMemory c.requires.right (has_ticket _ _ _ (g.C.EventCore.sight c.args.core.now) _ c.requires.on.2 _ c.requires.inside) c.in-NoMemory.ensures.gathers;
  };
  still = gathers_still _ _ c.args.ticket.now c.args.need c.args.attempt.now.pages c.gather.new.pages gathered.NoMemory (has_ticket _ _ _ (g.C.EventCore.sight c.args.core.now) _ c.requires.on.2 _ c.requires.inside) c.in-NoMemory.ensures.gathers;
}

pub returns-in-Done-clause-comes : goal.returns-in-Done-clause-comes
returns-in-Done-clause-comes g c = record {
  comes = λ test. record {
    goes = λ from u. comes_gain _ _ _ _ _ u _ c.requires.inside _ c.args.need _ c.in-Done.ensures.gathers;
    marks = record { passes = λ asked passed. passed_gained (g.C.EventCore.sight c.args.core.now) (g.C.EventCore.sight c.gather.new.self) c.args.attempt.now _ c.requires.inside passed _ asked; crosses = refl };
    same = refl;
    moves = moves_gathers _ _ c.args.ticket.now _ (own_ticket _ _ _ (g.C.EventCore.sight c.args.core.now) _ c.requires.on.2 _ c.requires.inside) c.args.need c.args.attempt.now.pages c.gather.new.pages gathered.Done c.requires.right (has_ticket _ _ _ (g.C.EventCore.sight c.args.core.now) _ c.requires.on.2 _ c.requires.inside) c.in-Done.ensures.gathers;
  };
  still = gathers_still _ _ c.args.ticket.now c.args.need c.args.attempt.now.pages c.gather.new.pages gathered.Done (has_ticket _ _ _ (g.C.EventCore.sight c.args.core.now) _ c.requires.on.2 _ c.requires.inside) c.in-Done.ensures.gathers;
}

pub returns-in-Skip-clause-grown : goal.returns-in-Skip-clause-grown
returns-in-Skip-clause-grown g c = inl (ap (λ (a : Attempt). a.pages) c.back.ensures)

pub returns-in-Device-clause-grown : goal.returns-in-Device-clause-grown
returns-in-Device-clause-grown g c = inl (ap (λ (a : Attempt). a.pages) c.back-in-Device.ensures)

pub returns-in-NoMemory-clause-grown : goal.returns-in-NoMemory-clause-grown
returns-in-NoMemory-clause-grown g c = inr (λ lacks. subst (λ p. PagesGrow c.args.attempt.now.pages p) (sym c.in-NoMemory.ensures.gathers.1) (grows_same c.args.attempt.now.pages))

pub returns-in-Done-clause-grown : goal.returns-in-Done-clause-grown
returns-in-Done-clause-grown g c = inr c.in-Done.ensures.gathers.1.grows
