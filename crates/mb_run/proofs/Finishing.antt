-- What a call that finishes was performed over, and a call that is given up.
use Rattle.std.proofs.Common.{◌≡◌, List, ◌<◌, Bool, true, false, if◌then◌else◌, is_some, refl, ap, sym, subst, ◌∙◌, arith, Option, None, Some, option_map}
use Rattle.std.proofs.lemmas.Option.{same_Some}
use Rattle.mb_edge.specs.declared.crossings.Crossing.{Crossing}
use Rattle.mb_calls.specs.declared.performing.Performed.TheVariants as performed
use Rattle.mb_calls.specs.declared.performing.ReadyCall.{ReadyCall}
use Rattle.mb_cache.specs.Kept.{KeptBlock, kept_at, shown}
use Rattle.mb_core_spec.specs.Copies.{PagesState}
use Rattle.mb_iface.specs.Needs.{IsNeed}
use Rattle.mb_iface.specs.declared.replies.Need.{Need}
use Rattle.mb_jobs.specs.declared.jobs.JobCall.{JobCall}
use Rattle.mb_kinds.specs.declared.calls.Call.{Call}
use Rattle.mb_kinds.specs.declared.entries.Flight.{Flight}
use Rattle.mb_kinds.specs.declared.faults.Kind.{Kind}
use Rattle.mb_kinds.specs.declared.faults.Ticket.{Ticket}
use Rattle.mb_run.specs.Events.{IsCallOf, IsReadyAt}
use Rattle.mb_run.specs.Pages.{HasTablesFor, PerformsOver, has}
use Rattle.mb_run.specs.Served.{Asks, IsAtBy, IsHeld, IsStanding, MayStep, calls_in, calls_of}
use Rattle.mb_run.specs.Sights.{SeatHasTicket, Sight}
use Rattle.mb_run.specs.declared.runner.At.TheVariants as at
use Rattle.mb_run.specs.declared.runner.Runner.{Runner}
use Rattle.mb_run.proofs.Lists.{neq}

-- ---- pages

-- what is asked for was not gathered
no_copy : (kept : Option KeptBlock) → option_map (λ (k : KeptBlock). k.bytes) kept ≡ None → is_some kept ≡ false
no_copy None none = refl
no_copy (Some k) none = absurd (never none) where
  never : Some k.bytes ≡ None → ⊥
  never same = cc

pub need_lacks : (pages : PagesState) (need : Need) → IsNeed (shown pages.blocks) need → has pages need.first ≡ false
need_lacks pages need is =
    ap (λ b. if b then is_some pages.tables else is_some (kept_at pages.blocks need.first)) (neq need.first 0 (λ same. omega (arith, same, is.above)))
    ∙ no_copy (kept_at pages.blocks need.first) is.lacking

module _ (calls : List JobCall) (test : Option (Crossing → Bool)) (old : Sight) (runner : Runner) (call : Call) (may : MayStep calls test old runner call) (ticket : Ticket) (inside : runner.at ≡ at.Inside ticket) where
  stood : SeatHasTicket false (old.seats runner.crossings.caller) ticket × IsHeld old runner.crossings.caller runner.pages ticket
  stood = subst (IsStanding old runner.crossings.caller runner.pages) inside may.served.stands

  pub held_tables : HasTablesFor old.config.callers runner.pages
  held_tables = stood.1.tables

  pub held_declared : ticket.caller < old.config.callers
  held_declared = subst (λ n. n < old.config.callers) (sym stood.1.mine) may.within

  pub held_mine : ticket.caller ≡ runner.crossings.caller
  held_mine = stood.1.mine

  -- the call in flight is that one
  pub call_at : IsCallOf (old.seats ticket.caller) call
  call_at flight here =
      let is : flight ≡ stood.0.flight = same_Some flight stood.0.flight (sym here ∙ ap (λ n. (old.seats n).flight) stood.1.mine ∙ stood.0.here) in
      let at_it = subst (IsAtBy (calls_of calls runner.crossings.caller) (calls_in old.history runner.crossings.caller) runner.done (old.seats runner.crossings.caller).begun) stood.0.here may.served.calls in
      ap (λ (f : Flight). f.call) is ∙ sym (same_Some call stood.0.flight.call (sym may.next ∙ at_it.2))

  -- what was performed is of the call in flight
  pub ready_at : (ready : ReadyCall) → PerformsOver runner.pages ticket.caller call ticket.moment (performed.Ready ready) → IsReadyAt old ticket runner.pages ready
  ready_at ready performs flight here =
      let is : flight ≡ stood.0.flight = same_Some flight stood.0.flight (sym here ∙ ap (λ n. (old.seats n).flight) stood.1.mine ∙ stood.0.here) in
      let moment_is : ticket.moment ≡ flight.moment = stood.0.moment ∙ ap (λ (f : Flight). f.moment) (sym is) in
      subst (λ m. PerformsOver runner.pages ticket.caller flight.call m (performed.Ready ready)) moment_is
      (subst (λ made. PerformsOver runner.pages ticket.caller made ticket.moment (performed.Ready ready)) (sym (call_at flight here)) performs)

-- the fault injector let the call go on: its pages are as before
pub asked_ready : (test : Option (Crossing → Bool)) (old mid : Sight) (before m : Runner) (ticket : Ticket) (kind : Kind) (call : Call) (ready : ReadyCall) → Asks test old mid before m ticket kind false
    → PerformsOver before.pages ticket.caller call ticket.moment (performed.Ready ready) → PerformsOver m.pages ticket.caller call ticket.moment (performed.Ready ready)
asked_ready test old mid before m ticket kind call ready asks performs =
    subst (λ (r : Runner). PerformsOver r.pages ticket.caller call ticket.moment (performed.Ready ready)) (sym asks.1) performs

pub asked_there : (test : Option (Crossing → Bool)) (old mid : Sight) (before m : Runner) (ticket : Ticket) (kind : Kind) → Asks test old mid before m ticket kind false → has before.pages 0 ≡ true → has m.pages 0 ≡ true
asked_there test old mid before m ticket kind asks there = subst (λ (r : Runner). has r.pages 0 ≡ true) (sym asks.1) there
