-- One hold of the turn: what the pass's caller knows before it, under it and after it.
use Rattle.std.proofs.Common.{◌≡◌, ◌≢◌, List, [], ℕ, ◌<◌, ◌≤◌, Bool, true, false, refl, ap, sym, subst, ◌∙◌, arith, Option}
use Rattle.std.proofs.lemmas.List.{append-nil}
use mathlib.Core.List.{IsPrefix}
use Rattle.atomic_table.specs.Seated.{TableId}
use Rattle.mb_core_spec.specs.State.{CoreState}
use Rattle.mb_edge.specs.declared.crossings.Crossing.{Crossing}
use Rattle.mb_kinds.specs.Own.{own}
use Rattle.mb_kinds.specs.declared.calls.Call.{Call}
use Rattle.mb_kinds.specs.declared.entries.Entry.{Entry}
use Rattle.mb_run.specs.CoreSight.{sight_of}
use Rattle.mb_kinds.specs.declared.faults.Kind.{Kind}
use Rattle.mb_kinds.specs.declared.faults.Ticket.{Ticket}
use Rattle.mb_run.specs.declared.runner.At.{At}
use Rattle.mb_run.specs.declared.runner.At.TheVariants as at
use Rattle.mb_run.specs.Served.{counted}
use Rattle.mb_run.specs.Sights.{Limits, Sight, limits_of, amiss_in}
use Rattle.mb_turn.proofs.Lists.{prefix_trans}
use Rattle.mb_turn.specs.Passes.{ContinuesBy, IsIdle, Known, known}
use Rattle.mb_volume_core.proofs.Origins.{origin_of}
use Rattle.mb_volume_core.specs.declared.volume_core.Origin.{Origin}
use Rattle.mb_volume.specs.Parts.{MovesPart, Part, part_of, stand_in}
use Rattle.mb_volume.specs.Passed.{MarksPoints}
use Rattle.mb_volume.specs.Passing.{IsLater, IsMaking, part_in, seen_by}
use Rattle.mb_volume.specs.Underway.{Brings, Goes, PlaceHoldsTicket, IsTold, IsCallUnderway, LeadsCallOn}
use Rattle.mb_volume.specs.declared.attempt.Attempt.{Attempt}
use Rattle.mb_volume.specs.declared.events.Came.{Came}
use Rattle.mb_volume.specs.declared.events.Came.TheVariants as came
use Rattle.mb_volume.specs.declared.events.Event.{Event}
use Rattle.mb_volume.specs.Shared.{Shared}
use Rattle.mb_volume.proofs.Changing.{others_stand, part_follows}
use Rattle.mb_volume.proofs.Faulted.{underway_counted}
use Rattle.mb_volume.proofs.Telling.{brings}

-- the call under way is a declared caller's
pub declared_on : (saw : Sight) (caller : ℕ) (call : Call) (test : Option (Crossing → Bool)) (from : Part) (attempt : Attempt) → attempt.crossings.caller ≡ caller → IsCallUnderway call test from (part_of saw caller) attempt → caller < saw.config.callers
declared_on saw caller call test from attempt same u = subst (λ n. n < saw.config.callers) same (subst (λ (l : Limits). attempt.crossings.caller < l.callers) (sym u.config) u.within)

pub config_same : {F D : Type 0} (one other : CoreState F D) → origin_of one ≡ origin_of other → (sight_of one).config ≡ (sight_of other).config
config_same {F} {D} one other same = ap (λ (o : Origin D). limits_of o.config) same

pub goes_on : (caller : ℕ) (first then last : List Entry) → IsPrefix first then → ContinuesBy caller then last → IsPrefix first last
goes_on caller first then last saw more = prefix_trans first then last saw (more.new, sym more.whole)

-- the part that was seen is the part of the core that was taken
pub part_now : (saw now : Sight) (caller mine : ℕ) → mine ≡ caller → caller < saw.config.callers → now.config ≡ saw.config → own now.history caller ≡ own saw.history caller → stand_in now caller ≡ stand_in saw caller
    → part_of now mine ≡ part_of saw caller
part_now saw now caller mine same low config entries stand = ap (part_of now) same ∙ part_follows saw now caller low config entries stand

-- what an event makes of it is what the hold leads to
pub leads_on : (call : Call) (test : Option (Crossing → Bool)) (saw now new : Part) (before after : Attempt) (answer : Came) → now ≡ saw → IsTold new → Goes call test now new before after answer → LeadsCallOn call test saw new before after answer
leads_on call test saw now new before after answer same told goes = λ from u.
    brings call test before.crossings.caller from new after answer told (goes from (subst (λ (p : Part). IsCallUnderway call test from p before) (sym same) u))

-- and so are the fault points that it passed
pub held_marks : (event : Event) (saw now new : Sight) (caller mine : ℕ) (before after : Attempt) (answer : Came) → mine ≡ caller → part_of now mine ≡ part_of saw caller → MarksPoints event (now.seats mine) (new.seats mine) before after answer
    → MarksPoints event (saw.seats caller) (new.seats caller) before after answer
held_marks event saw now new caller mine before after answer same part marks =
    subst (λ (p : Part). MarksPoints event p.seat (new.seats caller) before after answer) part (subst (λ n. MarksPoints event (now.seats mine) (new.seats n) before after answer) same marks)

-- ---- one step after another

pub leads_then : (call : Call) (test : Option (Crossing → Bool)) (first then last : Part) (before between after : Attempt) (answer : Came) → between.crossings.caller ≡ before.crossings.caller → LeadsCallOn call test first then before between came.On
    → LeadsCallOn call test then last between after answer → LeadsCallOn call test first last before after answer
leads_then call test first then last before between after answer same one other = λ from u. subst (λ n. Brings call test n from last after answer) same (other from (one from u))

pub leads_counted : (call : Call) (test : Option (Crossing → Bool)) (now : Part) (before after : Attempt) (kind : Kind) → after ≡ record before { crossings = counted before.crossings kind } → LeadsCallOn call test now now before after came.On
leads_counted call test now before after kind same = λ from u. subst (λ (a : Attempt). IsCallUnderway call test from now a) (sym same) (underway_counted call test from now before u kind)

inside_leads : (call : Call) (test : Option (Crossing → Bool)) (first then : Part) (before after : Attempt) (answer : Came) (ticket : Ticket) → answer ≡ came.Inside ticket → LeadsCallOn call test first then before after answer
    → LeadsCallOn call test first then before after (came.Inside ticket)
inside_leads call test first then before after answer ticket is leads = subst (λ (a : Came). LeadsCallOn call test first then before after a) is leads

pub making_inside : {F D : Type 0} (call : Call) (test : Option (Crossing → Bool)) (old new : Known (Shared F D)) (before after : Attempt) (answer : Came) (ticket : Ticket) → new.caller ≡ old.caller → after.crossings.caller ≡ before.crossings.caller
    → (making : IsMaking call test old before false) → answer ≡ came.Inside ticket → LeadsCallOn call test (part_in old) (part_in new) before after answer → IsMaking call test new after false
making_inside call test old new before after answer ticket caller same making is leads = record {
  caller = same ∙ making.caller ∙ sym caller;
  from = making.from;
  underway = (inside_leads call test (part_in old) (part_in new) before after answer ticket is leads making.from making.underway).0;
  waits = λ wrong. absurd (let both : false ≡ true = wrong in cc);
}

pub holds_inside : {F D : Type 0} (call : Call) (test : Option (Crossing → Bool)) (old new : Known (Shared F D)) (before after : Attempt) (answer : Came) (ticket : Ticket) → (making : IsMaking call test old before false) → answer ≡ came.Inside ticket
    → LeadsCallOn call test (part_in old) (part_in new) before after answer → PlaceHoldsTicket after.at ticket
holds_inside call test old new before after answer ticket making is leads =
    subst (λ (a : At). PlaceHoldsTicket a ticket) (sym (inside_leads call test (part_in old) (part_in new) before after answer ticket is leads making.from making.underway).1) refl

pub at_inside : {F D : Type 0} (call : Call) (test : Option (Crossing → Bool)) (old new : Known (Shared F D)) (before after : Attempt) (answer : Came) (ticket : Ticket) → (making : IsMaking call test old before false) → answer ≡ came.Inside ticket
    → LeadsCallOn call test (part_in old) (part_in new) before after answer → after.at ≡ at.Inside ticket
at_inside call test old new before after answer ticket making is leads = (inside_leads call test (part_in old) (part_in new) before after answer ticket is leads making.from making.underway).1

inside_on : (call : Call) (test : Option (Crossing → Bool)) (first then : Part) (before after : Attempt) (answer : Came) (ticket : Ticket) → answer ≡ came.Inside ticket → LeadsCallOn call test first then before after answer → LeadsCallOn call test first then before after came.On
inside_on call test first then before after answer ticket is leads = λ from u. (inside_leads call test first then before after answer ticket is leads from u).0

-- the call went in, and was asked there
pub inside_then : {F D : Type 0} (call : Call) (test : Option (Crossing → Bool)) (old mid new : Known (Shared F D)) (before between after : Attempt) (answer last : Came) (ticket : Ticket) → between.crossings.caller ≡ before.crossings.caller
    → answer ≡ came.Inside ticket → LeadsCallOn call test (part_in old) (part_in mid) before between answer → LeadsCallOn call test (part_in mid) (part_in new) between after last → LeadsCallOn call test (part_in old) (part_in new) before after last
inside_then call test old mid new before between after answer last ticket same is one other =
    leads_then call test (part_in old) (part_in mid) (part_in new) before between after last same (inside_on call test (part_in old) (part_in mid) before between answer ticket is one) other

pub counted_on : {F D : Type 0} (call : Call) (test : Option (Crossing → Bool)) (old mid : Known (Shared F D)) (before between : Attempt) (kind : Kind) → mid ≡ old → between ≡ record before { crossings = counted before.crossings kind }
    → LeadsCallOn call test (part_in old) (part_in mid) before between came.On
counted_on {F} {D} call test old mid before between kind pass same = subst (λ (p : Known (Shared F D)). LeadsCallOn call test (part_in old) (part_in p) before between came.On) (sym pass) (leads_counted call test (part_in old) before between kind same)

-- the hook let the call go on
pub making_counted : {F D : Type 0} (call : Call) (test : Option (Crossing → Bool)) (old new : Known (Shared F D)) (before after : Attempt) (kind : Kind) → new ≡ old → after ≡ record before { crossings = counted before.crossings kind }
    → IsMaking call test old before false → IsMaking call test new after false
making_counted {F} {D} call test old new before after kind pass same making =
    subst (λ (p : Known (Shared F D)). IsMaking call test p after false) (sym pass) (subst (λ (a : Attempt). IsMaking call test old a false) (sym same) (record {
      caller = making.caller;
      from = making.from;
      underway = underway_counted call test making.from (part_in old) before making.underway kind;
      waits = making.waits;
    }))

pub counted_leads : {F D : Type 0} (call : Call) (test : Option (Crossing → Bool)) (old mid new : Known (Shared F D)) (before between after : Attempt) (kind : Kind) (answer : Came) → mid ≡ old → between ≡ record before { crossings = counted before.crossings kind }
    → LeadsCallOn call test (part_in mid) (part_in new) between after answer → LeadsCallOn call test (part_in old) (part_in new) before after answer
counted_leads {F} {D} call test old mid new before between after kind answer pass same leads =
    leads_then call test (part_in old) (part_in old) (part_in new) before between after answer (ap (λ (a : Attempt). a.crossings.caller) same) (leads_counted call test (part_in old) before between kind same)
    (subst (λ (p : Known (Shared F D)). LeadsCallOn call test (part_in p) (part_in new) between after answer) pass leads)

pub later_same : {F D : Type 0} (table : TableId) (pass : Known (Shared F D)) → IsIdle table pass → IsLater table pass pass
later_same table pass idle = record { idle = idle; caller = refl; first = refl; config = refl; seen = ([], append-nil (seen_by pass).history); seals = omega arith }

pub later_then : {F D : Type 0} (table : TableId) (first then last : Known (Shared F D)) → IsLater table first then → IsLater table then last → IsLater table first last
later_then table first then last one other = record {
  idle = other.idle;
  caller = other.caller ∙ one.caller;
  first = other.first ∙ one.first;
  config = other.config ∙ one.config;
  seen = prefix_trans (seen_by first).history (seen_by then).history (seen_by last).history one.seen other.seen;
  seals = omega (arith, one.seals, other.seals);
}

-- nothing more was seen at one of two moments
pub later_past : {F D : Type 0} (table : TableId) (first then last : Known (Shared F D)) → last ≡ then → IsLater table first then → IsLater table first last
later_past {F} {D} table first then last same later = subst (λ (p : Known (Shared F D)). IsLater table first p) (sym same) later

pub later_from : {F D : Type 0} (table : TableId) (first then last : Known (Shared F D)) → then ≡ first → IsLater table then last → IsLater table first last
later_from {F} {D} table first then last same later = subst (λ (p : Known (Shared F D)). IsLater table p last) same later

-- ---- the answers of a hold

module _ {F D : Type 0} (saw now new : CoreState F D) (caller mine : ℕ) (same : mine ≡ caller) (low : caller < (sight_of saw).config.callers) (began : origin_of now ≡ origin_of saw)
    (entries : own (sight_of now).history caller ≡ own (sight_of saw).history caller) (stand : stand_in (sight_of now) caller ≡ stand_in (sight_of saw) caller) where
  pub taken_part : part_of (sight_of now) mine ≡ part_of (sight_of saw) caller
  taken_part = part_now (sight_of saw) (sight_of now) caller mine same low (config_same now saw began) entries stand

  pub held_leads : (call : Call) (test : Option (Crossing → Bool)) (before after : Attempt) (answer : Came) → IsTold (part_of (sight_of new) caller) → Goes call test (part_of (sight_of now) mine) (part_of (sight_of new) mine) before after answer
      → LeadsCallOn call test (part_of (sight_of saw) caller) (part_of (sight_of new) caller) before after answer
  held_leads call test before after answer told goes =
      leads_on call test (part_of (sight_of saw) caller) (part_of (sight_of now) mine) (part_of (sight_of new) caller) before after answer taken_part told
      (subst (λ n. Goes call test (part_of (sight_of now) mine) (part_of (sight_of new) n) before after answer) same goes)

pub others_held : (now new : Sight) (mine caller : ℕ) → mine ≡ caller → MovesPart mine now new → (other : ℕ) → other ≢ caller → stand_in new other ≡ stand_in now other
others_held now new mine caller same moves other apart = others_stand now new mine moves other (λ is. apart (is ∙ same))

pub later_held : {F D : Type 0} (table : TableId) (old : Known (Shared F D)) (now new : Shared F D) → IsIdle table old → origin_of now.core.core ≡ origin_of old.value.core.core → origin_of new.core.core ≡ origin_of now.core.core
    → IsPrefix (seen_by old).history (sight_of now.core.core).history → (mine : ℕ) → ContinuesBy mine (sight_of now.core.core).history (sight_of new.core.core).history
    → amiss_in (sight_of now.core.core) ≤ amiss_in (seen_by old) → amiss_in (sight_of new.core.core) ≤ amiss_in (sight_of now.core.core) → IsLater table old (known old.table old.caller new false)
later_held {F} {D} table old now new idle one other saw mine more fewer low = record {
  idle = (idle.0, refl);
  caller = refl;
  first = ap (λ (o : Origin D). o.first) (other ∙ one);
  config = ap (λ (o : Origin D). o.config) (other ∙ one);
  seen = goes_on mine (seen_by old).history (sight_of now.core.core).history (sight_of new.core.core).history saw more;
  seals = omega (arith, fewer, low);
}
