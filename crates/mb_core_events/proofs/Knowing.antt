-- What an event asks of the fields, read off a core in order.
use Rattle.std.proofs.Common.{List, [], ◌∷◌, ℕ, zero, suc, ◌+◌, ◌*◌, ◌<◌, ◌≤◌, ◌≡◌, Bool, true, false, Option, Some, None, IsSome, length, slice_get, refl, ap, subst, arith}
use Rattle.std.proofs.lemmas.Option.{same_Some, slice_get_within}
use native.Mathlib.Numerals.{unary_clauses}
use Rattle.mb_kinds.specs.Image.{Image}
use Rattle.mb_kinds.specs.declared.entries.Flight.{Flight}
use Rattle.mb_kinds.specs.declared.faults.Ticket.{Ticket}
use Rattle.mb_core_spec.specs.Bounds.{HasMarks}
use Rattle.mb_core_spec.specs.Callers.{EachCaller, insiders, one_if, total}
use Rattle.mb_core_spec.specs.Conditions.{IsInside}
use Rattle.mb_core_spec.specs.Faults.{MayNumber}
use Rattle.mb_core_spec.specs.Flights.{HasTicket, IsFlying, IsTicket, is_pin, runs}
use Rattle.mb_core_spec.specs.Numbers.{is_open, open_flight}
use Rattle.mb_core_spec.specs.Right.{IsOrderly, Right}
use Rattle.mb_core_spec.specs.State.{CallerState, CoreState}
use Rattle.mb_core_spec.specs.declared.stages.Stage.{Stage}
use Rattle.mb_core_spec.specs.declared.stages.Stage.TheVariants as stage
use Rattle.mb_core_order.proofs.Keepings.{some_inside}
use Rattle.mb_core_state.specs.Answers.{IsPresent}
use Rattle.mb_core_state.specs.Finishing.{HasTicketOf}
use Rattle.mb_core_state.specs.Rooms.{HasPins}
use Rattle.mb_core_events.specs.Callings.{HoldsTicket}

-- ---- what stands at a place

pub slice_get_some : {X : Type 0} (xs : List X) (at : ℕ) → at < length xs → (x : X) × (slice_get xs at ≡ Some x)
slice_get_some [] at low = absurd (omega (arith, low))
slice_get_some (x ∷ xs) zero low = (x, refl)
slice_get_some (x ∷ xs) (suc at) low = slice_get_some xs at (omega (arith, low))

-- ---- sums

pub part_of_total : {X : Type 0} (f : X → ℕ) (xs : List X) (at : ℕ) (x : X) → slice_get xs at ≡ Some x → f x ≤ total f xs
part_of_total f [] at x has = absurd (let wrong : None ≡ Some x = has in cc)
part_of_total f (y ∷ xs) zero x has = let same : f y ≡ f x = ap f (same_Some y x has) in omega (arith, same)
part_of_total f (y ∷ xs) (suc at) x has = let rest = part_of_total f xs at x has in omega (arith, rest)

pub at_most_one : (b : Bool) → one_if b ≤ 1
at_most_one true = omega arith
at_most_one false = omega arith

few_inside : (callers : List CallerState) → insiders callers ≤ length callers
few_inside [] = omega arith
few_inside (d ∷ callers) = let one = at_most_one d.inside in let rest = few_inside callers in omega (arith, one, rest)

pub most_begun : (callers : List CallerState) (most : ℕ) → EachCaller (λ caller d. d.begun ≤ most) callers → total (λ (d : CallerState). d.begun) callers ≤ most * length callers
most_begun [] most each = omega arith
most_begun (d ∷ callers) most each =
    let first : d.begun ≤ most = each 0 d refl in
    let rest = most_begun callers most (λ caller other is. each (suc caller) other is) in
    let grows : most * suc (length callers) ≡ most * length callers + most = simp unary_clauses refl in
    omega (arith, first, rest, grows)

-- ---- by where the volume stands

pub running_is : (now : Stage) → runs now ≡ true → now ≡ stage.Running
running_is stage.Running is = refl
running_is stage.Struck is = cc
running_is stage.Again is = cc
running_is stage.Dropped is = cc
running_is stage.Remounted is = cc
running_is (stage.Restored done) is = cc
running_is stage.Failed is = cc

one_more_at_most : (count limit : ℕ) (now : Stage) → MayNumber count limit now → count ≤ limit + 1
one_more_at_most count limit stage.Running few = omega (arith, few)
one_more_at_most count limit stage.Struck few = few
one_more_at_most count limit stage.Again few = few
one_more_at_most count limit stage.Dropped few = omega (arith, few)
one_more_at_most count limit stage.Remounted few = omega (arith, few)
one_more_at_most count limit (stage.Restored done) few = omega (arith, few)
one_more_at_most count limit stage.Failed few = omega (arith, few)

module _ {F D : Type 0} (told : D → Option Image) (faults : D → ℕ) (core : CoreState F D) (r : Right told faults core) where
  abbrev o : IsOrderly core
  o = r.orderly

  -- ---- numbers

  pub few_callers : length core.callers ≤ 8
  few_callers = let same = o.numbered.callers_are in let few = o.bounds.callers in omega (arith, same, few)

  pub few_insiders : insiders core.callers ≤ 8
  few_insiders = let few = few_inside core.callers in let all = few_callers in omega (arith, few, all)

  pub few_records : length core.journal.records ≤ 256
  few_records = let more = one_more_at_most (length core.journal.records) core.config.limit core.stage o.numbered.few in let limit = o.bounds.limit in omega (arith, more, limit)

  pub few_entries : length core.journal.history ≤ 4294967295
  few_entries =
      let sum = most_begun core.callers core.config.most o.numbered.begun in
      let fits = o.numbered.fits in
      let bound = o.bounds.moments in
      let long : core.config.most * length core.callers ≡ core.config.most * length core.config.callers = ap (λ n. core.config.most * n) o.numbered.callers_are in
      omega (arith, sum, fits, bound, long)

  pub few_logged : length core.journal.oplog < 4294967296
  few_logged = let entries = few_entries in let logged = o.logged in omega (arith, entries, logged)

  pub caller_within : (caller : ℕ) (mine : CallerState) → slice_get core.callers caller ≡ Some mine → caller < length core.callers
  caller_within caller mine here = slice_get_within core.callers caller mine here

  -- a declared caller's state
  pub state_of : (caller : ℕ) → caller < length core.config.callers → (mine : CallerState) × (slice_get core.callers caller ≡ Some mine)
  state_of caller low = let same = o.numbered.callers_are in slice_get_some core.callers caller (omega (arith, low, same))

  pub is_declared : (caller : ℕ) (mine : CallerState) → slice_get core.callers caller ≡ Some mine → caller < length core.config.callers
  is_declared caller mine here = let low = caller_within caller mine here in let same = o.numbered.callers_are in omega (arith, low, same)

  -- ---- pins, and an entry's room

  pub has_pins : (caller : ℕ) → HasPins core caller
  has_pins caller mine block here =
      let part = part_of_total (λ (d : CallerState). total (is_pin block) d.undo) core.callers caller mine here in
      let all = o.pinned block in
      omega (arith, part, all)

  pub has_entry_room : (caller : ℕ) (mine : CallerState) (flight : Flight) → slice_get core.callers caller ≡ Some mine → mine.flight ≡ Some flight → flight.answered ≡ false → 0 < core.journal.room.history
  has_entry_room caller mine flight here flies unanswered =
      let part = part_of_total (λ (d : CallerState). one_if (is_open (open_flight d.flight))) core.callers caller mine here in
      let one : one_if (is_open (open_flight mine.flight)) ≡ 1 = rw flies (rw unanswered refl) in
      let room = o.entries in
      omega (arith, part, one, room)

  -- ---- a caller's ticket

  pub ticket_of_is : (caller : ℕ) (ticket : Ticket) (of : HasTicketOf core.callers caller ticket) → IsTicket caller of.flight of.mine.inside (runs core.stage) core.incarnation ticket
  ticket_of_is caller ticket of =
      let flying : IsFlying caller of.mine.inside (runs core.stage) core.incarnation of.mine.answer (Some of.flight) =
      subst (IsFlying caller of.mine.inside (runs core.stage) core.incarnation of.mine.answer) of.flies (o.flying caller of.mine of.here) in
      subst (HasTicket caller of.flight of.mine.inside (runs core.stage) core.incarnation) of.held flying.ticket

  pub ticket_is : (ticket : Ticket) (of : HoldsTicket core ticket) → IsTicket ticket.caller of.flight of.mine.inside (runs core.stage) core.incarnation ticket
  ticket_is ticket of = ticket_of_is ticket.caller ticket of

  -- a present ticket is that of a call inside, on a running volume
  pub within : (ticket : Ticket) (of : HoldsTicket core ticket) → IsPresent core ticket → IsInside core ticket.caller of.mine of.flight ticket
  within ticket of present = record { here = of.here; flies = of.flies; held = of.held; inside = ((ticket_is ticket of).present present).0 }

  pub runs_now : (ticket : Ticket) (of : HoldsTicket core ticket) → IsPresent core ticket → core.stage ≡ stage.Running
  runs_now ticket of present = running_is core.stage ((ticket_is ticket of).present present).1

  pub some_insider : (ticket : Ticket) (of : HoldsTicket core ticket) → IsPresent core ticket → 1 ≤ insiders core.callers
  some_insider ticket of present = some_inside core.callers ticket.caller of.mine of.here (within ticket of present).inside

  pub marks_at : (now : Stage) → core.stage ≡ now → HasMarks now (insiders core.callers) core.journal.room
  marks_at now is = subst (λ (s : Stage). HasMarks s (insiders core.callers) core.journal.room) is o.marks

  pub marks_now : (ticket : Ticket) (of : HoldsTicket core ticket) → IsPresent core ticket → (insiders core.callers + 2 ≤ core.journal.room.trail) × (1 ≤ core.journal.room.records)
  marks_now ticket of present = marks_at stage.Running (runs_now ticket of present) (some_insider ticket of present)

  -- a call that has its entry has the reply at hand
  pub has_answer : (ticket : Ticket) (of : HoldsTicket core ticket) → of.flight.answered ≡ true → (mine : CallerState) × (slice_get core.callers ticket.caller ≡ Some mine) × IsSome mine.answer
  has_answer ticket of answered =
      let flying : IsFlying ticket.caller of.mine.inside (runs core.stage) core.incarnation of.mine.answer (Some of.flight) =
      subst (IsFlying ticket.caller of.mine.inside (runs core.stage) core.incarnation of.mine.answer) of.flies (o.flying ticket.caller of.mine of.here) in
      (of.mine, of.here, flying.logged answered)
