-- What code reads off a core in order.
use Rattle.std.proofs.Common.{List, [], ◌∷◌, ◌++◌, ℕ, ◌+◌, ◌≡◌, ◌≢◌, ◌<◌, ◌≤◌, length, ◌∙◌, subst, Bool, true, false, Option, Some, None, slice_get, slice_set, refl, ap, arith}
use Rattle.std.proofs.lemmas.Bool.Decides.{nat_tests}
use Rattle.std.specs.Prelude.{nat_eq, if◌then◌else◌}
use Rattle.mb_kinds.specs.Own.{own}
use Rattle.mb_kinds.specs.declared.entries.Entry.{Entry}
use Rattle.mb_kinds.specs.declared.entries.Flight.{Flight}
use Rattle.mb_kinds.specs.declared.faults.FaultRecord.{FaultRecord}
use Rattle.mb_kinds.specs.declared.faults.Ticket.{Ticket}
use Rattle.mb_kinds.specs.declared.replies.Reply.{Reply}
use Rattle.mb_cache.specs.Stamps.{Stamps}
use Rattle.mb_core_order.proofs.Beginning.{all_of, set_there}
use Rattle.mb_core_order.proofs.Counting.{each_counted}
use Rattle.mb_core_order.proofs.Trailing.{there}
use Rattle.mb_core_spec.specs.Copies.{AreFresh, HoldsFloor, LiveTables, PagesState}
use Rattle.mb_core_spec.specs.Flights.{HasTicket, IsFlying}
use Rattle.mb_core_order.specs.Readings.{FliesInside, OrdinalsArePlaces}
use Rattle.mb_core_spec.specs.Callers.{total}
use Rattle.mb_core_spec.specs.Numbers.{IsEntry}
use Rattle.mb_core_spec.specs.State.{CallerState, records_of, stand_at}

pub flying_inside : (caller : ℕ) (running : Bool) (incarnation : ℕ) (answer : Option Reply) (o : Option Flight) → IsFlying caller true running incarnation answer o → FliesInside caller running incarnation o
flying_inside caller running incarnation answer None is = absurd (let wrong : true ≡ false = is in cc)
flying_inside caller running incarnation answer (Some flight) is = with_ticket flight.ticket refl is.ticket
  where
    with_ticket : (t : Option Ticket) → flight.ticket ≡ t → HasTicket caller flight true running incarnation t → FliesInside caller running incarnation (Some flight)
    with_ticket None held has = absurd (let wrong : true ≡ false = has.0 in cc)
    with_ticket (Some ticket) held has = record { flight = flight; flies = refl; ticket = ticket; held = held; is = has }

-- the holder of the floor is never stale
pub floor_fresh : (stamps : Stamps) (live : LiveTables) (pages : PagesState) → HoldsFloor stamps live pages → AreFresh pages.blocks stamps pages.blocks
floor_fresh stamps live pages holds block page has = record { copy = page; has = has; bytes = refl; stamp = holds.blocks block page has }

-- a record of one caller is none of another's
pub records_other : (records : List FaultRecord) (fault : FaultRecord) (caller : ℕ) → fault.caller ≢ caller → records_of (records ++ fault ∷ []) caller ≡ records_of records caller
records_other [] fault caller apart = let test : nat_eq fault.caller caller ≡ false = grind (arith, nat_tests) in ap (λ b. if b then fault ∷ [] else []) test
records_other (first ∷ records) fault caller apart = ap (λ rest. if nat_eq first.caller caller then first ∷ rest else rest) (records_other records fault caller apart)

-- an event of one caller leaves every other stand as it was
pub stand_other : (records : List FaultRecord) (callers : List CallerState) (at caller : ℕ) (new : CallerState) → caller ≢ at → stand_at records caller (slice_get (slice_set callers at new) caller) ≡ stand_at records caller (slice_get callers caller)
stand_other records callers at caller new apart = ap (stand_at records caller) (set_there callers at caller new apart)

-- ---- where every call that was begun has its entry

pub in_places : {F D : Type 0} → OrdinalsArePlaces F D
in_places core o all caller low =
    let mine = there core.callers caller low in
    let counted = o.numbered.counted caller mine.0 mine.1 in
    let each = each_counted core.callers core.journal.history 0
    (λ place one is.
    (let known = (o.numbered.counted place one is).begun in
    let few : length (own core.journal.history place) ≤ one.begun = omega (arith, known) in
    let same : place ≡ 0 + place = omega arith in
    subst (λ n. length (own core.journal.history n) ≤ one.begun) same few))
    (all_of (IsEntry core.config.start (core.config.start + total (λ (d : CallerState). d.begun) core.callers) (length core.config.callers)) (λ (e : Entry). (0 ≤ e.caller) × (e.caller < 0 + length core.callers))
    (λ e is. (omega arith, (let within = is.caller in let long = o.numbered.callers_are in omega (arith, within, long)))) core.journal.history o.numbered.entries) in
    let same : mine.0.begun ≡ length (own core.journal.history caller) = each.1 (omega (arith, all)) caller mine.0 mine.1 ∙ ap (λ n. length (own core.journal.history n)) (omega arith) in
    counted.places (let known = counted.begun in omega (arith, known, same))
