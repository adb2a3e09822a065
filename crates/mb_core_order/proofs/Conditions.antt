-- The conditions of events as the lemmas take them.
use Rattle.std.proofs.Common.{ℕ, ◌≡◌, true, false, Option, Some, None, IsSome, refl, subst}
use Rattle.mb_kinds.specs.Image.{Image}
use Rattle.mb_kinds.specs.declared.entries.Flight.{Flight}
use Rattle.mb_kinds.specs.declared.faults.Ticket.{Ticket}
use Rattle.mb_cache.specs.Pages.{PageList, under}
use Rattle.mb_cache.specs.State.{ReadsAlike}
use Rattle.mb_core_spec.specs.Conditions.{IsInside}
use Rattle.mb_core_spec.specs.Flights.{HasTicket, IsFlying, IsTicket, runs}
use Rattle.mb_core_spec.specs.Right.{Right}
use Rattle.mb_core_spec.specs.State.{CallerState, CoreState}

-- the ticket of a call that is inside is that of its caller and of its call
pub inside_ticket : {F D : Type 0} (told : D → Option Image) (faults : D → ℕ) (core : CoreState F D) → Right told faults core → (at : ℕ) (mine : CallerState) (flight : Flight) (ticket : Ticket)
    → IsInside core at mine flight ticket → IsTicket at flight mine.inside (runs core.stage) core.incarnation ticket
inside_ticket told faults core r at mine flight ticket within =
    let flying : IsFlying at mine.inside (runs core.stage) core.incarnation mine.answer (Some flight) =
    subst (IsFlying at mine.inside (runs core.stage) core.incarnation mine.answer) within.flies (r.orderly.flying at mine within.here) in
    subst (HasTicket at flight mine.inside (runs core.stage) core.incarnation) within.held flying.ticket

-- what a disk told before one of its pages was written back
pub was_told : (before after : Option Image) (pages left : PageList) (image : Image) → IsSome before → after ≡ Some image → ReadsAlike before pages after left → (old : Image) × (before ≡ Some old) × (under image left ≡ under old pages)
was_told None after pages left image tells now alike = absurd (let wrong : false ≡ true = tells in cc)
was_told (Some old) after pages left image tells now alike = (old, refl, subst (λ (a : Option Image). ReadsAlike (Some old) pages a left) now alike)

pub still_tells : (before after : Option Image) (pages left : PageList) → IsSome before → ReadsAlike before pages after left → IsSome after
still_tells None after pages left tells alike = absurd (let wrong : false ≡ true = tells in cc)
still_tells (Some old) None pages left tells alike = absurd alike
still_tells (Some old) (Some image) pages left tells alike = refl
