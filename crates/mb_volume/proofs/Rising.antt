-- The hook's count of faults rises with a call's fault records.
use Rattle.std.proofs.Common.{◌≡◌, ◌+◌, List, [], ◌∷◌, ◌++◌, ℕ, Bool, true, false, cond, inl, inr, length, refl, ap, subst, ◌∙◌, arith, length-append}
use Rattle.std.proofs.lemmas.Bool.{eq-eqb}
use Rattle.std.proofs.lemmas.List.Elements.{filter-append}
use Rattle.std.specs.Prelude.{nat_eq}
use Rattle.std.specs.List.{AllByRecursion}
use Rattle.mb_core_spec.specs.Copies.{PagesState}
use Rattle.mb_core_spec.specs.State.{records_of}
use Rattle.mb_core_state.specs.declared.answers.Fault.{Fault}
use Rattle.mb_core_state.specs.declared.answers.Fault.TheVariants as fault
use Rattle.mb_core_state.specs.declared.answers.Finished.{Finished}
use Rattle.mb_core_state.specs.declared.answers.Finished.TheVariants as finished
use Rattle.mb_core_state.specs.declared.answers.Gathered.{Gathered}
use Rattle.mb_core_state.specs.declared.answers.Gathered.TheVariants as gathered
use Rattle.mb_core_state.specs.declared.answers.Left.{Left}
use Rattle.mb_core_state.specs.declared.answers.Left.TheVariants as left
use Rattle.mb_edge.specs.declared.hooks.Word.{Word}
use Rattle.mb_edge.specs.declared.hooks.Word.TheVariants as word
use Rattle.mb_iface.specs.declared.replies.Need.{Need}
use Rattle.mb_kinds.specs.declared.calls.Call.{Call}
use Rattle.mb_kinds.specs.declared.faults.FaultRecord.{FaultRecord}
use Rattle.mb_kinds.specs.declared.faults.Kind.{Kind}
use Rattle.mb_kinds.specs.declared.faults.Ticket.{Ticket}
use Rattle.mb_kinds.specs.declared.replies.Reply.{Reply}
use Rattle.mb_run.proofs.Rising.{rises_none, rises_one, rises_then}
use Rattle.mb_run.specs.Events.{EntersInSight, FaultsWith, FinishesInSight, GathersInSight, LeavesWith, SealsIf}
use Rattle.mb_run.specs.Rising.{RisesWith}
use Rattle.mb_run.specs.Seals.{is_due}
use Rattle.mb_run.specs.Sights.{SeatHasTicket, Sight}
use Rattle.mb_run.specs.declared.answers.EnterAnswer.TheVariants as enter
use Rattle.mb_volume.specs.Parts.{MovesPart, Part, part_of}
use Rattle.mb_volume.specs.Rising.{RisesAfter}

-- ---- events that leave the fault records as they are

pub nothing_still : (old new : Sight) → new ≡ old → new.records ≡ old.records
nothing_still old new same = ap (λ (s : Sight). s.records) same

pub done_still : (old new : Sight) (caller : ℕ) (call : Call) (answer : Reply) → EntersInSight old new caller call (enter.Done answer) → new.records ≡ old.records
done_still old new caller call answer enters = elim enters [ inl left ↦ left.1.stays.records | inr made ↦ made.2.stays.records ]

pub gathers_still : (old new : Sight) (ticket : Ticket) (need : Need) (before now : PagesState) (answer : Gathered) → SeatHasTicket false (old.seats ticket.caller) ticket → GathersInSight old new ticket need before now answer → new.records ≡ old.records
gathers_still old new ticket need before now (gathered.Skip was is) has gathers = nothing_still old new gathers.1
gathers_still old new ticket need before now gathered.Device has gathers = (gathers.1 has.flight has.here).stays.records
gathers_still old new ticket need before now gathered.NoMemory has gathers = nothing_still old new gathers.0
gathers_still old new ticket need before now gathered.Done has gathers = gathers.1.stays.records

sealed_still : (b : Bool) (old new : Sight) → SealsIf b old new → new.records ≡ old.records
sealed_still true old new seals = ap (λ (s : Sight). s.records) seals
sealed_still false old new seals = ap (λ (s : Sight). s.records) seals

pub finishes_still : (old new : Sight) (ticket : Ticket) (pages : PagesState) (made : Call) (answer : Finished) → FinishesInSight old new ticket pages made answer → new.records ≡ old.records
finishes_still old new ticket pages made (finished.Skip was is) finishes = nothing_still old new finishes.1
finishes_still old new ticket pages made (finished.Busy holder) finishes = nothing_still old new finishes.3
finishes_still old new ticket pages made (finished.Stale block) finishes = finishes.1.stays.records
finishes_still old new ticket pages made finished.NoMemory finishes = nothing_still old new finishes.1
finishes_still old new ticket pages made finished.Logged finishes =
    let of = finishes.2 in
    sealed_still (is_due of.logged.config.threshold of.logged.ops made) of.logged new of.seals ∙ of.logs.stays.records

pub leaves_still : (old new : Sight) (ticket : Ticket) (answer : Left) → LeavesWith old new ticket answer → new.records ≡ old.records
leaves_still old new ticket (left.Skip mine was) leaves = nothing_still old new leaves.1
leaves_still old new ticket (left.Left answer) leaves = leaves.1.1.stays.records

-- ---- one event, from before the hook was asked

pub rises_same : (count : ℕ) (records : List FaultRecord) → RisesWith count count records records
rises_same count records = rises_none count count records records (omega arith) refl

pub after_none : (said : Word) (asked : ℕ) (old new : List FaultRecord) → new ≡ old → RisesAfter said asked asked old new
after_none said asked old new same = λ before cause. rises_none before asked old new cause.later same

pub after_roll : (said : Word) (asked now : ℕ) (old new : List FaultRecord) → RisesWith asked now old new → RisesAfter said asked now old new
after_roll said asked now old new rises = λ before cause. rises_then before asked now old old new (rises_none before asked old old cause.later refl) rises

pub after_fault : (asked : ℕ) (old new : Sight) (ticket : Ticket) (kind : Kind) (nth : ℕ) (answer : Fault) → FaultsWith old new ticket kind nth answer → RisesAfter word.Fault asked asked old.records new.records
after_fault asked old new ticket kind nth (fault.Skip mine was) faults = after_none word.Fault asked old.records new.records (nothing_still old new faults.1)
after_fault asked old new ticket kind nth (fault.Struck number) faults = λ before cause. rises_one before asked old.records new.records _ cause.later (cause.struck refl) faults.1.records

-- the hook was not asked for it
pub rises_unasked : (asked now : ℕ) (old new : List FaultRecord) → RisesAfter word.Go asked now old new → RisesWith asked now old new
rises_unasked asked now old new rises = rises asked (record { later = omega arith; struck = λ wrong. absurd (let both : word.Go ≡ word.Fault = wrong in cc) })

-- ---- the caller's own records

records_own : (more : List FaultRecord) (caller : ℕ) → AllByRecursion (λ (fault : FaultRecord). fault.caller ≡ caller) more → records_of more caller ≡ more
records_own [] caller theirs = refl
records_own (fault ∷ more) caller theirs =
    ap (λ b. cond b (fault ∷ records_of more caller) (records_of more caller)) (eq-eqb fault.caller caller theirs.0) ∙ ap (λ rs. fault ∷ rs) (records_own more caller theirs.1)

-- all that came are its own
pub rises_own : (before now : ℕ) (old new : Sight) (caller : ℕ) → MovesPart caller old new → RisesWith before now old.records new.records → RisesWith before now (part_of old caller).struck (part_of new caller).struck
rises_own before now old new caller moves rises =
    let whole : length new.records ≡ length old.records + length moves.more = ap (λ (rs : List FaultRecord). length rs) moves.records ∙ length-append old.records moves.more in
    let longer = rises.longer in
    let rose = rises.rose in
    let part : records_of new.records caller ≡ records_of old.records caller ++ moves.more =
    ap (λ rs. records_of rs caller) moves.records ∙ filter-append (λ (r : FaultRecord). nat_eq r.caller caller) old.records moves.more ∙ ap (λ rs. records_of old.records caller ++ rs) (records_own moves.more caller moves.theirs) in
    record {
      later = rises.later;
      more = length moves.more;
      longer = ap (λ (rs : List FaultRecord). length rs) part ∙ length-append (records_of old.records caller) moves.more;
      rose = omega (arith, whole, longer, rose);
    }

-- as the caller saw its part before it had the turn
pub rises_held : (before count : ℕ) (saw now new : Sight) (caller mine : ℕ) → mine ≡ caller → part_of now mine ≡ part_of saw caller → MovesPart mine now new → RisesWith before count now.records new.records
    → RisesWith before count (part_of saw caller).struck (part_of new caller).struck
rises_held before count saw now new caller mine same part moves rises =
    let own = rises_own before count now new mine moves rises in
    subst (λ (p : Part). RisesWith before count p.struck (part_of new caller).struck) part (subst (λ n. RisesWith before count (part_of now mine).struck (part_of new n).struck) same own)
