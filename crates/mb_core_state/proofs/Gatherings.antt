-- A call that gathers: what it keeps, and how the disk ends it.
use Rattle.std.proofs.Common.{◌≡◌, ◌∙◌, ℕ, inl, inr, List, [], ◌∷◌, zero, suc, Option, Some, Result, Ok, Err, OnErr, slice_get, slice_set, refl, sym, ap, subst, arith}
use Rattle.std.proofs.lemmas.Bool.{cases_lt}
use Rattle.std.proofs.lemmas.Option.{same_Some}
use Rattle.mb_kinds.specs.Image.{Image}
use Rattle.mb_kinds.specs.declared.entries.Flight.{Flight}
use Rattle.mb_kinds.specs.declared.replies.Reply.{Reply}
use Rattle.mb_gate.specs.declared.ulogs.Undo.{Undo}
use Rattle.mb_iface.specs.declared.replies.Need.{Need}
use Rattle.mb_edge.specs.Causes.{Rose}
use Rattle.mb_cache.specs.State.{IsBlamed}
use Rattle.mb_cache.specs.declared.answers.ReadFault.{ReadFault}
use Rattle.mb_cache.specs.declared.answers.ReadFault.TheVariants as faults
use Rattle.mb_core_spec.specs.Copies.{PagesState}
use Rattle.mb_core_spec.specs.Events.{answered_by, gathering, with_room}
use Rattle.mb_core_spec.specs.State.{CallerState, CoreState}
use Rattle.mb_core_state.specs.Answers.{KeepsGathered, with_disk}

-- what is put back where it was changes nothing
pub put_back : {X : Type 0} (xs : List X) (at : ℕ) (x : X) → slice_get xs at ≡ Some x → slice_set xs at x ≡ xs
put_back [] at x has = refl
put_back (y ∷ xs) zero x has = ap (λ z. z ∷ xs) (sym (same_Some y x has))
put_back (y ∷ xs) (suc at) x has = ap (λ rest. y ∷ rest) (put_back xs at x has)

pub on_err : {T E : Type 0} (result : Result T E) (P Q : Type 0) → (P → Q) → OnErr result P → OnErr result Q
on_err (Ok t) P Q then_q h = h
on_err (Err e) P Q then_q h = then_q h

-- a read that blames the disk
pub device_rose : (before now : ℕ) (fault : ReadFault) → fault ≡ faults.Device → IsBlamed before now fault → Rose before now
device_rose before now fault is blamed = subst (IsBlamed before now) is blamed

-- of a caller's state its undo log and its pages change, and nothing else
state_of : (mine kept : CallerState) (undo : List Undo) (pages : PagesState) → kept ≡ record mine { undo = undo; pages = pages } → kept ≡ record mine { undo = kept.undo; pages = kept.pages }
state_of mine kept undo pages is = is ∙ sym (ap (λ (state : CallerState). record mine { undo = state.undo; pages = state.pages }) is)

kept_state : {F D : Type 0} (told : D → Option Image) (old new : CoreState F D) (caller : ℕ) (need : Need) (mine : CallerState) (pages got : PagesState)
    → (by : KeepsGathered told old new caller need mine pages got) → by.kept ≡ record mine { undo = by.kept.undo; pages = by.kept.pages }
kept_state told old new caller need mine pages got by = elim (cases_lt 0 need.first) [
  | inl some ↦ state_of mine by.kept _ _ (by.blocks (omega (arith, some))).kept_is
  | inr none ↦ state_of mine by.kept _ _ (by.tables (omega (arith, none))).kept_is
]

pub gathered_event : {F D : Type 0} (told : D → Option Image) (old new : CoreState F D) (caller : ℕ) (need : Need) (mine : CallerState) (pages got : PagesState)
    → new ≡ record old { cache = record old.cache { disk = new.cache.disk; pins = new.cache.pins; room = new.cache.room }; callers = new.callers }
    → (by : KeepsGathered told old new caller need mine pages got)
    → new ≡ with_room (gathering old new.cache.disk caller mine by.kept.pages by.kept.undo new.cache.pins new.cache.room) new
gathered_event {F} {D} told old new caller need mine pages got rest by =
    let journal : new.journal ≡ old.journal = ap (λ (core : CoreState F D). core.journal) rest in
    let callers : new.callers ≡ slice_set old.callers caller (record mine { pages = by.kept.pages; undo = by.kept.undo }) =
    by.callers ∙ ap (λ (state : CallerState). slice_set old.callers caller state) (kept_state told old new caller need mine pages got by) in
    rest
    ∙ ap (λ (all : List CallerState). record old { cache = record old.cache { disk = new.cache.disk; pins = new.cache.pins; room = new.cache.room }; callers = all }) callers
    ∙ ap (λ room. record old { cache = record old.cache { disk = new.cache.disk; pins = new.cache.pins; room = new.cache.room }; callers = slice_set old.callers caller (record mine { pages = by.kept.pages; undo = by.kept.undo }); journal = record old.journal { room = room } })
    (sym (ap (λ journal. journal.room) journal))

pub answered_after : {F D : Type 0} (old mid new : CoreState F D) (caller : ℕ) (mine : CallerState) (flight : Flight) (answer : Reply)
    → mid ≡ record old { cache = record old.cache { disk = mid.cache.disk; pins = mid.cache.pins; room = mid.cache.room }; callers = mid.callers }
    → mid.callers ≡ old.callers → new.cache.disk ≡ mid.cache.disk → new ≡ with_room (answered_by mid caller mine flight answer new.cache.pins) new
    → new ≡ with_room (answered_by (with_disk old new.cache.disk) caller mine flight answer new.cache.pins) new
answered_after {F} {D} old mid new caller mine flight answer rest callers disk answered =
    answered
    ∙ ap (λ (core : CoreState F D). with_room (answered_by core caller mine flight answer new.cache.pins) new) rest
    ∙ ap (λ (all : List CallerState). with_room (answered_by (record old { cache = record old.cache { disk = mid.cache.disk }; callers = all }) caller mine flight answer new.cache.pins) new) callers
    ∙ ap (λ (d : D). with_room (answered_by (with_disk old d) caller mine flight answer new.cache.pins) new) (sym disk)
