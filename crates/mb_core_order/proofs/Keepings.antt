-- Each event keeps copies, tables, undo logs, pins, the floor, the calls in flight and what they have at hand.
use Rattle.std.proofs.Common.{if◌then◌else◌, List, [], ◌∷◌, ◌++◌, ℕ, zero, suc, ◌+◌, ◌≡◌, ◌≢◌, ◌≤◌, inl, inr, Bool, true, false, Option, Some, None, option_map, unwrap_or, slice_get, slice_set, refl, ap, sym, ◌∙◌, subst, arith}
use Rattle.std.proofs.lemmas.Bool.Decides.{nat_tests}
use Rattle.std.proofs.Math.Nat.{min-le_left, min-le_right}
use Rattle.std.proofs.lemmas.List.Elements.{Contains-append_left}
use Rattle.std.specs.Prelude.{min, nat_eq, nat_le}
use Rattle.mb_kinds.specs.declared.entries.Entry.{Entry}
use Rattle.mb_kinds.specs.declared.entries.Flight.{Flight}
use Rattle.mb_kinds.specs.declared.faults.Ticket.{Ticket}
use Rattle.mb_kinds.specs.declared.replies.Reply.{Reply}
use Rattle.mb_tree.proofs.FiniteMaps.{one_or_not}
use Rattle.mb_tree.specs.Sessions.{changed, closed, doubled, moved, opened, with_change}
use Rattle.mb_tree.specs.declared.seats.PlainFile.{PlainFile}
use Rattle.mb_tree.specs.declared.seats.Seat.{Seat}
use Rattle.mb_tree.specs.declared.seats.SessionChange.{SessionChange}
use Rattle.mb_tree.specs.declared.seats.SessionChange.TheVariants as change
use Rattle.mb_cache.specs.Stamps.{Stamps, stamp_of}
use Rattle.mb_core_spec.specs.declared.stages.Stage.{Stage}
use Rattle.mb_core_spec.specs.declared.stages.Stage.TheVariants as stage
use Rattle.mb_gate.specs.declared.ulogs.Undo.TheVariants as undo
use Rattle.mb_core_order.proofs.Beginning.{set_here, set_there}
use Rattle.mb_core_order.proofs.Overlays.{same_some, total_set}
use Rattle.mb_core_spec.specs.Bounds.{HasMarks, StampsAreFew}
use Rattle.mb_core_spec.specs.Callers.{EachCaller, insiders, one_if, total}
use Rattle.mb_cache.specs.Kept.{CopyList}
use Rattle.mb_core_spec.specs.Copies.{AreOld, AreTrue, HoldsFloor, KeepsCopies, KeepsTables, LiveTables, PagesState, TableCopy, TablesAgree, cwds, no_pages}
use Rattle.mb_core_spec.specs.Events.{Gathers, GivesBack, first_undo, floor_after, floor_undo, taken_back, without}
use Rattle.mb_core_spec.specs.Flights.{ArePins, HasTicket, IsAnswered, IsFloor, IsFlying, IsTicket, IsUndoable, MayBeInside, is_pin}
use Rattle.mb_core_spec.specs.Flights.{IsMine}
use Rattle.mb_core_spec.specs.Owed.{TablesMove}
use Rattle.mb_core_order.specs.Readings.{is_cwd}
use Rattle.mb_core_spec.specs.State.{CallerState, JournalRoom}

-- ---- copies and tables

pub no_old : (stamps : Stamps) → AreOld stamps []
no_old stamps block kept has = absurd (let wrong : None ≡ Some kept = has in cc)

pub no_true : (view : ℕ → List ℕ) (stamps : Stamps) → AreTrue view stamps []
no_true view stamps block kept has now = absurd (let wrong : None ≡ Some kept = has in cc)

pub no_copies : (caller : ℕ) (stamps : Stamps) (live : LiveTables) → KeepsCopies caller stamps live no_pages
no_copies caller stamps live = record { old = no_old stamps; tables = tt }

-- who keeps nothing keeps copies of whatever is seen
pub none_kept : (caller : ℕ) (stamps : Stamps) (live : LiveTables) (pages : PagesState) → pages.blocks ≡ [] → pages.tables ≡ None → KeepsCopies caller stamps live pages
none_kept caller stamps live pages no_blocks no_tables = record { old = subst (AreOld stamps) (sym no_blocks) (no_old stamps); tables = subst (TablesAgree caller live) (sym no_tables) tt }

pub none_true : (view : ℕ → List ℕ) (stamps : Stamps) (blocks : CopyList) → blocks ≡ [] → AreTrue view stamps blocks
none_true view stamps blocks none = subst (AreTrue view stamps) (sym none) (no_true view stamps)

-- a caller gathers
pub gathers_old : (stamps : Stamps) (live : LiveTables) (old new : PagesState) → Gathers stamps live old new → AreOld stamps old.blocks → AreOld stamps new.blocks
gathers_old stamps live old new gathers are block kept has = elim (gathers.blocks block kept has) [ inl before ↦ are block kept before | inr fresh ↦ omega (arith, fresh) ]

tables_now : (caller : ℕ) (live : LiveTables) → KeepsTables caller live (record { sessions = live.sessions; opens = live.opens; stamp = live.stamp })
tables_now caller live = record { own = refl; old = omega arith; opens = λ same. refl; directories = λ same. refl }

pub gathers_keeps : (caller : ℕ) (stamps : Stamps) (live : LiveTables) (old new : PagesState) → Gathers stamps live old new → KeepsCopies caller stamps live old → KeepsCopies caller stamps live new
gathers_keeps caller stamps live old new gathers keeps = record {
  old = gathers_old stamps live old new gathers keeps.old;
  tables = elim gathers.tables [ inl same ↦ subst (TablesAgree caller live) (sym same) keeps.tables | inr fresh ↦ subst (TablesAgree caller live) (sym fresh) (tables_now caller live) ];
}

-- the holder of the floor gathers: what it takes has the present stamp
pub gathers_fresh : (stamps : Stamps) (live : LiveTables) (old new : PagesState) → Gathers stamps live old new → HoldsFloor stamps live old → HoldsFloor stamps live new
gathers_fresh stamps live old new gathers holds = record {
  blocks = λ block kept has. elim (gathers.blocks block kept has) [ inl before ↦ holds.blocks block kept before | inr fresh ↦ fresh ];
  tables = λ kept has. elim gathers.tables [
    | inl same ↦ holds.tables kept (sym same ∙ has)
    | inr fresh ↦ sym (ap (λ (t : TableCopy). t.stamp) (same_some _ kept (sym fresh ∙ has)))
  ];
}

pub none_fresh : (stamps : Stamps) (live : LiveTables) → HoldsFloor stamps live no_pages
none_fresh stamps live = record { blocks = λ block kept has. absurd (let wrong : None ≡ Some kept = has in cc); tables = λ kept has. absurd (let wrong : None ≡ Some kept = has in cc) }

pub tables_move : (caller : ℕ) (old new : LiveTables) (kept : TableCopy) → slice_get new.sessions caller ≡ slice_get old.sessions caller → TablesMove old new → KeepsTables caller old kept → KeepsTables caller new kept
tables_move caller old new kept own moves keeps = elim moves [
  | inl stays ↦ record {
    own = keeps.own ∙ sym own;
    old = (let low = keeps.old in let same = stays.0 in omega (arith, low, same));
    opens = λ now. keeps.opens (now ∙ stays.0) ∙ sym stays.1;
    directories = λ now. keeps.directories (now ∙ stays.0) ∙ sym stays.2;
  }
  | inr rises ↦ record {
    own = keeps.own ∙ sym own;
    old = (let low = keeps.old in omega (arith, low, rises));
    opens = λ now. absurd (let low = keeps.old in omega (arith, low, rises, now));
    directories = λ now. absurd (let low = keeps.old in omega (arith, low, rises, now));
  }
]

pub tables_may_move : (caller : ℕ) (old new : LiveTables) (kept : Option TableCopy) → slice_get new.sessions caller ≡ slice_get old.sessions caller → TablesMove old new → TablesAgree caller old kept → TablesAgree caller new kept
tables_may_move caller old new None own moves keeps = tt
tables_may_move caller old new (Some kept) own moves keeps = tables_move caller old new kept own moves keeps

-- a session change of one caller shows to no other but by its current directory
pub others_session : (seats : List Seat) (at caller : ℕ) (made : SessionChange) → caller ≢ at → slice_get (with_change seats at made) caller ≡ slice_get seats caller
others_session seats at caller made apart = elim (slice_get seats at) as (λ (o : Option Seat). slice_get (unwrap_or (option_map (λ seat. slice_set seats at (changed seat made)) o) seats) caller ≡ slice_get seats caller) [
  | None ↦ refl
  | Some seat ↦ set_there seats at caller (changed seat made) apart
]

opened_cwd : (seat : Seat) (fd : ℕ) (place : Option ℕ) → (doubled seat fd place).cwd ≡ seat.cwd
opened_cwd seat fd None = refl
opened_cwd seat fd (Some place) = refl

closed_cwd : (seat : Seat) (fd : ℕ) (place : Option ℕ) → (closed seat fd place).cwd ≡ seat.cwd
closed_cwd seat fd None = refl
closed_cwd seat fd (Some place) = refl

moved_cwd : (seat : Seat) (offset : ℕ) (place : Option ℕ) → (moved seat offset place).cwd ≡ seat.cwd
moved_cwd seat offset None = refl
moved_cwd seat offset (Some place) = refl

fresh_cwd : (seat : Seat) (fd : ℕ) (file : PlainFile) (place : Option ℕ) → (opened seat fd file place).cwd ≡ seat.cwd
fresh_cwd seat fd file None = refl
fresh_cwd seat fd file (Some place) = refl

change_cwd : (seat : Seat) (made : SessionChange) → is_cwd made ≡ false → (changed seat made).cwd ≡ seat.cwd
change_cwd seat change.Same not_cwd = refl
change_cwd seat (change.Fresh fd ino how) not_cwd = fresh_cwd seat fd _ _
change_cwd seat (change.Twin fd to) not_cwd = opened_cwd seat to _
change_cwd seat (change.Free fd) not_cwd = closed_cwd seat fd _
change_cwd seat (change.Move fd offset) not_cwd = moved_cwd seat offset _
change_cwd seat (change.Cwd ino) not_cwd = absurd (let wrong : true ≡ false = not_cwd in cc)
change_cwd seat (change.Mask mask) not_cwd = refl
change_cwd seat change.Clear not_cwd = refl

cwds_set : (seats : List Seat) (at : ℕ) (old new : Seat) → slice_get seats at ≡ Some old → new.cwd ≡ old.cwd → cwds (slice_set seats at new) ≡ cwds seats
cwds_set [] at old new has same = refl
cwds_set (seat ∷ seats) zero old new has same = ap (λ c. c ∷ cwds seats) (same ∙ sym (ap (λ (s : Seat). s.cwd) (same_some seat old has)))
cwds_set (seat ∷ seats) (suc at) old new has same = ap (λ rest. seat.cwd ∷ rest) (cwds_set seats at old new has same)

-- a session change that is not of the current directory shows to nobody
pub others_cwds : (seats : List Seat) (at : ℕ) (made : SessionChange) → is_cwd made ≡ false → cwds (with_change seats at made) ≡ cwds seats
others_cwds seats at made not_cwd = elim (slice_get seats at) as (λ (o : Option Seat). slice_get seats at ≡ o → cwds (unwrap_or (option_map (λ seat. slice_set seats at (changed seat made)) o) seats) ≡ cwds seats) [
  | None ↦ λ is. refl
  | Some seat ↦ λ is. cwds_set seats at seat (changed seat made) is (change_cwd seat made not_cwd)
] refl

-- ---- undo logs, pins

abbrev pub pins_of : ℕ → CallerState → ℕ
pins_of block mine = total (is_pin block) mine.undo

-- the pins of the cache follow those of one caller
pub pins_follow : (pins grown : Stamps) (callers : List CallerState) (at : ℕ) (mine new : CallerState) → slice_get callers at ≡ Some mine → ArePins pins callers
    → ((block : ℕ) → stamp_of grown block + pins_of block mine ≡ stamp_of pins block + pins_of block new) → ArePins grown (slice_set callers at new)
pins_follow pins grown callers at mine new has are each block =
    let was = are block in
    let now = each block in
    let both = total_set (pins_of block) callers at mine new has in
    omega (arith, was, now, both)

-- given back
pub pins_given : (pins fewer : Stamps) (mine new : CallerState) → GivesBack pins fewer mine.undo → ((block : ℕ) → total (is_pin block) new.undo ≡ 0) → (block : ℕ) → stamp_of fewer block + pins_of block mine ≡ stamp_of pins block + pins_of block new
pins_given pins fewer mine new gives none block = let one = gives.each block in let no_more = none block in omega (arith, one, no_more)

pub first_undo_pins : (reserved : Option ℕ) (block : ℕ) → total (is_pin block) (first_undo reserved) ≡ 0
first_undo_pins None block = refl
first_undo_pins (Some fd) block = refl

floor_pins : (caller : ℕ) (floor : Option ℕ) (block : ℕ) → total (is_pin block) (floor_undo caller floor) ≡ 0
floor_pins caller None block = refl
floor_pins caller (Some holder) block = elim (nat_eq caller holder) as (λ b. total (is_pin block) (if b then undo.Floor ∷ [] else []) ≡ 0) [ true ↦ refl | false ↦ refl ]

pub floor_undo_pins : (caller : ℕ) (floor reserved : Option ℕ) (block : ℕ) → total (is_pin block) (first_undo reserved ++ floor_undo caller floor) ≡ 0
floor_undo_pins caller floor None block = let none = floor_pins caller floor block in omega (arith, none)
floor_undo_pins caller floor (Some fd) block = let none = floor_pins caller floor block in omega (arith, none)

-- ---- the floor

pub without_mine : (caller : ℕ) (floor : Option ℕ) → IsMine caller floor → without caller floor ≡ None
without_mine caller floor mine = elim mine [
  | inl none ↦ ap (without caller) none
  | inr own ↦ (let test : nat_eq caller caller ≡ true = grind (arith, nat_tests) in ap (without caller) own ∙ ap (λ b. if b then None else Some caller) test)
]

-- who has the floor keeps it while another gives up
pub without_other : (caller holder : ℕ) → caller ≢ holder → without caller (Some holder) ≡ Some holder
without_other caller holder apart = let test : nat_eq caller holder ≡ false = grind (arith, nat_tests) in ap (λ b. if b then None else Some holder) test

pub holder_stays : (caller other : ℕ) (floor : Option ℕ) → other ≢ caller → floor ≡ Some other → without caller floor ≡ Some other
holder_stays caller other floor apart is = ap (without caller) is ∙ without_other caller other (λ same. apart (sym same))

-- nobody comes to the floor by another's giving up
pub holder_was : (caller other : ℕ) (floor : Option ℕ) → without caller floor ≡ Some other → (floor ≡ Some other) × (other ≢ caller)
holder_was caller other None is = absurd (let wrong : None ≡ Some other = is in cc)
holder_was caller other (Some holder) is = elim (one_or_not caller holder) [
  | inl same ↦ absurd (let test : nat_eq caller holder ≡ true = grind (arith, nat_tests) in let wrong : None ≡ Some other = sym (ap (λ b. if b then None else Some holder) test) ∙ is in cc)
  | inr apart ↦ (let kept : Some holder ≡ Some other = sym (without_other caller holder apart) ∙ is in (kept, λ e. apart (sym e ∙ sym (same_some holder other kept))))
]

-- a caller's states under which the floor stands: given up by one
pub floor_given : (callers : List CallerState) (at : ℕ) (new : CallerState) (floor : Option ℕ) → IsFloor floor callers → IsFloor (without at floor) (slice_set callers at new)
floor_given callers at new None is = tt
floor_given callers at new (Some holder) is = elim (one_or_not at holder) [
  | inl same ↦ (let test : nat_eq at holder ≡ true = grind (arith, nat_tests) in subst (λ b. IsFloor (if b then None else Some holder) (slice_set callers at new)) (sym test) tt)
  | inr apart ↦ subst (λ o. IsFloor o (slice_set callers at new)) (sym (without_other at holder apart)) (is.0, set_there callers at holder new (λ e. apart (sym e)) ∙ is.1, is.2)
]

-- kept, where the caller is inside afterwards or was not before
pub floor_kept : (callers : List CallerState) (at : ℕ) (mine new : CallerState) (floor : Option ℕ) → slice_get callers at ≡ Some mine → (mine.inside ≡ true → new.inside ≡ true) → IsFloor floor callers → IsFloor floor (slice_set callers at new)
floor_kept callers at mine new None has stays is = tt
floor_kept callers at mine new (Some holder) has stays is = elim (one_or_not holder at) [
  | inl same ↦ (let one : is.0 ≡ mine = same_some is.0 mine (sym is.1 ∙ ap (slice_get callers) same ∙ has) in
      (new, ap (slice_get (slice_set callers at new)) same ∙ set_here callers at mine new has, stays (ap (λ (d : CallerState). d.inside) (sym one) ∙ is.2)))
  | inr apart ↦ (is.0, set_there callers at holder new apart ∙ is.1, is.2)
]

-- from the fourth stale answer on it is taken
pub floor_taken : (callers : List CallerState) (at : ℕ) (mine new : CallerState) (floor : Option ℕ) → slice_get callers at ≡ Some mine → new.inside ≡ true → IsFloor floor callers → (stales : ℕ) → IsFloor (floor_after at stales floor) (slice_set callers at new)
floor_taken callers at mine new floor has inside is stales = elim (nat_le 3 stales) as (λ b. IsFloor (if b then Some at else floor) (slice_set callers at new)) [
  | true ↦ (new, set_here callers at mine new has, inside)
  | false ↦ floor_kept callers at mine new floor has (λ was. inside) is
]

-- nobody inside: nobody has it
pub no_floor : (callers : List CallerState) (floor : Option ℕ) → IsFloor floor callers → EachCaller (λ caller d. d.inside ≡ false) callers → floor ≡ None
no_floor callers None is none = refl
no_floor callers (Some holder) is none = absurd (let wrong : true ≡ false = sym is.2 ∙ none holder is.0 is.1 in cc)

-- ---- who may be undone

-- the others, while one gives up its floor
pub undoable_given : (caller other : ℕ) (floor : Option ℕ) (d : CallerState) → other ≢ caller → IsUndoable other floor d → IsUndoable other (without caller floor) d
undoable_given caller other floor d apart u = record { outside = u.outside; stales = u.stales; fourth = λ four. holder_stays caller other floor apart (u.fourth four) }

-- while one may take it
pub undoable_taken : (caller other : ℕ) (floor : Option ℕ) (d : CallerState) (stales : ℕ) → other ≢ caller → IsMine caller floor → IsUndoable other floor d → IsUndoable other (floor_after caller stales floor) d
undoable_taken caller other floor d stales apart mine u = record {
  outside = u.outside;
  stales = u.stales;
  fourth = λ four. absurd (elim mine [
    | inl none ↦ (let wrong : None ≡ Some other = sym none ∙ u.fourth four in cc)
    | inr own ↦ apart (sym (same_some caller other (sym own ∙ u.fourth four)))
  ]);
}

-- the one whose log is given back: it is outside, or begins anew
pub undoable_back : (caller : ℕ) (floor : Option ℕ) (d : CallerState) → IsUndoable caller floor (taken_back d)
undoable_back caller floor d = record { outside = λ out. (refl, refl, refl, refl); stales = omega arith; fourth = λ four. absurd (let wrong : 0 ≡ 4 = four in omega (arith, wrong)) }

-- the one that is stale
pub undoable_stale : (caller : ℕ) (floor : Option ℕ) (mine new : CallerState) → new.inside ≡ true → new.stales ≡ min (mine.stales + 1) 4 → IsUndoable caller (floor_after caller mine.stales floor) new
undoable_stale caller floor mine new inside count = record {
  outside = λ out. absurd (let wrong : true ≡ false = sym inside ∙ out in cc);
  stales = (let least = min-le_right (mine.stales + 1) 4 in omega (arith, count, least));
  fourth = λ is. (
      let least = min-le_left (mine.stales + 1) 4 in
      let four : 3 ≤ mine.stales = omega (arith, is, count, least) in
      let reached : nat_le 3 mine.stales ≡ true = grind (arith, nat_tests, four) in
      ap (λ b. if b then Some caller else floor) reached);
}

-- ---- calls in flight

-- a fault: no ticket is of the new incarnation
ticket_strikes : (caller : ℕ) (flight : Flight) (inside : Bool) (incarnation : ℕ) (running : Bool) (ticket : Option Ticket) → HasTicket caller flight inside running incarnation ticket → HasTicket caller flight inside false (incarnation + 1) ticket
ticket_strikes caller flight inside incarnation running None has = has
ticket_strikes caller flight inside incarnation running (Some ticket) has = (let low = has.before in record {
  caller_is = has.caller_is;
  ordinal = has.ordinal;
  moment = has.moment;
  before = omega (arith, low);
  present = λ now. absurd (omega (arith, low, now));
  running_is = λ within runs. absurd (let wrong : false ≡ true = runs in cc);
})

pub flying_strikes : (caller : ℕ) (inside running : Bool) (incarnation : ℕ) (answer : Option Reply) (flight : Option Flight) → IsFlying caller inside running incarnation answer flight → IsFlying caller inside false (incarnation + 1) answer flight
flying_strikes caller inside running incarnation answer None is = is
flying_strikes caller inside running incarnation answer (Some flight) is = record { ticket = ticket_strikes caller flight inside incarnation running flight.ticket is.ticket; logged = is.logged }

-- a call is unwound; and the volume runs again, with nobody inside
ticket_outside : (caller : ℕ) (flight : Flight) (inside now : Bool) (incarnation : ℕ) (ticket : Option Ticket) → HasTicket caller flight inside false incarnation ticket → HasTicket caller flight false now incarnation ticket
ticket_outside caller flight inside now incarnation None has = (refl, has.1)
ticket_outside caller flight inside now incarnation (Some ticket) has = record {
  caller_is = has.caller_is;
  ordinal = has.ordinal;
  moment = has.moment;
  before = has.before;
  present = λ at. absurd (let wrong : false ≡ true = (has.present at).1 in cc);
  running_is = λ within runs. absurd (let wrong : false ≡ true = within in cc);
}

pub flying_outside : (caller : ℕ) (inside now : Bool) (incarnation : ℕ) (answer : Option Reply) (flight : Option Flight) → IsFlying caller inside false incarnation answer flight → IsFlying caller false now incarnation answer flight
flying_outside caller inside now incarnation answer None is = refl
flying_outside caller inside now incarnation answer (Some flight) is = record { ticket = ticket_outside caller flight inside now incarnation flight.ticket is.ticket; logged = is.logged }

-- a call enters with a ticket of the present incarnation
pub flying_enters : (caller incarnation : ℕ) (answer : Option Reply) (flight : Flight) (ticket : Ticket) → flight.answered ≡ false → ticket.caller ≡ caller → ticket.ordinal ≡ flight.ordinal → ticket.moment ≡ flight.moment → ticket.incarnation ≡ incarnation
    → IsFlying caller true true incarnation answer (Some (record flight { ticket = Some ticket }))
flying_enters caller incarnation answer flight ticket unanswered whose number moment now = record {
  ticket = record { caller_is = whose; ordinal = number; moment = moment; before = omega (arith, now); present = λ at. (refl, refl); running_is = λ within runs. now };
  logged = λ answered. absurd (let wrong : false ≡ true = sym unanswered ∙ answered in cc);
}

-- it has its entry
pub flying_logs : (caller : ℕ) (inside running : Bool) (incarnation : ℕ) (answer : Option Reply) (given : Reply) (flight : Flight) (ticket : Ticket) → flight.ticket ≡ Some ticket → IsTicket caller flight inside running incarnation ticket
    → IsFlying caller inside running incarnation (Some given) (Some (record flight { answered = true }))
flying_logs caller inside running incarnation answer given flight ticket held is = record {
  ticket = subst (λ (o : Option Ticket). HasTicket caller (record flight { answered = true }) inside running incarnation o) (sym held)
      (record { caller_is = is.caller_is; ordinal = is.ordinal; moment = is.moment; before = is.before; present = is.present; running_is = is.running_is });
  logged = λ answered. refl;
}

-- a logged call has its answer at hand while the history grows
pub answered_grows : (caller : ℕ) (history : List Entry) (entry : Entry) (d : CallerState) → IsAnswered caller history d → IsAnswered caller (history ++ entry ∷ []) d
answered_grows caller history entry d is flight flies done =
    let one = is flight flies done in
    (one.0, Contains-append_left history (entry ∷ []) one.0 one.1, one.2, one.3, one.4)

-- ---- who may be inside, and the room for marks

pub inside_runs : (now : Stage) (inside : Bool) → inside ≡ false → MayBeInside now inside
inside_runs stage.Running inside out = tt
inside_runs stage.Struck inside out = tt
inside_runs stage.Again inside out = out
inside_runs stage.Dropped inside out = out
inside_runs stage.Remounted inside out = out
inside_runs (stage.Restored done) inside out = out
inside_runs stage.Failed inside out = out

-- nobody inside, where none is counted
pub none_inside : (callers : List CallerState) → EachCaller (λ caller d. d.inside ≡ false) callers → insiders callers ≡ 0
none_inside [] none = refl
none_inside (d ∷ callers) none =
    let first : one_if d.inside ≡ 0 = ap one_if (none 0 d refl) in
    let rest = none_inside callers (λ caller other is. none (suc caller) other is) in
    omega (arith, first, rest)

pub insiders_set : (callers : List CallerState) (at : ℕ) (mine new : CallerState) → slice_get callers at ≡ Some mine → insiders (slice_set callers at new) + one_if mine.inside ≡ insiders callers + one_if new.inside
insiders_set callers at mine new has = total_set (λ (d : CallerState). one_if d.inside) callers at mine new has

-- a call inside is counted
pub some_inside : (callers : List CallerState) (at : ℕ) (mine : CallerState) → slice_get callers at ≡ Some mine → mine.inside ≡ true → 1 ≤ insiders callers
some_inside [] at mine has within = absurd (let wrong : None ≡ Some mine = has in cc)
some_inside (d ∷ callers) zero mine has within = let one : one_if d.inside ≡ 1 = ap (λ (x : CallerState). one_if x.inside) (same_some d mine has) ∙ ap one_if within in omega (arith, one)
some_inside (d ∷ callers) (suc at) mine has within = let rest = some_inside callers at mine has within in omega (arith, rest)

-- a call leaves: its mark
pub marks_leave : (inside fewer : ℕ) (room left : JournalRoom) → fewer + 1 ≡ inside → room.trail ≤ left.trail + 1 → room.records ≤ left.records → HasMarks stage.Running inside room → HasMarks stage.Running fewer left
marks_leave inside fewer room left one trail records has some = let both = has (omega (arith, one, some)) in let t = both.0 in let r = both.1 in (omega (arith, t, one, trail), omega (arith, r, records))

-- a fault on a running volume: its mark and its record, by a call inside
pub marks_strike : (inside : ℕ) (room left : JournalRoom) → 1 ≤ inside → room.trail ≤ left.trail + 1 → HasMarks stage.Running inside room → HasMarks stage.Struck inside left
marks_strike inside room left some trail has = let both = (has some).0 in omega (arith, both, trail)

pub marks_unwind : (inside fewer : ℕ) (room left : JournalRoom) → fewer + 1 ≡ inside → room.trail ≤ left.trail + 1 → HasMarks stage.Struck inside room → HasMarks stage.Struck fewer left
marks_unwind inside fewer room left one trail has = omega (arith, has, one, trail)

-- ---- stamps

-- one install for an entry
pub stamps_log : (view : ℕ → List ℕ) (old : Stamps) (entries faults : ℕ) (new : Stamps) → ((block : ℕ) → stamp_of new block ≤ stamp_of old block + 1) → StampsAreFew true entries faults 0 old → StampsAreFew true (entries + 1) faults 0 new
stamps_log view old entries faults new rise few block = let up = rise block in let was = few block in omega (arith, up, was)

pub stamps_strike : (entries faults : ℕ) (stamps : Stamps) → StampsAreFew true entries faults 0 stamps → StampsAreFew false entries (faults + 1) 0 stamps
stamps_strike entries faults stamps few block = let was = few block in omega (arith, was)

-- one operation of the log
pub stamps_replay : (entries faults done : ℕ) (old new : Stamps) → ((block : ℕ) → stamp_of new block ≤ stamp_of old block + 1) → StampsAreFew false entries faults done old → StampsAreFew false entries faults (done + 1) new
stamps_replay entries faults done old new rise few block = let up = rise block in let was = few block in omega (arith, up, was)

-- a fault in a recovery
pub stamps_again : (entries faults done : ℕ) (stamps : Stamps) → done ≤ 4294967296 → StampsAreFew false entries faults done stamps → StampsAreFew false entries (faults + 1) 0 stamps
stamps_again entries faults done stamps low few block = let was = few block in omega (arith, was, low)

pub stamps_resume : (entries faults done : ℕ) (stamps : Stamps) → done ≤ 4294967296 → StampsAreFew false entries faults done stamps → StampsAreFew true entries faults 0 stamps
stamps_resume entries faults done stamps low few block = let was = few block in omega (arith, was, low)
