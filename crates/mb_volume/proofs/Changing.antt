-- What one caller's event changes, and what it leaves to the others.
use Rattle.std.proofs.Common.{◌≡◌, ◌≢◌, List, [], ◌∷◌, ◌++◌, ℕ, ◌<◌, ◌≤◌, Bool, true, false, cond, nat_eq, refl, ap, sym, ◌∙◌, subst, arith, Some}
use Rattle.std.specs.Prelude.{IsSome, nat_lt}
use Rattle.std.proofs.lemmas.Bool.{eq-eqb, lt-ltb, ltb-true}
use Rattle.std.proofs.lemmas.List.{append-nil}
use Rattle.std.proofs.lemmas.List.Elements.{filter-append}
use Rattle.std.proofs.lemmas.Option.{same_Some}
use Rattle.std.specs.List.{AllByRecursion}
use Rattle.mb_kinds.specs.Own.{own}
use Rattle.mb_kinds.specs.declared.entries.Entry.{Entry}
use Rattle.mb_kinds.specs.declared.entries.Stand.{Stand}
use Rattle.mb_kinds.specs.declared.faults.FaultRecord.{FaultRecord}
use Rattle.mb_core_spec.specs.State.{records_of}
use Rattle.mb_run.proofs.Lists.{neq}
use Rattle.mb_run.specs.Events.{LeavesOthersAlone}
use Rattle.mb_run.specs.Sights.{Limits, SightSeat, Sight, amiss_in}
use Rattle.mb_volume.specs.Parts.{MovesPart, Part, part_of, stand_if, stand_in}

-- ---- fault records

pub records_push : (records : List FaultRecord) (fault : FaultRecord) (caller : ℕ) → fault.caller ≡ caller → records_of (records ++ fault ∷ []) caller ≡ records_of records caller ++ fault ∷ []
records_push records fault caller same =
    filter-append (λ (r : FaultRecord). nat_eq r.caller caller) records (fault ∷ []) ∙ ap (λ b. records_of records caller ++ cond b (fault ∷ []) []) (eq-eqb fault.caller caller same)

-- a caller has none of another's
records_apart : (more : List FaultRecord) (caller other : ℕ) → other ≢ caller → AllByRecursion (λ (fault : FaultRecord). fault.caller ≡ caller) more → records_of more other ≡ []
records_apart [] caller other apart theirs = refl
records_apart (fault ∷ more) caller other apart theirs =
    ap (λ b. cond b (fault ∷ records_of more other) (records_of more other)) (neq fault.caller other (λ same. apart (sym same ∙ theirs.0))) ∙ records_apart more caller other apart theirs.1

pub records_others : (old new : Sight) (caller other : ℕ) → other ≢ caller → MovesPart caller old new → records_of new.records other ≡ records_of old.records other
records_others old new caller other apart moves =
    ap (λ rs. records_of rs other) moves.records ∙ filter-append (λ (r : FaultRecord). nat_eq r.caller other) old.records moves.more
    ∙ ap (λ rs. records_of old.records other ++ rs) (records_apart moves.more caller other apart moves.theirs) ∙ append-nil (records_of old.records other)

-- ---- the stands of the others, and of the caller

pub others_stand : (old new : Sight) (caller : ℕ) → MovesPart caller old new → (other : ℕ) → other ≢ caller → stand_in new other ≡ stand_in old other
others_stand old new caller moves other apart =
    ap (λ (l : Limits). stand_if (nat_lt other l.callers) (new.seats other) (records_of new.records other)) moves.config
    ∙ ap (λ (s : SightSeat). stand_if (nat_lt other old.config.callers) s (records_of new.records other)) (moves.seats other apart)
    ∙ ap (λ (rs : List FaultRecord). stand_if (nat_lt other old.config.callers) (old.seats other) rs) (records_others old new caller other apart moves)

abbrev pub stand_made : Sight → ℕ → Stand
stand_made sight caller = record { begun = (sight.seats caller).begun; flight = (sight.seats caller).flight; struck = records_of sight.records caller }

pub stands_declared : (sight : Sight) (caller : ℕ) → caller < sight.config.callers → stand_in sight caller ≡ Some (stand_made sight caller)
stands_declared sight caller low = ap (λ b. stand_if b (sight.seats caller) (records_of sight.records caller)) (lt-ltb caller sight.config.callers low)

pub has_stand : (sight : Sight) (caller : ℕ) → caller < sight.config.callers → IsSome (stand_in sight caller)
has_stand sight caller low = subst IsSome (sym (stands_declared sight caller low)) refl

declared_if : (b : Bool) (seat : SightSeat) (struck : List FaultRecord) → IsSome (stand_if b seat struck) → b ≡ true
declared_if true seat struck some = refl
declared_if false seat struck some = some

pub is_declared : (sight : Sight) (caller : ℕ) → IsSome (stand_in sight caller) → caller < sight.config.callers
is_declared sight caller some = ltb-true caller sight.config.callers (declared_if (nat_lt caller sight.config.callers) (sight.seats caller) (records_of sight.records caller) some)

-- ---- a caller's part stays as it is while others have the turn

pub part_is : (one other : Part) → one.entries ≡ other.entries → one.seat ≡ other.seat → one.struck ≡ other.struck → one.config ≡ other.config → one ≡ other
part_is one other entries seat struck config =
    ap (λ es. record { entries = es; seat = one.seat; struck = one.struck; config = one.config }) entries
    ∙ ap (λ s. record { entries = other.entries; seat = s; struck = one.struck; config = one.config }) seat
    ∙ ap (λ rs. record { entries = other.entries; seat = other.seat; struck = rs; config = one.config }) struck
    ∙ ap (λ l. record { entries = other.entries; seat = other.seat; struck = other.struck; config = l }) config

pub part_follows : (saw now : Sight) (caller : ℕ) → caller < saw.config.callers → now.config ≡ saw.config → own now.history caller ≡ own saw.history caller → stand_in now caller ≡ stand_in saw caller
    → part_of now caller ≡ part_of saw caller
part_follows saw now caller low config entries stand =
    let there : caller < now.config.callers = subst (λ (l : Limits). caller < l.callers) (sym config) low in
    let same : stand_made now caller ≡ stand_made saw caller = same_Some _ _ (sym (stands_declared now caller there) ∙ stand ∙ stands_declared saw caller low) in
    part_is (part_of now caller) (part_of saw caller) entries (ap (λ (s : Stand). record { begun = s.begun; flight = s.flight }) same) (ap (λ (s : Stand). s.struck) same) config

-- ---- kinds of change

pub moves_same : (caller : ℕ) (s : Sight) → MovesPart caller s s
moves_same caller s = record {
  config = refl;
  seats = λ other apart. refl;
  entries = record { new = []; whole = sym (append-nil s.history); all_own = tt };
  more = [];
  records = sym (append-nil s.records);
  theirs = tt;
  seals = omega arith;
}

pub moves_stays : (caller : ℕ) (old new : Sight) → LeavesOthersAlone caller old new → new.history ≡ old.history → amiss_in new ≤ amiss_in old → MovesPart caller old new
moves_stays caller old new stays history seals = record {
  config = stays.config;
  seats = stays.seats;
  entries = record { new = []; whole = history ∙ sym (append-nil old.history); all_own = tt };
  more = [];
  records = stays.records ∙ sym (append-nil old.records);
  theirs = tt;
  seals = seals;
}

pub moves_entry : (caller : ℕ) (old new : Sight) (entry : Entry) → LeavesOthersAlone caller old new → entry.caller ≡ caller → new.history ≡ old.history ++ entry ∷ [] → amiss_in new ≤ amiss_in old → MovesPart caller old new
moves_entry caller old new entry stays mine history seals = record {
  config = stays.config;
  seats = stays.seats;
  entries = record { new = entry ∷ []; whole = history; all_own = (mine, tt) };
  more = [];
  records = stays.records ∙ sym (append-nil old.records);
  theirs = tt;
  seals = seals;
}

pub moves_records : (caller : ℕ) (old new : Sight) (more : List FaultRecord) → new.config ≡ old.config → ((other : ℕ) → new.seats other ≡ old.seats other) → new.history ≡ old.history → new.records ≡ old.records ++ more
    → AllByRecursion (λ (fault : FaultRecord). fault.caller ≡ caller) more → amiss_in new ≤ amiss_in old → MovesPart caller old new
moves_records caller old new more config seats history records theirs seals = record {
  config = config;
  seats = λ other apart. seats other;
  entries = record { new = []; whole = history ∙ sym (append-nil old.history); all_own = tt };
  more = more;
  records = records;
  theirs = theirs;
  seals = seals;
}
