-- What the steps of one caller leave of the others, one after another.
use Rattle.std.proofs.Common.{◌≡◌, ◌≢◌, ◌⊎◌, [], ◌∷◌, ◌++◌, ℕ, ◌+◌, inl, inr, refl, ap, sym, ◌∙◌, arith, append_assoc, length, length-append, None, Some}
use Rattle.std.proofs.Common.{List, cond, nat_eq}
use Rattle.std.specs.List.{AllByRecursion}
use Rattle.std.proofs.lemmas.List.{append-nil}
use Rattle.std.proofs.lemmas.List.Elements.{filter-append}
use Rattle.mb_run.proofs.Lists.{neq}
use Rattle.mb_kinds.specs.Own.{own}
use Rattle.mb_kinds.specs.declared.entries.Entry.{Entry}
use Rattle.mb_kinds.specs.declared.faults.FaultRecord.{FaultRecord}
use Rattle.mb_kinds.specs.declared.faults.Kind.{Kind}
use Rattle.mb_kinds.specs.declared.faults.Ticket.{Ticket}
use Rattle.mb_run.specs.Events.{LeavesOthersAlone, StrikesCall}
use Rattle.mb_run.specs.Served.{ActsAlone}
use Rattle.mb_run.specs.Firsts.{KeepsFirsts}
use Rattle.mb_run.specs.Seals.{TrailGoesOn}
use Rattle.mb_run.specs.Sights.{Sight}
use Rattle.mb_run.proofs.Firsts.{firsts_same, firsts_still, firsts_then}
use Rattle.mb_run.proofs.Lists.{all_both}
use Rattle.mb_run.proofs.Trails.{trail_marks, trail_same, trail_then}

pub acts_same : (caller : ℕ) (s : Sight) → ActsAlone caller s s
acts_same caller s = record {
  config = refl;
  seats = λ other apart. refl;
  own = λ other apart. refl;
  entries = [];
  grown = sym (append-nil s.history);
  theirs = tt;
  more = [];
  records = sym (append-nil s.records);
  mine = tt;
  later = omega arith;
  runs = λ same running. running;
  copies = λ same running other apart. refl;
  stales = λ same running other apart. refl;
  calm = λ same. refl;
  floor = inr (inr refl);
  firsts = firsts_same s;
  trail = trail_same s.trail;
}

pub acts_then : (caller : ℕ) (a b d : Sight) → ActsAlone caller a b → ActsAlone caller b d → ActsAlone caller a d
acts_then caller a b d one two = record {
  config = two.config ∙ one.config;
  seats = λ other apart. two.seats other apart ∙ one.seats other apart;
  own = λ other apart. two.own other apart ∙ one.own other apart;
  entries = one.entries ++ two.entries;
  grown = two.grown ∙ ap (λ es. es ++ two.entries) one.grown ∙ append_assoc a.history one.entries two.entries;
  theirs = all_both (λ (entry : Entry). entry.caller ≡ caller) one.entries two.entries one.theirs two.theirs;
  more = one.more ++ two.more;
  records = two.records ∙ ap (λ rs. rs ++ two.more) one.records ∙ append_assoc a.records one.more two.more;
  mine = all_both (λ (fault : FaultRecord). fault.caller ≡ caller) one.more two.more one.mine two.mine;
  later = omega (arith, one.later, two.later);
  runs = λ same running.
      (let first : b.incarnation ≡ a.incarnation = omega (arith, one.later, two.later) in let second : d.incarnation ≡ b.incarnation = omega (arith, one.later, two.later) in
      two.runs second (one.runs first running));
  copies = λ same running other apart.
      (let first : b.incarnation ≡ a.incarnation = omega (arith, one.later, two.later) in let second : d.incarnation ≡ b.incarnation = omega (arith, one.later, two.later) in
      two.copies second (one.runs first running) other apart ∙ one.copies first running other apart);
  stales = λ same running other apart.
      (let first : b.incarnation ≡ a.incarnation = omega (arith, one.later, two.later) in let second : d.incarnation ≡ b.incarnation = omega (arith, one.later, two.later) in
      two.stales second (one.runs first running) other apart ∙ one.stales first running other apart);
  calm = λ same.
      (let first : length b.records ≡ length a.records + length one.more = ap length one.records ∙ length-append a.records one.more in
      let second : length d.records ≡ length b.records + length two.more = ap length two.records ∙ length-append b.records two.more in
      let here : length b.records ≡ length a.records = omega arith in let there : length d.records ≡ length b.records = omega arith in two.calm there ∙ one.calm here);
  floor = elim two.floor [ inl none ↦ inl none | inr rest ↦ elim rest [ inl mine ↦ inr (inl mine) | inr same ↦ elim one.floor [ inl none ↦ inl (same ∙ none) | inr more ↦ elim more [ inl mine ↦ inr (inl (same ∙ mine)) | inr still ↦ inr (inr (same ∙ still)) ] ] ] ];
  firsts = firsts_then a b d one.config one.firsts two.firsts;
  trail = trail_then a.trail b.trail d.trail one.trail two.trail;
}

-- others have no entry among those of one caller
own_apart : (entries : List Entry) (caller other : ℕ) → other ≢ caller → AllByRecursion (λ (entry : Entry). entry.caller ≡ caller) entries → own entries other ≡ []
own_apart [] caller other apart theirs = refl
own_apart (entry ∷ entries) caller other apart theirs =
    ap (λ b. cond b (entry ∷ own entries other) (own entries other)) (neq entry.caller other (λ same. apart (sym same ∙ theirs.0))) ∙ own_apart entries caller other apart theirs.1

acts_grown : (caller : ℕ) (old new : Sight) (entries : List Entry) → LeavesOthersAlone caller old new → new.history ≡ old.history ++ entries → AllByRecursion (λ (entry : Entry). entry.caller ≡ caller) entries
    → (new.floor ≡ None) ⊎ (new.floor ≡ Some caller) ⊎ (new.floor ≡ old.floor) → KeepsFirsts old new → TrailGoesOn old.trail new.trail → ActsAlone caller old new
acts_grown caller old new entries stays grown theirs floor firsts trail = record {
  config = stays.config;
  seats = stays.seats;
  own = λ other apart. ap (λ h. own h other) grown ∙ filter-append (λ (e : Entry). nat_eq e.caller other) old.history entries ∙ ap (λ es. own old.history other ++ es) (own_apart entries caller other apart theirs) ∙ append-nil (own old.history other);
  entries = entries;
  grown = grown;
  theirs = theirs;
  more = [];
  records = stays.records ∙ sym (append-nil old.records);
  mine = tt;
  later = omega (arith, stays.incarnation);
  runs = λ same running. stays.stage ∙ running;
  copies = λ same running other apart. stays.copies other apart;
  stales = λ same running other apart. stays.stales other apart;
  calm = λ same. stays.incarnation;
  floor = floor;
  firsts = firsts;
  trail = trail;
}

pub acts_stays : (caller : ℕ) (old new : Sight) → LeavesOthersAlone caller old new → new.history ≡ old.history → (new.floor ≡ None) ⊎ (new.floor ≡ Some caller) ⊎ (new.floor ≡ old.floor) → KeepsFirsts old new → TrailGoesOn old.trail new.trail → ActsAlone caller old new
acts_stays caller old new stays history floor firsts trail = acts_grown caller old new [] stays (history ∙ sym (append-nil old.history)) tt floor firsts trail

pub acts_entry : (caller : ℕ) (old new : Sight) (entry : Entry) → LeavesOthersAlone caller old new → entry.caller ≡ caller → new.history ≡ old.history ++ entry ∷ []
    → (new.floor ≡ None) ⊎ (new.floor ≡ Some caller) ⊎ (new.floor ≡ old.floor) → KeepsFirsts old new → TrailGoesOn old.trail new.trail → ActsAlone caller old new
acts_entry caller old new entry stays mine more floor firsts trail = acts_grown caller old new (entry ∷ []) stays more (mine, tt) floor firsts trail

pub acts_strikes : (caller : ℕ) (old new : Sight) (ticket : Ticket) (kind : Kind) (nth : ℕ) → ticket.caller ≡ caller → StrikesCall old new ticket kind nth → ActsAlone caller old new
acts_strikes caller old new ticket kind nth mine strikes = record {
  config = strikes.config;
  seats = λ other apart. strikes.seats other;
  own = λ other apart. ap (λ h. own h other) strikes.counts.history;
  entries = [];
  grown = strikes.counts.history ∙ sym (append-nil old.history);
  theirs = tt;
  more = record { caller = ticket.caller; ordinal = ticket.ordinal; kind = kind; nth = nth } ∷ [];
  records = strikes.records;
  mine = (mine, tt);
  later = omega (arith, strikes.incarnation);
  runs = λ same running. absurd (omega (arith, strikes.incarnation));
  copies = λ same running other apart. absurd (omega (arith, strikes.incarnation));
  stales = λ same running other apart. absurd (omega (arith, strikes.incarnation));
  calm = λ same. absurd (omega (arith, same, ap length strikes.records, length-append old.records (record { caller = ticket.caller; ordinal = ticket.ordinal; kind = kind; nth = nth } ∷ [])));
  floor = inr (inr strikes.floor);
  firsts = firsts_still old new strikes.counts.history strikes.counts.begun strikes.seats;
  trail = trail_marks old.trail new.trail strikes.log.trail;
}
