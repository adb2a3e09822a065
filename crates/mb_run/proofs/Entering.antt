-- A caller whose calls enter: what each event leaves of how often, and of the faults that it took there.
use Rattle.std.proofs.Common.{◌≡◌, ◌≢◌, List, [], ◌∷◌, ◌++◌, ℕ, ◌+◌, ◌<◌, ◌≤◌, Bool, true, false, cond, inl, inr, refl, ap, sym, subst, ◌∙◌, arith, Option, IfSome}
use Rattle.std.specs.List.{AllByRecursion}
use Rattle.mb_edge.specs.Crossings.{next_nth, place_of}
use Rattle.mb_edge.specs.declared.crossings.Crossing.{Crossing}
use Rattle.mb_edge.specs.declared.crossings.Crossings.{Crossings}
use Rattle.mb_kinds.specs.declared.entries.Entry.{Entry}
use Rattle.mb_kinds.specs.declared.faults.FaultRecord.{FaultRecord}
use Rattle.mb_kinds.specs.declared.faults.Kind.{Kind}
use Rattle.mb_kinds.specs.declared.faults.Kind.TheVariants.{Enter, Gather, Finish, Leave, Remount, Replay}
use Rattle.mb_kinds.specs.declared.faults.Ticket.{Ticket}
use Rattle.mb_plan.specs.Fires.{same_kind}
use Rattle.mb_run.specs.Entering.{EntersSoFar, HasEnteredPast}
use Rattle.mb_run.specs.Runs.{TakesUpTo, TakesWhereItEntered, is_plain, strikes_inside}
use Rattle.mb_run.specs.Served.{AreSixCounts, IsCounted, counted}
use Rattle.mb_run.specs.Sights.{one_if}
use Rattle.mb_run.specs.Tallies.{count_of, has_entered, is_in}
use Rattle.mb_run.specs.declared.runner.At.{At}
use Rattle.mb_run.specs.declared.runner.At.TheVariants as at
use Rattle.mb_run.proofs.Counting.{counted_goes, same_or_not}
use Rattle.mb_run.proofs.Lists.{all_both, all_map}
use Rattle.mb_run.proofs.Once.{none_counted, one_apart, one_most, others_fault, strikes_apart}
use Rattle.mb_run.proofs.TallyRecords.{counted_more, counted_there, fault_at, kind_go, kind_struck, strikes_more, up_to_less, up_to_none, up_to_on}
use Rattle.mb_run.proofs.Twice.{all_inside, is_inside, is_own_kind}

-- ---- where a call stands

-- once it is outside it counts no more than before
outside_least : (answered : Bool) (stand : At) → has_entered answered at.Outside ≤ has_entered answered stand
outside_least true stand = omega arith
outside_least false stand = omega arith

outside_is : (answered : Bool) → has_entered answered at.Outside ≡ one_if answered
outside_is true = refl
outside_is false = refl

-- inside, or with its entry, it counts as one
pub entered_in : (answered : Bool) (stand : At) → is_in stand ≡ 1 → has_entered answered stand ≡ 1
entered_in true stand is = refl
entered_in false stand is = is

-- ---- entries so far

module _ (test : Option (Crossing → Bool)) (was now : List FaultRecord) (before after : Crossings) (same : after.caller ≡ before.caller)
    (stays : (caller ordinal most : ℕ) → TakesUpTo test was caller ordinal Enter most → TakesUpTo test now caller ordinal Enter most) where
  pub entries_move : (had has : Bool) (history : List Entry) → before.ordinal + one_if had ≤ after.ordinal + one_if has
      → ((entry : Entry) → entry.ordinal < before.ordinal + one_if had → entry.caller ≡ before.caller → strikes_inside now entry.caller entry.ordinal ≡ strikes_inside was entry.caller entry.ordinal)
      → AllByRecursion (HasEnteredPast test was before had) history → AllByRecursion (HasEnteredPast test now after has) history
  entries_move had has history later strikes all = all_map (HasEnteredPast test was before had) (HasEnteredPast test now after has) history (λ entry is mine. (
      let past = is (mine ∙ same) in
      let low = past.0 in
      let kept = strikes entry low (mine ∙ same) in
      let plain : ℕ = one_if (is_plain entry.reply) in (
        omega (arith, low, later),
        up_to_less test now entry.caller entry.ordinal Enter (strikes_inside was entry.caller entry.ordinal + plain) (strikes_inside now entry.caller entry.ordinal + plain) (omega (arith, kept))
            (stays entry.caller entry.ordinal (strikes_inside was entry.caller entry.ordinal + plain) past.1),
      ))) all

module _ (test : Option (Crossing → Bool)) (records : List FaultRecord) (history : List Entry) (crossings : Crossings) (answered : Bool) (stand : At) (so_far : EntersSoFar test records history crossings answered stand) where
  -- it has to enter again
  pub enters_back : EntersSoFar test records history crossings answered at.Outside
  enters_back = record {
    often = (let many = so_far.often in let less = outside_least answered stand in omega (arith, many, less));
    taken = so_far.taken;
    past = so_far.past;
  }

  -- it gets its entry, whatever the reply
  pub own_taken : (entry : Entry) → entry.caller ≡ crossings.caller → entry.ordinal ≡ crossings.ordinal → one_if (is_plain entry.reply) ≤ has_entered answered stand → TakesWhereItEntered test records entry
  own_taken entry caller ordinal plain =
      let many = so_far.often in
      let p : ℕ = one_if (is_plain entry.reply) in
      let own : TakesUpTo test records crossings.caller crossings.ordinal Enter (strikes_inside records crossings.caller crossings.ordinal + p) =
      up_to_less test records crossings.caller crossings.ordinal Enter (count_of crossings Enter) (strikes_inside records crossings.caller crossings.ordinal + p) (omega (arith, many, plain)) so_far.taken in
      subst (λ n. TakesUpTo test records n entry.ordinal Enter (strikes_inside records n entry.ordinal + p)) (sym caller)
      (subst (λ n. TakesUpTo test records crossings.caller n Enter (strikes_inside records crossings.caller n + p)) (sym ordinal) own)

  -- where it stood inside
  pub enters_logged : (ticket : Ticket) (entry : Entry) → is_in stand ≡ 1 → entry.caller ≡ crossings.caller → entry.ordinal ≡ crossings.ordinal → EntersSoFar test records (history ++ entry ∷ []) crossings true (at.Logged ticket)
  enters_logged ticket entry inside caller ordinal =
      let one = entered_in answered stand inside in
      let most = one_most (is_plain entry.reply) in
      let few = one_most answered in
      record {
        often = (let many = so_far.often in omega (arith, many, one));
        taken = so_far.taken;
        past = all_both (HasEnteredPast test records crossings true) history (entry ∷ [])
            (entries_move test records records crossings crossings refl (λ c o most taken. taken) answered true history (omega (arith, few)) (λ other low mine. refl) so_far.past)
            (λ mine. (omega (arith, ordinal), own_taken entry caller ordinal (omega (arith, most, one))), tt);
      }

  -- before the next call, of which no record tells
  pub enters_next : AllByRecursion (IsCounted crossings) records → (next : Crossings) → next.caller ≡ crossings.caller → next.ordinal ≡ crossings.ordinal + 1 → count_of next Enter ≡ 0 → (now : List Entry)
      → AllByRecursion (HasEnteredPast test records next false) now → EntersSoFar test records now next false at.Outside
  enters_next all next caller ordinal none now past =
      let many = all_inside next.caller next.ordinal records in
      let apart = none_counted (is_inside next.caller next.ordinal) records (all_map (IsCounted crossings) (λ (fault : FaultRecord). is_inside next.caller next.ordinal fault ≡ false) records later all) in
      record {
        often = omega (arith, many, apart, none);
        taken = subst (TakesUpTo test records next.caller next.ordinal Enter) (sym none) (up_to_none test records next.caller next.ordinal Enter);
        past = past;
      }
    where
      later : (fault : FaultRecord) → IsCounted crossings fault → is_inside next.caller next.ordinal fault ≡ false
      later fault is = elim (same_or_not fault.caller next.caller) [
        | inl mine ↦ one_apart next.caller next.ordinal fault (λ here. absurd (elim (is (mine ∙ caller)) [
          | inl earlier ↦ omega (arith, earlier, here, ordinal)
          | inr own ↦ (let now = own.0 in omega (arith, now, here, ordinal))
        ]))
        | inr theirs ↦ others_fault next.caller next.ordinal fault theirs
      ]

  -- the entries so far, for it
  pub entries_next : (next : Crossings) → next.caller ≡ crossings.caller → next.ordinal ≡ crossings.ordinal + 1 → AllByRecursion (HasEnteredPast test records next false) history
  entries_next next caller ordinal =
      let few = one_most answered in
      entries_move test records records crossings next caller (λ c o most taken. taken) answered false history (omega (arith, few, ordinal)) (λ entry low mine. refl) so_far.past

  -- later crossings of the same call, which entered no more; the records may have grown, but by none that counts
  pub enters_on : (now : List FaultRecord) (later : Crossings) → later.caller ≡ crossings.caller → later.ordinal ≡ crossings.ordinal → count_of later Enter ≡ count_of crossings Enter
      → ((caller ordinal most : ℕ) → TakesUpTo test records caller ordinal Enter most → TakesUpTo test now caller ordinal Enter most)
      → ((caller ordinal : ℕ) → caller ≡ crossings.caller → strikes_inside now caller ordinal ≡ strikes_inside records caller ordinal) → EntersSoFar test now history later answered stand
  enters_on now later caller ordinal count stays kept =
      let here : strikes_inside now later.caller later.ordinal ≡ strikes_inside records crossings.caller crossings.ordinal =
      ap (λ n. strikes_inside now n later.ordinal) caller ∙ ap (strikes_inside now crossings.caller) ordinal ∙ kept crossings.caller crossings.ordinal refl in
      record {
        often = (let many = so_far.often in omega (arith, many, here, count));
        taken = subst (λ n. TakesUpTo test now n later.ordinal Enter (count_of later Enter)) (sym caller)
            (subst (λ n. TakesUpTo test now crossings.caller n Enter (count_of later Enter)) (sym ordinal)
            (subst (TakesUpTo test now crossings.caller crossings.ordinal Enter) (sym count) (stays crossings.caller crossings.ordinal (count_of crossings Enter) so_far.taken)));
        past = entries_move test records now crossings later caller stays answered answered history (omega (arith, ordinal)) (λ entry low mine. kept entry.caller entry.ordinal mine) so_far.past;
      }

  -- ---- it comes to its next fault point of a kind

  module _ (kind : Kind) (are : AreSixCounts crossings) where
    -- where no fault comes
    pub enters_past : IfSome test (λ fires. fires (record { caller = crossings.caller; ordinal = crossings.ordinal; kind = kind; nth = next_nth crossings.counts kind }) ≡ false)
        → EntersSoFar test records history (counted crossings kind) answered stand
    enters_past unfired = record {
      often = (let many = so_far.often in let more = (counted_goes crossings kind are).counts Enter in omega (arith, many, more));
      taken = kind_go crossings kind are test records Enter so_far.taken unfired;
      past = so_far.past;
    }

    -- another one than where it enters
    pub enters_by : place_of Enter ≢ place_of kind → EntersSoFar test records history (counted crossings kind) answered stand
    enters_by apart = enters_on records (counted crossings kind) refl refl (counted_there crossings kind are Enter apart) (λ c o most taken. taken) (λ c o mine. refl)

    abbrev struck : List FaultRecord
    struck = records ++ fault_at crossings kind (next_nth crossings.counts kind) ∷ []

    -- one fault more at most
    struck_most : strikes_inside struck crossings.caller crossings.ordinal ≤ strikes_inside records crossings.caller crossings.ordinal + 1
    struck_most =
        let nth : ℕ = next_nth crossings.counts kind in
        let one = once kind in
        let e = strikes_more records crossings kind nth Enter in
        let g = strikes_more records crossings kind nth Gather in
        let f = strikes_more records crossings kind nth Finish in
        omega (arith, one, e, g, f)
      where
        once : (of : Kind) → cond (same_kind of Enter) 1 0 + (cond (same_kind of Gather) 1 0 + cond (same_kind of Finish) 1 0) ≤ 1
        once Enter = omega arith
        once Gather = omega arith
        once Finish = omega arith
        once Leave = omega arith
        once Remount = omega arith
        once Replay = omega arith

    -- it counts for no earlier call
    struck_apart : (caller ordinal : ℕ) → (crossings.ordinal ≡ ordinal → is_own_kind kind ≡ false) → strikes_inside struck caller ordinal ≡ strikes_inside records caller ordinal
    struck_apart caller ordinal other =
        let fault : FaultRecord = fault_at crossings kind (next_nth crossings.counts kind) in
        strikes_apart records (fault ∷ []) caller ordinal (one_apart caller ordinal fault other, tt)

    struck_entries : (answered ≡ true → is_own_kind kind ≡ false) → AllByRecursion (HasEnteredPast test struck (counted crossings kind) answered) history
    struck_entries fits = entries_move test records struck crossings (counted crossings kind) refl (λ c o most taken. up_to_on test records (fault_at crossings kind (next_nth crossings.counts kind) ∷ []) c o Enter most taken) answered answered history (omega arith)
        (λ entry low mine. struck_apart entry.caller entry.ordinal (λ here. fits (answered_by answered entry.ordinal low here))) so_far.past
      where
        answered_by : (has : Bool) (one : ℕ) → one < crossings.ordinal + one_if has → crossings.ordinal ≡ one → has ≡ true
        answered_by true one low same = refl
        answered_by false one low same = absurd (omega (arith, low, same))

    -- a fault strikes it inside, or with its entry
    pub enters_struck : place_of Enter ≢ place_of kind → is_in stand ≡ 1 → (answered ≡ true → is_own_kind kind ≡ false) → EntersSoFar test struck history (counted crossings kind) answered at.Outside
    enters_struck apart inside fits =
        let one = entered_in answered stand inside in
        let many = so_far.often in
        let count = counted_there crossings kind are Enter apart in
        record {
          often = by_answer answered fits one many count;
          taken = kind_struck crossings kind are test records Enter so_far.taken;
          past = struck_entries fits;
        }
      where
        by_answer : (has : Bool) → (has ≡ true → is_own_kind kind ≡ false) → has_entered answered stand ≡ 1 → strikes_inside records crossings.caller crossings.ordinal + has_entered answered stand ≤ count_of crossings Enter
            → count_of (counted crossings kind) Enter ≡ count_of crossings Enter → strikes_inside struck crossings.caller crossings.ordinal + has_entered has at.Outside ≤ count_of (counted crossings kind) Enter
        by_answer true not one many count = let same = struck_apart crossings.caller crossings.ordinal (λ here. not refl) in omega (arith, same, one, many, count)
        by_answer false not one many count = let most = struck_most in omega (arith, most, one, many, count)

-- ---- where it enters

module _ (test : Option (Crossing → Bool)) (records : List FaultRecord) (history : List Entry) (crossings : Crossings) (are : AreSixCounts crossings) (once : strikes_inside records crossings.caller crossings.ordinal ≤ 1)
    (so_far : EntersSoFar test records history crossings false at.Outside) where
  counted_one : strikes_inside records crossings.caller crossings.ordinal + 1 ≤ count_of (counted crossings Enter) Enter
  counted_one =
      let many = so_far.often in
      counted_more crossings Enter are (strikes_inside records crossings.caller crossings.ordinal) (omega (arith, many)) (omega (arith, once))

  -- it goes in
  pub enters_in : (stand : At) → is_in stand ≡ 1 → IfSome test (λ fires. fires (record { caller = crossings.caller; ordinal = crossings.ordinal; kind = Enter; nth = next_nth crossings.counts Enter }) ≡ false)
      → EntersSoFar test records history (counted crossings Enter) false stand
  enters_in stand inside unfired = record {
    often = (let one = entered_in false stand inside in let more = counted_one in omega (arith, one, more));
    taken = kind_go crossings Enter are test records Enter so_far.taken unfired;
    past = so_far.past;
  }

  -- a fault strikes it there
  pub enters_struck_there : EntersSoFar test (records ++ fault_at crossings Enter (next_nth crossings.counts Enter) ∷ []) history (counted crossings Enter) false at.Outside
  enters_struck_there =
      let nth : ℕ = next_nth crossings.counts Enter in
      let e = strikes_more records crossings Enter nth Enter in
      let g = strikes_more records crossings Enter nth Gather in
      let f = strikes_more records crossings Enter nth Finish in
      record {
        often = (let more = counted_one in omega (arith, e, g, f, more));
        taken = kind_struck crossings Enter are test records Enter so_far.taken;
        past = struck_entries test records history crossings false at.Outside so_far Enter are (λ wrong. absurd (let no : false ≡ true = wrong in cc));
      }

-- ---- what others do

pub others_enter : (test : Option (Crossing → Bool)) (records more : List FaultRecord) (history entries : List Entry) (crossings : Crossings) (answered : Bool) (stand : At) → AllByRecursion (λ (fault : FaultRecord). fault.caller ≢ crossings.caller) more
    → AllByRecursion (λ (entry : Entry). entry.caller ≢ crossings.caller) entries → EntersSoFar test records history crossings answered stand → EntersSoFar test (records ++ more) (history ++ entries) crossings answered stand
others_enter test records more history entries crossings answered stand faults theirs so_far =
    let on = enters_on test records history crossings answered stand so_far (records ++ more) crossings refl refl refl (λ c o most taken. up_to_on test records more c o Enter most taken)
    (λ c o mine. strikes_apart records more c o (all_map (λ (fault : FaultRecord). fault.caller ≢ crossings.caller) (λ (fault : FaultRecord). is_inside c o fault ≡ false) more (λ fault other. others_fault c o fault (λ same. other (same ∙ mine))) faults)) in
    record {
      often = on.often;
      taken = on.taken;
      past = all_both (HasEnteredPast test (records ++ more) crossings answered) history entries on.past
          (all_map (λ (entry : Entry). entry.caller ≢ crossings.caller) (HasEnteredPast test (records ++ more) crossings answered) entries (λ entry other mine. absurd (other mine)) theirs);
    }
