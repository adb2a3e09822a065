-- Each event keeps the numbers of all callers in order.
use Rattle.std.proofs.Common.{List, [], ◌∷◌, ◌++◌, ℕ, zero, suc, ◌+◌, ◌≡◌, ◌≢◌, ◌<◌, ◌≤◌, inl, inr, Option, Some, None, length, slice_get, slice_set, refl, ap, sym, ◌∙◌, subst, arith, length-append}
use Rattle.std.specs.List.{AllByRecursion}
use Rattle.std.proofs.lemmas.List.{length-set}
use Rattle.std.proofs.lemmas.Option.{slice_get_within}
use Rattle.mb_kinds.specs.Own.{own}
use Rattle.mb_kinds.specs.declared.entries.Entry.{Entry}
use Rattle.mb_kinds.specs.declared.entries.Flight.{Flight}
use Rattle.mb_kinds.specs.declared.faults.FaultRecord.{FaultRecord}
use Rattle.mb_kinds.specs.declared.replies.Reply.{Reply}
use Rattle.mb_kinds.specs.declared.replies.Reply.TheVariants as reply
use Rattle.mb_tree.proofs.FiniteMaps.{one_or_not}
use Rattle.mb_tree.specs.History.{Follows, IsFailed}
use Rattle.mb_tree.specs.SessionLaws.{IsCall}
use Rattle.mb_oplog.specs.declared.oplogs.Logged.{Logged}
use Rattle.mb_core_spec.specs.declared.config.Config.{Config}
use Rattle.mb_core_spec.specs.declared.stages.Stage.{Stage}
use Rattle.mb_core_spec.specs.declared.stages.Stage.TheVariants as stage
use Rattle.mb_core_spec.specs.declared.steps.Step.{Step}
use Rattle.mb_core_order.proofs.Beginning.{all_of, each_set, set_here, set_there}
use Rattle.mb_core_order.proofs.Counting.{counted_moves, counted_push}
use Rattle.mb_core_order.proofs.OwnEntries.{own_mine, own_other}
use Rattle.mb_core_order.proofs.Overlays.{same_some, total_set}
use Rattle.mb_core_spec.specs.Callers.{one_if, total}
use Rattle.mb_core_spec.specs.Faults.{MayNumber, Names, Says}
use Rattle.mb_core_spec.specs.Numbers.{AreInOrder, CanFollow, OwnsEntries, IsNumbered, IsOpen, is_open, open_calls, open_flight}
use Rattle.mb_core_spec.specs.State.{CallerState, JournalRoom, JournalState}

pub all_push : {X : Type 0} (P : X → Type 0) (xs : List X) (x : X) → AllByRecursion P xs → P x → AllByRecursion P (xs ++ x ∷ [])
all_push P [] x h one = (one, tt)
all_push P (y ∷ xs) x h one = (h.0, all_push P xs x h.1 one)

-- an entry that can come after every other one
pub order_push : (history : List Entry) (entry : Entry) → AreInOrder history → AllByRecursion (CanFollow entry.caller entry.ordinal entry.moment) history → AreInOrder (history ++ entry ∷ [])
order_push [] entry order follows = (tt, tt)
order_push (one ∷ history) entry order follows = (all_push (λ (next : Entry). CanFollow next.caller next.ordinal next.moment one) history entry order.0 follows.0, order_push history entry order.1 follows.1)

-- what holds of all holds at each place
all_at : {X : Type 0} (P : X → Type 0) (xs : List X) (place : ℕ) (x : X) → AllByRecursion P xs → slice_get xs place ≡ Some x → P x
all_at P [] place x all is = absurd (let no : None ≡ Some x = is in cc)
all_at P (y ∷ xs) zero x all is = subst P (same_some y x is) all.0
all_at P (y ∷ xs) (suc place) x all is = all_at P xs place x all.1 is

-- of two entries the later one can come after the earlier one
pub follows_at : (history : List Entry) → AreInOrder history → (one other : ℕ) (earlier later : Entry) → slice_get history one ≡ Some earlier → slice_get history other ≡ Some later → one < other
    → CanFollow later.caller later.ordinal later.moment earlier
follows_at [] order one other earlier later is next before = absurd (let no : None ≡ Some earlier = is in cc)
follows_at (entry ∷ history) order zero zero earlier later is next before = absurd (omega (arith, before))
follows_at (entry ∷ history) order zero (suc other) earlier later is next before =
    subst (CanFollow later.caller later.ordinal later.moment) (same_some entry earlier is) (all_at (λ (e : Entry). CanFollow e.caller e.ordinal e.moment entry) history other later order.0 next)
follows_at (entry ∷ history) order (suc one) zero earlier later is next before = absurd (omega (arith, before))
follows_at (entry ∷ history) order (suc one) (suc other) earlier later is next before = follows_at history order.1 one other earlier later is next (omega (arith, before))

-- two flights of the same call
pub record IsSameCall (f g : Flight) : Type 0 where
  pub ordinal : g.ordinal ≡ f.ordinal
  pub moment : g.moment ≡ f.moment
  pub call : g.call ≡ f.call

pub record WasOpen (callers : List CallerState) (caller : ℕ) (d : CallerState) (g : Flight) : Type 0 where
  pub state : CallerState
  pub flight : Flight
  pub at : slice_get callers caller ≡ Some state
  pub waits : open_flight state.flight ≡ Some flight
  pub same : IsSameCall flight g

same_call : (f : Flight) → IsSameCall f f
same_call f = record { ordinal = refl; moment = refl; call = refl }

-- whoever has an open call there had that call before
abbrev pub KeepsCall : CallerState → CallerState → Type 0
KeepsCall mine new = (g : Flight) → open_flight new.flight ≡ Some g → (f : Flight) × (open_flight mine.flight ≡ Some f) × IsSameCall f g

not_more : (old new : Option Flight) → ((g : Flight) → new ≡ Some g → (f : Flight) × (old ≡ Some f)) → one_if (is_open new) ≤ one_if (is_open old)
not_more old None is = omega arith
not_more old (Some g) is = let one = is g refl in let was_one : one_if (is_open old) ≡ 1 = ap (λ o. one_if (is_open o)) one.1 in omega (arith, was_one)

module _ (config : Config) (journal : JournalState) (callers : List CallerState) (now : Stage) (h : IsNumbered config journal callers now) (at : ℕ) (mine : CallerState) (has : slice_get callers at ≡ Some mine)
    (new : CallerState) (begun : new.begun ≡ mine.begun) (keeps : KeepsCall mine new) where
  abbrev sum : ℕ
  sum = total (λ (d : CallerState). d.begun) callers

  same_sum : total (λ (d : CallerState). d.begun) (slice_set callers at new) ≡ sum
  same_sum = let both = total_set (λ (d : CallerState). d.begun) callers at mine new has in omega (arith, both, begun)

  was_open : (caller : ℕ) (d : CallerState) (g : Flight) → slice_get (slice_set callers at new) caller ≡ Some d → open_flight d.flight ≡ Some g → WasOpen callers caller d g
  was_open caller d g is waits = elim (one_or_not caller at) [
    | inl here ↦
        let same : new ≡ d = same_some new d (sym (set_here callers at mine new has) ∙ ap (slice_get (slice_set callers at new)) (sym here) ∙ is) in
        let old = keeps g (ap (λ (x : CallerState). open_flight x.flight) same ∙ waits) in
        record { state = mine; flight = old.0; at = ap (slice_get callers) here ∙ has; waits = old.1; same = old.2 }
    | inr there ↦ record { state = d; flight = g; at = sym (set_there callers at caller new there) ∙ is; waits = waits; same = same_call g }
  ]

  apart_all : (one other : ℕ) (d n : CallerState) (f g : Flight) → slice_get (slice_set callers at new) one ≡ Some d → slice_get (slice_set callers at new) other ≡ Some n → one ≢ other
      → open_flight d.flight ≡ Some f → open_flight n.flight ≡ Some g → f.moment ≢ g.moment
  apart_all one other d n f g is next differ f_is g_is same =
      let a = was_open one d f is f_is in
      let b = was_open other n g next g_is in
      h.apart one other a.state b.state a.flight b.flight a.at b.at differ a.waits b.waits (sym a.same.moment ∙ same ∙ b.same.moment)

  still_open : (g : Flight) → open_flight new.flight ≡ Some g → IsOpen config.start (config.start + sum) journal.history at new.begun g
  still_open g waits =
      let old = keeps g waits in
      let old_open = h.waiting at mine has old.0 old.1 in
      record {
        last = old.2.ordinal ∙ old_open.last ∙ sym begun;
        above = (let low = old_open.above in let m = old.2.moment in omega (arith, low, m));
        below = (let high = old_open.below in let m = old.2.moment in omega (arith, high, m));
        call = subst IsCall (sym old.2.call) old_open.call;
        follows = subst (λ o. AllByRecursion (CanFollow at o g.moment) journal.history) (sym old.2.ordinal) (subst (λ m. AllByRecursion (CanFollow at old.0.ordinal m) journal.history) (sym old.2.moment) old_open.follows);
      }

  pub fewer_open : open_calls (slice_set callers at new) + one_if (is_open (open_flight mine.flight)) ≡ open_calls callers + one_if (is_open (open_flight new.flight))
  fewer_open = total_set (λ (d : CallerState). one_if (is_open (open_flight d.flight))) callers at mine new has

  -- a call enters, gathers, is stale, is unwound, leaves or ends without an entry
  pub numbered_keeps : IsNumbered config journal (slice_set callers at new) now
  numbered_keeps = record {
    callers_are = length-set callers at new ∙ h.callers_are;
    begun = each_set (λ caller d. d.begun ≤ config.most) callers at mine new has (let low = h.begun at mine has in omega (arith, low, begun)) (λ caller d apart is. h.begun caller d is);
    entries = rw same_sum h.entries;
    pairs = h.pairs;
    ordinals = each_set (λ caller d. AllByRecursion (λ (entry : Entry). entry.caller ≡ caller → entry.ordinal ≤ d.begun) journal.history) callers at mine new has
        (subst (λ b. AllByRecursion (λ (entry : Entry). entry.caller ≡ at → entry.ordinal ≤ b) journal.history) (sym begun) (h.ordinals at mine has)) (λ caller d apart is. h.ordinals caller d is);
    counted = each_set (λ caller d. OwnsEntries (own journal.history caller) d) callers at mine new has
        (let less = not_more (open_flight mine.flight) (open_flight new.flight) (λ g is. (let one = keeps g is in (one.0, one.1))) in counted_moves (own journal.history at) mine new (omega (arith, less, begun)) (h.counted at mine has))
        (λ caller d apart is. h.counted caller d is);
    waiting = rw same_sum (each_set (λ caller d. (flight : Flight) → open_flight d.flight ≡ Some flight → IsOpen config.start (config.start + sum) journal.history caller d.begun flight) callers at mine new has still_open
        (λ caller d apart is. h.waiting caller d is));
    apart = apart_all;
    says = h.says;
    recorded = h.recorded;
    few = h.few;
    fits = rw same_sum (let was = h.fits in let fewer = fewer_open in let less = not_more (open_flight mine.flight) (open_flight new.flight) (λ g is. (let one = keeps g is in (one.0, one.1))) in omega (arith, was, fewer, less));
  }

-- ---- an entry

-- an entry may follow every earlier one, where the volume did not fail or the entry says so
pub follows_all : (config : Config) (journal : JournalState) (now : Stage) (caller ordinal moment : ℕ) (entry : Entry) (history : List Entry) → AllByRecursion (CanFollow caller ordinal moment) history
    → AllByRecursion (λ (earlier : Entry). Says journal.records config.limit now earlier.caller earlier.ordinal earlier.reply) history → entry.caller ≡ caller → entry.moment ≡ moment
    → (now ≡ stage.Failed → IsFailed entry.reply) → AllByRecursion (λ earlier. Follows earlier entry) history
follows_all config journal now caller ordinal moment entry [] can says is at failed = tt
follows_all config journal now caller ordinal moment entry (earlier ∷ history) can says is at failed = (
  record {
    apart = λ same. can.0.apart (sym at ∙ same);
    rising = λ own. (let low = can.0.rising (sym is ∙ own) in omega (arith, low, at));
    failed = failed_too earlier.reply says.0;
  },
  follows_all config journal now caller ordinal moment entry history can.1 says.1 is at failed,
)
  where
    failed_too : (answer : Reply) → Says journal.records config.limit now earlier.caller earlier.ordinal answer → IsFailed answer → IsFailed entry.reply
    failed_too (reply.Failed faults) said is_failed = failed said.1
    failed_too (reply.Num number) said is_failed = absurd is_failed
    failed_too (reply.Got bytes) said is_failed = absurd is_failed
    failed_too (reply.Info stat) said is_failed = absurd is_failed
    failed_too (reply.Refused e) said is_failed = absurd is_failed
    failed_too (reply.Restart first second) said is_failed = absurd is_failed
    failed_too reply.Device said is_failed = absurd is_failed

module _ (config : Config) (journal : JournalState) (callers : List CallerState) (now : Stage) (h : IsNumbered config journal callers now) (at : ℕ) (mine : CallerState) (has : slice_get callers at ≡ Some mine)
    (new : CallerState) (begun : new.begun ≡ mine.begun) (flight : Flight) (flies : open_flight mine.flight ≡ Some flight) (closed : open_flight new.flight ≡ None)
    (entry : Entry) (caller_is : entry.caller ≡ at) (ordinal_is : entry.ordinal ≡ flight.ordinal) (moment_is : entry.moment ≡ flight.moment) (call_is : entry.call ≡ flight.call)
    (said : Says journal.records config.limit now entry.caller entry.ordinal entry.reply) (oplog : List Logged) (trail : List Step) (room : JournalRoom) where
  no_open : KeepsCall mine new
  no_open g is = absurd (let no : None ≡ Some g = sym closed ∙ is in cc)

  k : IsNumbered config journal (slice_set callers at new) now
  k = numbered_keeps config journal callers now h at mine has new begun no_open

  its_open : IsOpen config.start (config.start + total (λ (d : CallerState). d.begun) callers) journal.history at mine.begun flight
  its_open = h.waiting at mine has flight flies

  the_sum : total (λ (d : CallerState). d.begun) (slice_set callers at new) ≡ total (λ (d : CallerState). d.begun) callers
  the_sum = same_sum config journal callers now h at mine has new begun no_open

  not_here : (caller : ℕ) (d : CallerState) (g : Flight) → slice_get (slice_set callers at new) caller ≡ Some d → open_flight d.flight ≡ Some g → caller ≢ at
  not_here caller d g is waits here =
      let same : new ≡ d = same_some new d (sym (set_here callers at mine new has) ∙ ap (slice_get (slice_set callers at new)) (sym here) ∙ is) in
      let wrong : None ≡ Some g = sym closed ∙ ap (λ (x : CallerState). open_flight x.flight) same ∙ waits in
      none_some g wrong
    where
      none_some : (g : Flight) → None ≡ Some g → ⊥
      none_some g wrong = cc

  can : (caller : ℕ) (d : CallerState) (g : Flight) → slice_get (slice_set callers at new) caller ≡ Some d → open_flight d.flight ≡ Some g → CanFollow caller g.ordinal g.moment entry
  can caller d g is waits =
      let away = not_here caller d g is waits in
      let old : slice_get callers caller ≡ Some d = sym (set_there callers at caller new away) ∙ is in
      record {
        apart = λ same. h.apart caller at d mine g flight old has away waits flies (same ∙ moment_is);
        rising = λ own. absurd (away (own ∙ caller_is));
        later = λ own. absurd (away (own ∙ caller_is));
      }

  longer : (caller : ℕ) (begun_by : ℕ) (g : Flight) (bound : ℕ) → CanFollow caller g.ordinal g.moment entry → IsOpen config.start bound journal.history caller begun_by g → IsOpen config.start bound (journal.history ++ entry ∷ []) caller begun_by g
  longer caller begun_by g bound one o = record { last = o.last; above = o.above; below = o.below; call = o.call; follows = all_push (CanFollow caller g.ordinal g.moment) journal.history entry o.follows one }

  pub numbered_answers : IsNumbered config (record journal { history = journal.history ++ entry ∷ []; oplog = oplog; trail = trail; room = room }) (slice_set callers at new) now
  numbered_answers = record {
    callers_are = k.callers_are;
    begun = k.begun;
    entries = all_push _ journal.history entry k.entries (record {
      caller = (let low = slice_get_within callers at mine has in let long = h.callers_are in omega (arith, low, long, caller_is));
      above = (let low = its_open.above in omega (arith, low, moment_is));
      below = (let high = its_open.below in omega (arith, high, moment_is, the_sum));
      call = subst IsCall (sym call_is) its_open.call;
    });
    pairs = order_push journal.history entry h.pairs (subst (λ c. AllByRecursion (CanFollow c entry.ordinal entry.moment) journal.history) (sym caller_is)
        (subst (λ o. AllByRecursion (CanFollow at o entry.moment) journal.history) (sym ordinal_is) (subst (λ m. AllByRecursion (CanFollow at flight.ordinal m) journal.history) (sym moment_is) its_open.follows)));
    ordinals = λ caller d is. all_push (λ (e : Entry). e.caller ≡ caller → e.ordinal ≤ d.begun) journal.history entry (k.ordinals caller d is) (λ own.
        (let here : caller ≡ at = sym own ∙ caller_is in
        let same : new ≡ d = same_some new d (sym (set_here callers at mine new has) ∙ ap (slice_get (slice_set callers at new)) (sym here) ∙ is) in
        let number : new.begun ≡ d.begun = ap (λ (x : CallerState). x.begun) same in
        let last = its_open.last in
        omega (arith, number, last, begun, ordinal_is)));
    counted = each_set (λ caller d. OwnsEntries (own (journal.history ++ entry ∷ []) caller) d) callers at mine new has
        (subst (λ entries. OwnsEntries entries new) (sym (own_mine journal.history entry at caller_is))
        (counted_push (own journal.history at) entry mine new begun (ap (λ o. one_if (is_open o)) flies) (ap (λ o. one_if (is_open o)) closed) (ordinal_is ∙ its_open.last) (h.counted at mine has)))
        (λ caller d apart is. subst (λ entries. OwnsEntries entries d) (sym (own_other journal.history entry caller (λ same. apart (sym same ∙ caller_is)))) (h.counted caller d is));
    waiting = λ caller d is g waits. longer caller d.begun g _ (can caller d g is waits) (k.waiting caller d is g waits);
    apart = k.apart;
    says = all_push _ journal.history entry k.says said;
    recorded = k.recorded;
    few = k.few;
    fits = (let was = h.fits in let fewer = fewer_open config journal callers now h at mine has new begun no_open in let sum = the_sum in
        let mine_open : one_if (is_open (open_flight mine.flight)) ≡ 1 = ap (λ o. one_if (is_open o)) flies in
        let new_open : one_if (is_open (open_flight new.flight)) ≡ 0 = ap (λ o. one_if (is_open o)) closed in
        let long : length (journal.history ++ entry ∷ []) ≡ length journal.history + 1 = length-append journal.history (entry ∷ []) in
        omega (arith, was, fewer, sum, mine_open, new_open, long));
  }

-- ---- the stage changes, and a fault is recorded

-- a volume that did not fail has no entry of a failed one, so what its entries say is said in every stage, and of more records
says_later : (old new : List FaultRecord) (more : (place : ℕ) (fault : FaultRecord) → slice_get old place ≡ Some fault → slice_get new place ≡ Some fault) (limit : ℕ) (was now : Stage) → (was ≡ stage.Failed → ⊥)
    → (caller ordinal : ℕ) (answer : Reply) → Says old limit was caller ordinal answer → Says new limit now caller ordinal answer
says_later old new more limit was now lives caller ordinal (reply.Num number) said = tt
says_later old new more limit was now lives caller ordinal (reply.Got bytes) said = tt
says_later old new more limit was now lives caller ordinal (reply.Info stat) said = tt
says_later old new more limit was now lives caller ordinal (reply.Refused e) said = tt
says_later old new more limit was now lives caller ordinal (reply.Restart first second) said = record { rising = said.rising; one = names first said.one; other = names second said.other }
  where
    names : (number : ℕ) → Names old caller ordinal number → Names new caller ordinal number
    names number n = record { place = n.place; counted = n.counted; fault = n.fault; at = more n.place n.fault n.at; caller_is = n.caller_is; ordinal_is = n.ordinal_is; own = n.own }
says_later old new more limit was now lives caller ordinal reply.Device said = tt
says_later old new more limit was now lives caller ordinal (reply.Failed faults) said = absurd (lives said.1)

get_more : (xs : List FaultRecord) (x : FaultRecord) (place : ℕ) (fault : FaultRecord) → slice_get xs place ≡ Some fault → slice_get (xs ++ x ∷ []) place ≡ Some fault
get_more [] x place fault is = absurd (let no : None ≡ Some fault = is in cc)
get_more (y ∷ xs) x zero fault is = is
get_more (y ∷ xs) x (suc place) fault is = get_more xs x place fault is

-- drop, remount, reopen, replay, resume and give up: each by its own test of the number of records
pub numbered_stage : (config : Config) (journal : JournalState) (callers : List CallerState) (was now : Stage) (trail : List Step) (oplog : List Logged) (sealed_at : ℕ) (room : JournalRoom) → IsNumbered config journal callers was
    → (was ≡ stage.Failed → ⊥) → MayNumber (length journal.records) config.limit now
    → IsNumbered config (record journal { trail = trail; oplog = oplog; sealed_at = sealed_at; room = room }) callers now
numbered_stage config journal callers was now trail oplog sealed_at room h lives few = record {
  callers_are = h.callers_are;
  begun = h.begun;
  entries = h.entries;
  pairs = h.pairs;
  ordinals = h.ordinals;
  counted = h.counted;
  waiting = h.waiting;
  apart = h.apart;
  says = all_of _ _ (λ (entry : Entry) said. says_later journal.records journal.records (λ place fault is. is) config.limit was now lives entry.caller entry.ordinal entry.reply said) journal.history h.says;
  recorded = h.recorded;
  few = few;
  fits = h.fits;
}

pub numbered_strikes : (config : Config) (journal : JournalState) (callers : List CallerState) (was now : Stage) (fault : FaultRecord) (trail : List Step) (room : JournalRoom) → IsNumbered config journal callers was
    → (was ≡ stage.Failed → ⊥) → fault.caller < length config.callers → MayNumber (length journal.records + 1) config.limit now
    → IsNumbered config (record journal { records = journal.records ++ fault ∷ []; trail = trail; room = room }) callers now
numbered_strikes config journal callers was now fault trail room h lives low few = record {
  callers_are = h.callers_are;
  begun = h.begun;
  entries = h.entries;
  pairs = h.pairs;
  ordinals = h.ordinals;
  counted = h.counted;
  waiting = h.waiting;
  apart = h.apart;
  says = all_of _ _ (λ (entry : Entry) said. says_later journal.records (journal.records ++ fault ∷ []) (get_more journal.records fault) config.limit was now lives entry.caller entry.ordinal entry.reply said) journal.history h.says;
  recorded = all_push _ journal.records fault h.recorded low;
  few = subst (λ count. MayNumber count config.limit now) (sym (length-append journal.records (fault ∷ []))) few;
  fits = h.fits;
}
