-- A core in order is in order as its driver sees it.
use Rattle.std.proofs.Common.{◌≡◌, ◌≢◌, ◌∙◌, List, [], ◌∷◌, ℕ, suc, ◌+◌, ◌<◌, ◌≤◌, Bool, true, false, ◌&&◌, Option, None, Some, length, map, slice_get, refl, ap, sym, subst, arith}
use Rattle.std.proofs.lemmas.Bool.{eq-eqb}
use Rattle.std.proofs.lemmas.Option.{slice_get_within}
use Rattle.std.specs.List.{AllByRecursion}
use Rattle.mb_kinds.specs.Image.{Image}
use Rattle.mb_kinds.specs.declared.entries.Entry.{Entry}
use Rattle.mb_kinds.specs.declared.entries.Flight.{Flight}
use Rattle.mb_kinds.specs.declared.faults.FaultRecord.{FaultRecord}
use Rattle.mb_kinds.specs.declared.replies.Reply.{Reply}
use Rattle.mb_kinds.specs.declared.replies.Reply.TheVariants as reply
use Rattle.mb_cache.specs.Stamps.{Stamps, stamp_of}
use Rattle.mb_core_spec.specs.Callers.{insiders, one_if}
use Rattle.mb_cache.specs.Kept.{CopyList, KeptBlock, kept_at}
use Rattle.mb_core_spec.specs.Copies.{HoldsFloor, LiveTables, PagesState, TableCopy}
use Rattle.mb_core_spec.specs.Faults.{MayNumber, Says}
use Rattle.mb_core_spec.specs.Flights.{IsFloor, IsFlying, runs}
use Rattle.mb_core_spec.specs.Numbers.{AreInOrder, CanFollow, IsEntry, is_open, open_calls, open_flight}
use Rattle.mb_core_spec.specs.Right.{Right}
use Rattle.mb_core_spec.specs.State.{CallerState, CoreState}
use Rattle.mb_core_spec.specs.declared.stages.Stage.{Stage}
use Rattle.mb_core_spec.specs.declared.stages.Stage.TheVariants as stage
use Rattle.mb_core_order.proofs.Beginning.{all_of}
use Rattle.mb_core_order.proofs.Orderlies.{brief}
use Rattle.mb_core_order.proofs.Readings.{flying_inside}
use Rattle.mb_run.specs.CoreSight.{are_blocks_fresh, are_tables_fresh, is_block_fresh, is_fresh, pages_kept, seat_of, sight_of}
use Rattle.mb_run.specs.Seals.{is_failed}
use Rattle.mb_run.specs.Sights.{AreApart, IsOrderlyInSight, steps_left}
use Rattle.mb_run.proofs.InTime.{InTime}
use Rattle.mb_volume_core.proofs.Watching.{watched_since}

-- ---- the moments of the entries

later_apart : (first : Entry) (later : List Entry) → AllByRecursion (λ (next : Entry). CanFollow next.caller next.ordinal next.moment first) later
    → AllByRecursion (λ (other : ℕ). first.moment ≢ other) (map (λ (entry : Entry). entry.moment) later)
later_apart first [] follow = tt
later_apart first (next ∷ later) follow = ((λ same. follow.0.apart (sym same)), later_apart first later follow.1)

moments_apart : (history : List Entry) → AreInOrder history → AreApart (map (λ (entry : Entry). entry.moment) history)
moments_apart [] pairs = tt
moments_apart (entry ∷ later) pairs = (later_apart entry later pairs.0, moments_apart later pairs.1)

-- ---- numbers

few_records : (count limit : ℕ) (now : Stage) → MayNumber count limit now → count ≤ limit + 1
few_records count limit stage.Running few = omega (arith, few)
few_records count limit stage.Struck few = few
few_records count limit stage.Again few = few
few_records count limit stage.Dropped few = omega (arith, few)
few_records count limit stage.Remounted few = omega (arith, few)
few_records count limit (stage.Restored done) few = omega (arith, few)
few_records count limit stage.Failed few = omega (arith, few)

one_at_most : (b : Bool) → one_if b ≤ 1
one_at_most true = omega arith
one_at_most false = omega arith

few_inside : (callers : List CallerState) → insiders callers ≤ length callers
few_inside [] = omega arith
few_inside (mine ∷ callers) = let one = one_at_most mine.inside in let rest = few_inside callers in omega (arith, one, rest)

few_steps : (inside ops : ℕ) (now : Stage) → inside ≤ 8 → ops ≤ 4294967296 → steps_left inside ops now < 8589934592
few_steps inside ops stage.Running few brief = omega arith
few_steps inside ops stage.Struck few brief = omega (arith, few, brief)
few_steps inside ops stage.Again few brief = omega (arith, few, brief)
few_steps inside ops stage.Dropped few brief = omega (arith, few, brief)
few_steps inside ops stage.Remounted few brief = omega (arith, few, brief)
few_steps inside ops (stage.Restored done) few brief = omega (arith, few, brief)
few_steps inside ops stage.Failed few brief = omega arith

struck_steps : (inside ops callers : ℕ) (now : Stage) → inside ≤ callers → now ≡ stage.Struck → steps_left inside ops now ≤ callers + ops + 4
struck_steps inside ops callers now low is = subst (λ (s : Stage). steps_left inside ops s ≤ callers + ops + 4) (sym is) (omega (arith, low))

again_steps : (inside ops : ℕ) (now : Stage) → now ≡ stage.Again → steps_left inside ops now ≤ ops + 4
again_steps inside ops now is = subst (λ (s : Stage). steps_left inside ops s ≤ ops + 4) (sym is) (omega arith)

none_open : (callers : List CallerState) → ((caller : ℕ) → caller < length callers → (seat_of (slice_get callers caller)).flight ≡ None) → open_calls callers ≡ 0
none_open [] free = refl
none_open (mine ∷ callers) free =
    let first : one_if (is_open (open_flight mine.flight)) ≡ 0 = ap (λ (o : Option Flight). one_if (is_open (open_flight o))) (free 0 (omega arith)) in
    let rest = none_open callers (λ caller low. free (suc caller) (omega (arith, low))) in
    omega (arith, first, rest)

-- ---- who has the right to commit alone keeps nothing stale

both_true : (a b : Bool) → a ≡ true → b ≡ true → (a && b) ≡ true
both_true true true one other = refl
both_true true false one other = other
both_true false true one other = one
both_true false false one other = one

block_fresh : (stamps : Stamps) (block : ℕ) (found : Option KeptBlock) → ((kept : KeptBlock) → found ≡ Some kept → kept.stamp ≡ stamp_of stamps block) → is_block_fresh stamps block found ≡ true
block_fresh stamps block None holds = refl
block_fresh stamps block (Some kept) holds = eq-eqb kept.stamp (stamp_of stamps block) (holds kept refl)

blocks_fresh : (stamps : Stamps) (all copies : CopyList) → ((block : ℕ) (kept : KeptBlock) → kept_at all block ≡ Some kept → kept.stamp ≡ stamp_of stamps block) → are_blocks_fresh stamps all copies ≡ true
blocks_fresh stamps all [] holds = refl
blocks_fresh stamps all (copy ∷ copies) holds =
    both_true (is_block_fresh stamps copy.0 (kept_at all copy.0)) (are_blocks_fresh stamps all copies) (block_fresh stamps copy.0 (kept_at all copy.0) (holds copy.0)) (blocks_fresh stamps all copies holds)

tables_fresh : (live : LiveTables) (found : Option TableCopy) → ((kept : TableCopy) → found ≡ Some kept → kept.stamp ≡ live.stamp) → are_tables_fresh live found ≡ true
tables_fresh live None holds = refl
tables_fresh live (Some kept) holds = eq-eqb kept.stamp live.stamp (holds kept refl)

holder_fresh : (stamps : Stamps) (live : LiveTables) (pages : PagesState) → HoldsFloor stamps live pages → is_fresh stamps live pages ≡ true
holder_fresh stamps live pages holds =
    both_true (are_blocks_fresh stamps pages.blocks pages.blocks) (are_tables_fresh live pages.tables) (blocks_fresh stamps pages.blocks pages.blocks holds.blocks) (tables_fresh live pages.tables holds.tables)

-- a volume that has not failed told nobody so
not_failed : (records : List FaultRecord) (limit : ℕ) (now : Stage) → now ≢ stage.Failed → (caller ordinal : ℕ) (answer : Reply) → Says records limit now caller ordinal answer → is_failed answer ≡ false
not_failed records limit now goes caller ordinal (reply.Restart first second) says = refl
not_failed records limit now goes caller ordinal (reply.Failed faults) says = absurd (goes says.1)
not_failed records limit now goes caller ordinal reply.Device says = refl
not_failed records limit now goes caller ordinal (reply.Num number) says = refl
not_failed records limit now goes caller ordinal (reply.Got bytes) says = refl
not_failed records limit now goes caller ordinal (reply.Info stat) says = refl
not_failed records limit now goes caller ordinal (reply.Refused e) says = refl

-- ---- the whole

module _ {F D : Type 0} (told : D → Option Image) (faults : D → ℕ) (core : CoreState F D) (r : Right told faults core) where
  few_callers : length core.callers ≤ 8
  few_callers = let same = r.orderly.numbered.callers_are in let few = r.orderly.bounds.callers in omega (arith, same, few)

  few_insiders : insiders core.callers ≤ 8
  few_insiders = let inside = few_inside core.callers in let all = few_callers in omega (arith, inside, all)

  most_inside : insiders core.callers ≤ length core.config.callers
  most_inside = let inside = few_inside core.callers in let same = r.orderly.numbered.callers_are in omega (arith, inside, same)

  holder_is : (holder : ℕ) → core.floor ≡ Some holder → (mine : CallerState) × (slice_get core.callers holder ≡ Some mine) × (mine.inside ≡ true)
  holder_is holder held = subst (λ (floor : Option ℕ). IsFloor floor core.callers) held r.orderly.floor

  holder_flies : (holder : ℕ) → core.floor ≡ Some holder → (flight : Flight) × (((sight_of core).seats holder).flight ≡ Some flight) × (holder < length core.config.callers)
  holder_flies holder held =
      let has = holder_is holder held in
      let flying : IsFlying holder true (runs core.stage) core.incarnation has.0.answer has.0.flight =
      subst (λ (b : Bool). IsFlying holder b (runs core.stage) core.incarnation has.0.answer has.0.flight) has.2 (r.orderly.flying holder has.0 has.1) in
      let flies = flying_inside holder (runs core.stage) core.incarnation has.0.answer has.0.flight flying in
      let low = slice_get_within core.callers holder has.0 has.1 in
      let same = r.orderly.numbered.callers_are in
      (flies.flight, ap (λ (o : Option CallerState). (seat_of o).flight) has.1 ∙ flies.flies, omega (arith, low, same))

  pub orderly : InTime (sight_of core) → IsOrderlyInSight (sight_of core)
  orderly seals = record {
    seals = seals;
    covers = (let most = r.orderly.trailed.covers in let is = watched_since (length core.callers) core.config.threshold core.journal.history r.orderly.trailed.watch core.journal.trail r.orderly.trailed.folded in omega (arith, most, is));
    above = all_of (IsEntry core.config.start (core.config.start + (sight_of core).begun) (length core.config.callers)) (λ (entry : Entry). core.config.start < entry.moment) (λ entry is. is.above) core.journal.history r.orderly.numbered.entries;
    below = all_of (IsEntry core.config.start (core.config.start + (sight_of core).begun) (length core.config.callers)) (λ (entry : Entry). entry.moment ≤ core.config.start + (sight_of core).begun) (λ entry is. is.below) core.journal.history r.orderly.numbered.entries;
    apart = moments_apart core.journal.history r.orderly.numbered.pairs;
    records = few_records (length core.journal.records) core.config.limit core.stage r.orderly.numbered.few;
    limit = r.orderly.bounds.limit;
    callers = r.orderly.bounds.callers;
    left = few_steps (insiders core.callers) (length core.journal.oplog) core.stage few_insiders (brief core r.orderly);
    struck = struck_steps (insiders core.callers) (length core.journal.oplog) (length core.config.callers) core.stage most_inside;
    again = again_steps (insiders core.callers) (length core.journal.oplog) core.stage;
    floor = holder_flies;
    fresh = λ holder held running.
        (let has = holder_is holder held in
        ap (λ (o : Option CallerState). is_fresh core.cache.stamps core.tables (pages_kept o)) has.1 ∙ holder_fresh core.cache.stamps core.tables has.0.pages (r.orderly.fresh running holder has.0 has.1 held));
    open_calls = λ free. none_open core.callers (λ caller low. free caller (let same = r.orderly.numbered.callers_are in omega (arith, low, same)));
    failures = λ goes. all_of (λ (entry : Entry). Says core.journal.records core.config.limit core.stage entry.caller entry.ordinal entry.reply) (λ (entry : Entry). is_failed entry.reply ≡ false)
        (λ entry says. not_failed core.journal.records core.config.limit core.stage goes entry.caller entry.ordinal entry.reply says) core.journal.history r.orderly.numbered.says;
    dropped = λ failed. ap length (r.orderly.dropped failed);
  }
