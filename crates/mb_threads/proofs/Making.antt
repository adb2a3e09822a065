-- A caller's thread makes its calls one after another.
use Rattle.std.proofs.Common.{◌≡◌, ◌≢◌, List, [], ◌∷◌, ◌++◌, ℕ, ◌+◌, ◌<◌, ◌≤◌, Bool, true, cond, nat_eq, length, map, take, refl, ap, sym, subst, ◌∙◌, arith, Option, None, Some, slice_get, IfSome, length-append}
use Rattle.std.proofs.lemmas.Bool.{eq-eqb}
use Rattle.std.proofs.lemmas.List.{append-nil, map-append, map_push}
use Rattle.std.proofs.lemmas.List.Elements.{filter-append}
use Rattle.std.specs.List.{AllByRecursion, filter}
use Rattle.mb_edge.specs.declared.crossings.Crossing.{Crossing}
use Rattle.mb_jobs.specs.declared.jobs.JobCall.{JobCall}
use Rattle.mb_kinds.specs.declared.calls.Call.{Call}
use Rattle.mb_kinds.specs.declared.entries.Entry.{Entry}
use Rattle.mb_kinds.specs.declared.faults.FaultRecord.{FaultRecord}
use Rattle.mb_kinds.specs.declared.replies.Reply.{Reply}
use Rattle.mb_run.proofs.Completing.{take_few}
use Rattle.mb_run.proofs.Lists.{all_both, all_map, neq, take_next}
use Rattle.mb_run.specs.Recovering.{crossing_of}
use Rattle.mb_run.specs.Seals.{is_plain}
use Rattle.mb_run.specs.Served.{AreApart, AreSound, IsApart, calls_of}
use Rattle.mb_run.specs.Sights.{SightSeat}
use Rattle.mb_volume.specs.Called.{AreOfFirst, IsAnsweredWith, MetOnce, own_faults}
use Rattle.mb_volume.specs.Parts.{Part}
use Rattle.mb_volume.proofs.Telling.{all_kept, no_earlier}
use Rattle.mb_threads.specs.Workers.{HasMadeCalls, MetOnceIfPlain}
use Rattle.mb_threads.proofs.Covering.{all_and}

-- ---- fault records of calls one after another

apart_all : (fault : FaultRecord) (begun : ℕ) (more : List FaultRecord) → fault.ordinal ≤ begun → AllByRecursion (λ (f : FaultRecord). f.ordinal ≡ begun + 1) more → AllByRecursion (IsApart fault) more
apart_all fault begun [] low all = tt
apart_all fault begun (one ∷ more) low all = ((λ same. absurd (omega (arith, low, all.0, ap (λ (f : FaultRecord). f.ordinal) same))), apart_all fault begun more low all.1)

apart_both : (begun : ℕ) (before more : List FaultRecord) → AreOfFirst begun before → AllByRecursion (λ (f : FaultRecord). f.ordinal ≡ begun + 1) more → AreApart before → AreApart more → AreApart (before ++ more)
apart_both begun [] more first all one other = other
apart_both begun (fault ∷ before) more first all one other = (all_both (IsApart fault) before more one.0 (apart_all fault begun more first.0 all), apart_both begun before more first.1 all one.1 other)

sound_both : (test : Option (Crossing → Bool)) (begun : ℕ) (before more : List FaultRecord) → AreOfFirst begun before → AllByRecursion (λ (f : FaultRecord). f.ordinal ≡ begun + 1) more → AreSound test before → AreSound test more → AreSound test (before ++ more)
sound_both test begun before more first all one other = record {
  holds = all_both (λ (f : FaultRecord). IfSome test (λ fires. fires (crossing_of f) ≡ true)) before more one.holds other.holds;
  apart = apart_both begun before more first all one.apart other.apart;
}

-- ---- faults of a call's own

none_later : (more : List FaultRecord) (ordinal begun : ℕ) → ordinal ≤ begun → AllByRecursion (λ (f : FaultRecord). f.ordinal ≡ begun + 1) more → filter (λ (f : FaultRecord). nat_eq f.ordinal ordinal) more ≡ []
none_later [] ordinal begun low all = refl
none_later (fault ∷ more) ordinal begun low all =
    ap (λ b. cond b (fault ∷ filter (λ (f : FaultRecord). nat_eq f.ordinal ordinal) more) (filter (λ (f : FaultRecord). nat_eq f.ordinal ordinal) more)) (neq fault.ordinal ordinal (λ same. absurd (omega (arith, low, all.0, same))))
    ∙ none_later more ordinal begun low all.1

-- those of an earlier call stay as they are
once_earlier : (ordinal begun : ℕ) (before more : List FaultRecord) → ordinal ≤ begun → AllByRecursion (λ (f : FaultRecord). f.ordinal ≡ begun + 1) more → MetOnce ordinal before → MetOnce ordinal (before ++ more)
once_earlier ordinal begun before more low all once =
    let kept : filter (λ (f : FaultRecord). nat_eq f.ordinal ordinal) (before ++ more) ≡ filter (λ (f : FaultRecord). nat_eq f.ordinal ordinal) before =
    filter-append (λ (f : FaultRecord). nat_eq f.ordinal ordinal) before more ∙ ap (λ fs. filter (λ (f : FaultRecord). nat_eq f.ordinal ordinal) before ++ fs) (none_later more ordinal begun low all)
    ∙ append-nil (filter (λ (f : FaultRecord). nat_eq f.ordinal ordinal) before) in
    subst (λ (fs : List FaultRecord). length (own_faults fs) ≤ 1) (sym kept) once

-- those of this call are the ones that came
once_now : (ordinal begun : ℕ) (before more : List FaultRecord) → ordinal ≡ begun + 1 → AreOfFirst begun before → AllByRecursion (λ (f : FaultRecord). f.ordinal ≡ ordinal) more → length (own_faults more) ≤ 1 → MetOnce ordinal (before ++ more)
once_now ordinal begun before more is first all once =
    let kept : filter (λ (f : FaultRecord). nat_eq f.ordinal ordinal) (before ++ more) ≡ more =
    filter-append (λ (f : FaultRecord). nat_eq f.ordinal ordinal) before more ∙ ap (λ fs. fs ++ filter (λ (f : FaultRecord). nat_eq f.ordinal ordinal) more) (no_earlier before ordinal begun is first) ∙ all_kept more ordinal all in
    subst (λ (fs : List FaultRecord). length (own_faults fs) ≤ 1) (sym kept) once

-- ---- one call more was answered

pub made_more : (made : List Call) (call : Call) (test : Option (Crossing → Bool)) (caller : ℕ) (old now : Part) (answer : Reply) → HasMadeCalls made test old → IsAnsweredWith call test caller old now answer → HasMadeCalls (made ++ call ∷ []) test now
made_more made call test caller old now answer was is =
    let begun : old.seat.begun ≡ length made = ap (λ (s : SightSeat). s.begun) was.seat in
    let long : length (made ++ call ∷ []) ≡ length made + 1 = length-append made (call ∷ []) in
    let ordinals : AllByRecursion (λ (f : FaultRecord). f.ordinal ≡ length made + 1) is.suffers.more =
    all_map (λ (f : FaultRecord). (f.caller ≡ caller) × (f.ordinal ≡ old.seat.begun + 1)) (λ (f : FaultRecord). f.ordinal ≡ length made + 1) is.suffers.more (λ f its. its.1 ∙ ap (λ n. n + 1) begun) is.suffers.theirs in
    let number : is.entry.ordinal ≡ length made + 1 = is.ordinal ∙ ap (λ n. n + 1) begun in
    record {
      calls = ap (map (λ (e : Entry). e.call)) is.whole ∙ map_push (λ (e : Entry). e.call) old.entries is.entry ∙ ap (λ cs. cs ++ is.entry.call ∷ []) was.calls ∙ ap (λ c. made ++ c ∷ []) is.call_is;
      seat = is.seat ∙ ap (λ n. record { begun = n + 1; flight = None }) begun ∙ ap (λ n. record { begun = n; flight = None }) (sym long);
      first = subst (AreOfFirst (length (made ++ call ∷ []))) (sym is.suffers.whole) (all_both (λ (f : FaultRecord). f.ordinal ≤ length (made ++ call ∷ [])) old.struck is.suffers.more
          (all_map (λ (f : FaultRecord). f.ordinal ≤ length made) (λ (f : FaultRecord). f.ordinal ≤ length (made ++ call ∷ [])) old.struck (λ f low. omega (arith, low, long)) was.first)
          (all_map (λ (f : FaultRecord). f.ordinal ≡ length made + 1) (λ (f : FaultRecord). f.ordinal ≤ length (made ++ call ∷ [])) is.suffers.more (λ f low. omega (arith, low, long)) ordinals));
      sound = subst (AreSound test) (sym is.suffers.whole) (sound_both test (length made) old.struck is.suffers.more was.first ordinals was.sound is.suffers.sound);
      ordinals = subst (AllByRecursion (λ (e : Entry). e.ordinal ≤ length (made ++ call ∷ []))) (sym is.whole) (all_both (λ (e : Entry). e.ordinal ≤ length (made ++ call ∷ [])) old.entries (is.entry ∷ [])
          (all_map (λ (e : Entry). e.ordinal ≤ length made) (λ (e : Entry). e.ordinal ≤ length (made ++ call ∷ [])) old.entries (λ e low. omega (arith, low, long)) was.ordinals) (omega (arith, number, long), tt));
      once = subst (AllByRecursion (MetOnceIfPlain now.struck)) (sym is.whole) (subst (λ fs. AllByRecursion (MetOnceIfPlain fs) (old.entries ++ is.entry ∷ [])) (sym is.suffers.whole)
          (all_both (MetOnceIfPlain (old.struck ++ is.suffers.more)) old.entries (is.entry ∷ [])
          (all_and (λ (e : Entry). e.ordinal ≤ length made) (MetOnceIfPlain old.struck) (MetOnceIfPlain (old.struck ++ is.suffers.more)) old.entries
          (λ e low once plain. once_earlier e.ordinal (length made) old.struck is.suffers.more low ordinals (once plain)) was.ordinals was.once) (
            (λ plain. once_now is.entry.ordinal (length made) old.struck is.suffers.more number was.first (all_map (λ (f : FaultRecord). f.ordinal ≡ length made + 1) (λ (f : FaultRecord). f.ordinal ≡ is.entry.ordinal) is.suffers.more (λ f its. its ∙ sym number) ordinals)
                (is.once (ap is_plain (sym is.reply_is) ∙ plain))),
            tt,
          )));
    }

-- ---- the caller's calls among the first ones of the job

calls_more : (calls : List JobCall) (index caller : ℕ) (made : JobCall) → slice_get calls index ≡ Some made → calls_of (take (index + 1) calls) caller ≡ calls_of (take index calls) caller ++ calls_of (made ∷ []) caller
calls_more calls index caller made here =
    ap (λ cs. calls_of cs caller) (take_next calls index made here) ∙ ap (map (λ (m : JobCall). m.call)) (filter-append (λ (m : JobCall). nat_eq m.caller caller) (take index calls) (made ∷ []))
    ∙ map-append (λ (m : JobCall). m.call) (filter (λ (m : JobCall). nat_eq m.caller caller) (take index calls)) (filter (λ (m : JobCall). nat_eq m.caller caller) (made ∷ []))

pub calls_mine : (calls : List JobCall) (index caller : ℕ) (made : JobCall) → slice_get calls index ≡ Some made → made.caller ≡ caller → calls_of (take (index + 1) calls) caller ≡ calls_of (take index calls) caller ++ made.call ∷ []
calls_mine calls index caller made here mine =
    calls_more calls index caller made here ∙ ap (λ b. calls_of (take index calls) caller ++ map (λ (m : JobCall). m.call) (cond b (made ∷ []) [])) (eq-eqb made.caller caller mine)

-- the caller may begin its next call
pub may_more : (calls : List JobCall) (index caller : ℕ) (made : JobCall) → slice_get calls index ≡ Some made → made.caller ≡ caller → (begun most bound : ℕ) → begun ≡ length (calls_of (take index calls) caller) → length (calls_of calls caller) ≤ bound → most ≡ bound → begun < most
may_more calls index caller made here mine begun most bound is few same =
    let more : length (calls_of (take (index + 1) calls) caller) ≡ length (calls_of (take index calls) caller) + 1 = ap length (calls_mine calls index caller made here mine) ∙ length-append (calls_of (take index calls) caller) (made.call ∷ []) in
    let all = take_few calls (index + 1) caller in
    omega (arith, is, few, same, more, all)
