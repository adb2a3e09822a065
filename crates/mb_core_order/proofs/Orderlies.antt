-- Each event keeps what holds on every disk.
use Rattle.std.proofs.Common.{List, [], ◌∷◌, ◌++◌, ℕ, suc, ◌+◌, ◌*◌, ◌≡◌, ◌<◌, ◌≤◌, true, false, Option, Some, None, length, refl, ap, sym, ◌∙◌, subst, arith, length-append}
use Rattle.mb_kinds.specs.declared.faults.FaultRecord.{FaultRecord}
use Rattle.mb_kinds.specs.declared.faults.Kind.{Kind}
use Rattle.mb_kinds.specs.declared.faults.Ticket.{Ticket}
use Rattle.mb_edge.specs.Damage.{OpenCounts}
use Rattle.mb_edge.specs.declared.strokes.Stroke.{Stroke}
use Rattle.mb_tree.specs.declared.seats.Seat.{Seat}
use Rattle.mb_cache.specs.Stamps.{Stamps, stamp_of}
use Rattle.mb_cache.specs.Pages.{PageList}
use Rattle.mb_cache.specs.State.{CacheRoom, CacheState}
use Rattle.mb_oplog.specs.declared.oplogs.Logged.{Logged}
use Rattle.mb_core_spec.specs.declared.config.Config.{Config}
use Rattle.mb_core_spec.specs.declared.stages.Stage.{Stage}
use Rattle.mb_core_spec.specs.declared.stages.Stage.TheVariants as stage
use Rattle.mb_core_spec.specs.declared.steps.Step.{Step}
use Rattle.mb_core_spec.specs.declared.steps.Step.TheVariants as step
use native.Mathlib.Numerals.{unary_clauses}
use Rattle.mb_core_order.proofs.Keepings.{flying_outside, flying_strikes, marks_strike, no_floor, none_inside, none_kept, stamps_again, stamps_replay, stamps_resume, stamps_strike}
use Rattle.mb_core_order.proofs.Numbers.{numbered_stage, numbered_strikes}
use Rattle.mb_core_order.proofs.Traces.{trailed_drops, trailed_drops_again, trailed_fails, trailed_fails_again, trailed_remounts, trailed_reopens, trailed_replays, trailed_resumes, trailed_seals, trailed_strikes, trailed_strikes_dropped, trailed_strikes_restored}
use Rattle.mb_core_spec.specs.Bounds.{HasMarks, StampsAreFew, replayed}
use Rattle.mb_core_spec.specs.Callers.{EachCaller, insiders, total}
use Rattle.mb_core_spec.specs.Copies.{LiveTables, TableCopy, TablesAgree}
use Rattle.mb_core_spec.specs.Events.{roomy}
use Rattle.mb_core_spec.specs.Faults.{MayNumber}
use Rattle.mb_core_spec.specs.Flights.{IsFlying, MayBeInside, runs}
use Rattle.mb_core_spec.specs.Numbers.{IsNumbered}
use Rattle.mb_core_spec.specs.Recovery.{dropping, failing, flushing, remounting, reopening, replaying, resuming, sealing, striking, striking_again}
use Rattle.mb_core_spec.specs.Right.{IsOrderly}
use Rattle.mb_core_spec.specs.State.{CallerState, CoreState, JournalRoom, JournalState}
use Rattle.mb_core_spec.specs.Traced.{IsMode, IsTrailed}

-- numbers do not hear of the trace, the log and the room
pub numbered_rest : (config : Config) (journal : JournalState) (callers : List CallerState) (now : Stage) (trail : List Step) (oplog : List Logged) (sealed_at : ℕ) (room : JournalRoom) → IsNumbered config journal callers now
    → IsNumbered config (record journal { trail = trail; oplog = oplog; sealed_at = sealed_at; room = room }) callers now
numbered_rest config journal callers now trail oplog sealed_at room h = record {
  callers_are = h.callers_are;
  begun = h.begun;
  entries = h.entries;
  pairs = h.pairs;
  ordinals = h.ordinals;
  counted = h.counted;
  waiting = h.waiting;
  apart = h.apart;
  says = h.says;
  recorded = h.recorded;
  few = h.few;
  fits = h.fits;
}

-- all calls together are fewer than 2 ^ 32
most_begun : (callers : List CallerState) (most : ℕ) → EachCaller (λ caller d. d.begun ≤ most) callers → total (λ (d : CallerState). d.begun) callers ≤ most * length callers
most_begun [] most each = omega arith
most_begun (d ∷ callers) most each =
    let first : d.begun ≤ most = each 0 d refl in
    let rest = most_begun callers most (λ caller other is. each (suc caller) other is) in
    let grows : most * suc (length callers) ≡ most * length callers + most = simp unary_clauses refl in
    omega (arith, first, rest, grows)

-- a checkpoint saves the sessions, of which copies say nothing
tables_sealed : (caller : ℕ) (live : LiveTables) (saved : List Seat) (kept : Option TableCopy) → TablesAgree caller live kept → TablesAgree caller (record live { saved = saved }) kept
tables_sealed caller live saved None keeps = tt
tables_sealed caller live saved (Some kept) keeps = record { own = keeps.own; old = keeps.old; opens = keeps.opens; directories = keeps.directories }

module _ {F D : Type 0} (core : CoreState F D) (o : IsOrderly core) where
  abbrev log : ℕ
  log = length core.journal.oplog

  pub number_at : (now : Stage) → core.stage ≡ now → MayNumber (length core.journal.records) core.config.limit now
  number_at now is = subst (MayNumber (length core.journal.records) core.config.limit) is o.numbered.few

  pub mode_at : (now : Stage) → core.stage ≡ now → IsMode now o.trailed.watch.mode core.callers
  mode_at now is = subst (λ s. IsMode s o.trailed.watch.mode core.callers) is o.trailed.mode

  pub marks_at : (now : Stage) → core.stage ≡ now → HasMarks now (insiders core.callers) core.journal.room
  marks_at now is = subst (λ s. HasMarks s (insiders core.callers) core.journal.room) is o.marks

  pub stamps_at : (now : Stage) → core.stage ≡ now → StampsAreFew (runs now) (length core.journal.history) (length core.journal.records) (replayed now) core.cache.stamps
  stamps_at now is = subst (λ s. StampsAreFew (runs s) (length core.journal.history) (length core.journal.records) (replayed s) core.cache.stamps) is o.stamps

  pub inside_at : (now : Stage) → core.stage ≡ now → EachCaller (λ caller d. MayBeInside now d.inside) core.callers
  inside_at now is = subst (λ s. EachCaller (λ caller d. MayBeInside s d.inside) core.callers) is o.unwound

  pub flying_at : (now : Stage) → core.stage ≡ now → EachCaller (λ caller d. IsFlying caller d.inside (runs now) core.incarnation d.answer d.flight) core.callers
  flying_at now is = subst (λ s. EachCaller (λ caller d. IsFlying caller d.inside (runs s) core.incarnation d.answer d.flight) core.callers) is o.flying

  pub done_at : (done : ℕ) → core.stage ≡ stage.Restored done → done ≤ log
  done_at done is = (let low = o.within in let here : replayed core.stage ≡ done = ap replayed is in omega (arith, low, here))

  -- the log has fewer than 2 ^ 32 operations
  pub brief : log ≤ 4294967296
  brief =
      let sum = most_begun core.callers core.config.most o.numbered.begun in
      let fits = o.numbered.fits in
      let few = o.logged in
      let bound = o.bounds.moments in
      let long : core.config.most * length core.callers ≡ core.config.most * length core.config.callers = ap (λ n. core.config.most * n) o.numbered.callers_are in
      omega (arith, sum, fits, few, bound, long)

  -- ---- a fault

  module _ (ticket : Ticket) (kind : Kind) (nth : ℕ) (strokes : List Stroke) (room : JournalRoom) (whose : ticket.caller < length core.config.callers) (left : core.journal.room.history ≤ room.history) where
    abbrev fault : FaultRecord
    fault = record { caller = ticket.caller; ordinal = ticket.ordinal; kind = kind; nth = nth }

    longer : length (core.journal.records ++ fault ∷ []) ≡ length core.journal.records + 1
    longer = length-append core.journal.records (fault ∷ [])

    pub orderly_strikes : core.stage ≡ stage.Running → 1 ≤ insiders core.callers → core.journal.room.trail ≤ room.trail + 1 → IsOrderly (roomy (striking core ticket kind nth strokes) room)
    orderly_strikes is some marks = record {
      numbered = numbered_strikes core.config core.journal core.callers core.stage stage.Struck fault _ room o.numbered (λ failed. (let wrong : stage.Running ≡ stage.Failed = sym is ∙ failed in cc)) whose
          (let few = number_at stage.Running is in omega (arith, few));
      trailed = trailed_strikes core.journal core.callers core.stage o.trailed fault room (mode_at stage.Running is);
      flying = λ caller d at. flying_strikes caller d.inside (runs core.stage) core.incarnation d.answer d.flight (o.flying caller d at);
      answers = o.answers;
      unwound = λ caller d at. tt;
      copies = λ now. absurd (let wrong : stage.Struck ≡ stage.Running = now in cc);
      undoable = o.undoable;
      pinned = o.pinned;
      floor = o.floor;
      fresh = λ now. absurd (let wrong : stage.Struck ≡ stage.Running = now in cc);
      incarnation = (let low = o.incarnation in let more = longer in omega (arith, low, more));
      marks = marks_strike (insiders core.callers) core.journal.room room some marks (marks_at stage.Running is);
      entries = (let fit = o.entries in omega (arith, fit, left));
      stamps = subst (λ count. StampsAreFew false (length core.journal.history) count 0 core.cache.stamps) (sym longer) (stamps_strike (length core.journal.history) (length core.journal.records) core.cache.stamps (stamps_at stage.Running is));
      logged = o.logged;
      sessions = o.sessions;
      saved = o.saved;
      dropped = λ now. absurd (let wrong : stage.Struck ≡ stage.Failed = now in cc);
      within = omega arith;
      bounds = o.bounds;
      changes = o.changes;
    }

  -- ---- a fault in a recovery: nobody is inside, and the incarnation stays

  module _ (caller ordinal : ℕ) (kind : Kind) (nth : ℕ) (strokes : List Stroke) (room : JournalRoom) (whose : caller < length core.config.callers) (left : core.journal.room.history ≤ room.history) where
    abbrev fault_again : FaultRecord
    fault_again = record { caller = caller; ordinal = ordinal; kind = kind; nth = nth }

    longer_again : length (core.journal.records ++ fault_again ∷ []) ≡ length core.journal.records + 1
    longer_again = length-append core.journal.records (fault_again ∷ [])

    again : (few : length core.journal.records ≤ core.config.limit) (out : EachCaller (λ caller d. d.inside ≡ false) core.callers) (lives : core.stage ≡ stage.Failed → ⊥)
        (flying : EachCaller (λ at d. IsFlying at d.inside false core.incarnation d.answer d.flight) core.callers) (stamps : StampsAreFew false (length core.journal.history) (length core.journal.records + 1) 0 core.cache.stamps) → 1 ≤ room.trail
        → IsTrailed (record core.journal { records = core.journal.records ++ fault_again ∷ []; trail = core.journal.trail ++ step.Struck (length core.journal.records + 1) ∷ []; room = room }) core.callers stage.Again
        → IsOrderly (roomy (striking_again core caller ordinal kind nth strokes) room)
    again few out lives flying stamps one trailed = record {
      numbered = numbered_strikes core.config core.journal core.callers core.stage stage.Again fault_again _ room o.numbered lives whose (omega (arith, few));
      trailed = trailed;
      flying = flying;
      answers = o.answers;
      unwound = out;
      copies = λ now. absurd (let wrong : stage.Again ≡ stage.Running = now in cc);
      undoable = o.undoable;
      pinned = o.pinned;
      floor = o.floor;
      fresh = λ now. absurd (let wrong : stage.Again ≡ stage.Running = now in cc);
      incarnation = (let low = o.incarnation in let more = longer_again in omega (arith, low, more));
      marks = one;
      entries = (let fit = o.entries in omega (arith, fit, left));
      stamps = subst (λ count. StampsAreFew false (length core.journal.history) count 0 core.cache.stamps) (sym longer_again) stamps;
      logged = o.logged;
      sessions = o.sessions;
      saved = o.saved;
      dropped = λ now. absurd (let wrong : stage.Again ≡ stage.Failed = now in cc);
      within = omega arith;
      bounds = o.bounds;
      changes = o.changes;
    }

    -- in a recovery: at the remount
    pub orderly_strikes_dropped : core.stage ≡ stage.Dropped → 1 ≤ room.trail → IsOrderly (roomy (striking_again core caller ordinal kind nth strokes) room)
    orderly_strikes_dropped is one = again (number_at stage.Dropped is) (inside_at stage.Dropped is) (λ failed. (let wrong : stage.Dropped ≡ stage.Failed = sym is ∙ failed in cc)) (flying_at stage.Dropped is)
        (stamps_again (length core.journal.history) (length core.journal.records) 0 core.cache.stamps (omega arith) (stamps_at stage.Dropped is)) one
        (trailed_strikes_dropped core.journal core.callers core.stage o.trailed fault_again room (mode_at stage.Dropped is))

    -- or at the replay of an operation
    pub orderly_strikes_restored : (done : ℕ) → core.stage ≡ stage.Restored done → 1 ≤ room.trail → IsOrderly (roomy (striking_again core caller ordinal kind nth strokes) room)
    orderly_strikes_restored done is one = again (number_at (stage.Restored done) is) (inside_at (stage.Restored done) is) (λ failed. (let wrong : stage.Restored done ≡ stage.Failed = sym is ∙ failed in cc)) (flying_at (stage.Restored done) is)
        (stamps_again (length core.journal.history) (length core.journal.records) done core.cache.stamps (let low = done_at done is in let all = brief in omega (arith, low, all)) (stamps_at (stage.Restored done) is)) one
        (trailed_strikes_restored core.journal core.callers core.stage o.trailed done fault_again room (mode_at (stage.Restored done) is))

  -- ---- the steps of a recovery

  -- from one stage to the next, both with nobody inside and not running
  onward : (now : Stage) (one : Step) (cache : CacheState D) (opens : OpenCounts) (oplog : List Logged) (room : JournalRoom) (short : length oplog ≤ log) (lives : core.stage ≡ stage.Failed → ⊥) (few : MayNumber (length core.journal.records) core.config.limit now)
      (trailed : IsTrailed (record core.journal { oplog = oplog; trail = core.journal.trail ++ one ∷ []; room = room }) core.callers now)
      (stays : runs core.stage ≡ false) (goes : runs now ≡ false) (out : EachCaller (λ caller d. MayBeInside now d.inside) core.callers) (pins : cache.pins ≡ core.cache.pins) (marks : HasMarks now (insiders core.callers) room)
      (left : core.journal.room.history ≤ room.history) (stamps : StampsAreFew false (length core.journal.history) (length core.journal.records) (replayed now) cache.stamps) (dropped : now ≡ stage.Failed → cache.current ≡ []) (within : replayed now ≤ length oplog)
      → IsOrderly (record core { cache = cache; tables = record core.tables { opens = opens }; journal = record core.journal { oplog = oplog; trail = core.journal.trail ++ one ∷ []; room = room }; stage = now })
  onward now one cache opens oplog room short lives few trailed stays goes out pins marks left stamps dropped within = record {
    numbered = numbered_stage core.config core.journal core.callers core.stage now _ oplog core.journal.sealed_at room o.numbered lives few;
    trailed = trailed;
    flying = λ caller d at. subst (λ b. IsFlying caller d.inside b core.incarnation d.answer d.flight) (stays ∙ sym goes) (o.flying caller d at);
    answers = o.answers;
    unwound = out;
    copies = λ is. absurd (let wrong : true ≡ false = sym (ap runs is) ∙ goes in cc);
    undoable = o.undoable;
    pinned = λ block. ap (λ (p : Stamps). stamp_of p block) pins ∙ o.pinned block;
    floor = o.floor;
    fresh = λ is. absurd (let wrong : true ≡ false = sym (ap runs is) ∙ goes in cc);
    incarnation = o.incarnation;
    marks = marks;
    entries = (let fit = o.entries in omega (arith, fit, left));
    stamps = subst (λ b. StampsAreFew b (length core.journal.history) (length core.journal.records) (replayed now) cache.stamps) (sym goes) stamps;
    logged = (let few = o.logged in omega (arith, few, short));
    sessions = o.sessions;
    saved = o.saved;
    dropped = dropped;
    within = within;
    bounds = o.bounds;
    changes = o.changes;
  }

  module _ (room : JournalRoom) (left : core.journal.room.history ≤ room.history) where
    -- the current pages are dropped, once nobody is inside, where the faults are few enough
    pub orderly_drops : core.stage ≡ stage.Struck → EachCaller (λ caller d. d.inside ≡ false) core.callers → length core.journal.records ≤ core.config.limit → IsOrderly (roomy (dropping core) room)
    orderly_drops is out few = onward stage.Dropped step.Dropped (record core.cache { current = [] }) core.tables.opens core.journal.oplog room (omega arith) (λ failed. (let wrong : stage.Struck ≡ stage.Failed = sym is ∙ failed in cc)) few
        (let mode = mode_at stage.Struck is in trailed_drops core.journal core.callers core.stage o.trailed mode.0 room mode.1) (ap runs is) refl out refl tt left (stamps_at stage.Struck is)
        (λ now. absurd (let wrong : stage.Dropped ≡ stage.Failed = now in cc)) (omega arith)

    pub orderly_drops_again : core.stage ≡ stage.Again → length core.journal.records ≤ core.config.limit → IsOrderly (roomy (dropping core) room)
    orderly_drops_again is few = onward stage.Dropped step.Dropped (record core.cache { current = [] }) core.tables.opens core.journal.oplog room (omega arith) (λ failed. (let wrong : stage.Again ≡ stage.Failed = sym is ∙ failed in cc)) few
        (trailed_drops_again core.journal core.callers core.stage o.trailed room (mode_at stage.Again is)) (ap runs is) refl (inside_at stage.Again is) refl tt left (stamps_at stage.Again is)
        (λ now. absurd (let wrong : stage.Dropped ≡ stage.Failed = now in cc)) (omega arith)

    -- the volume fails
    pub orderly_fails : core.stage ≡ stage.Struck → EachCaller (λ caller d. d.inside ≡ false) core.callers → core.config.limit < length core.journal.records → IsOrderly (roomy (failing core) room)
    orderly_fails is out many = onward stage.Failed (step.Failed (length core.journal.records)) (record core.cache { current = [] }) core.tables.opens core.journal.oplog room (omega arith) (λ failed. (let wrong : stage.Struck ≡ stage.Failed = sym is ∙ failed in cc))
        (let few = number_at stage.Struck is in omega (arith, few, many))
        (let mode = mode_at stage.Struck is in trailed_fails core.journal core.callers core.stage o.trailed mode.0 room mode.1) (ap runs is) refl out refl tt left (stamps_at stage.Struck is) (λ now. refl) (omega arith)

    pub orderly_fails_again : core.stage ≡ stage.Again → core.config.limit < length core.journal.records → IsOrderly (roomy (failing core) room)
    orderly_fails_again is many = onward stage.Failed (step.Failed (length core.journal.records)) (record core.cache { current = [] }) core.tables.opens core.journal.oplog room (omega arith) (λ failed. (let wrong : stage.Again ≡ stage.Failed = sym is ∙ failed in cc))
        (let few = number_at stage.Again is in omega (arith, few, many))
        (trailed_fails_again core.journal core.callers core.stage o.trailed room (mode_at stage.Again is)) (ap runs is) refl (inside_at stage.Again is) refl tt left (stamps_at stage.Again is) (λ now. refl) (omega arith)

    pub orderly_remounts : (disk : D) (oplog : List Logged) → length oplog ≤ log → core.stage ≡ stage.Dropped → IsOrderly (roomy (remounting core disk oplog) room)
    orderly_remounts disk oplog short is = onward stage.Remounted step.Remounted (record core.cache { disk = disk }) core.tables.opens oplog room short (λ failed. (let wrong : stage.Dropped ≡ stage.Failed = sym is ∙ failed in cc)) (number_at stage.Dropped is)
        (trailed_remounts core.journal core.callers core.stage o.trailed oplog room short (mode_at stage.Dropped is)) (ap runs is) refl (inside_at stage.Dropped is) refl tt left (stamps_at stage.Dropped is)
        (λ now. absurd (let wrong : stage.Remounted ≡ stage.Failed = now in cc)) (omega arith)

    pub orderly_reopens : (opens : OpenCounts) → core.stage ≡ stage.Remounted → IsOrderly (roomy (reopening core opens) room)
    orderly_reopens opens is = onward (stage.Restored 0) step.Reopened core.cache opens core.journal.oplog room (omega arith) (λ failed. (let wrong : stage.Remounted ≡ stage.Failed = sym is ∙ failed in cc)) (number_at stage.Remounted is)
        (trailed_reopens core.journal core.callers core.stage o.trailed room (mode_at stage.Remounted is)) (ap runs is) refl (inside_at stage.Remounted is) refl tt left (stamps_at stage.Remounted is)
        (λ now. absurd (let wrong : stage.Restored 0 ≡ stage.Failed = now in cc)) (omega arith)

    pub orderly_replays : (cache : CacheState D) (opens : OpenCounts) (done : ℕ) → core.stage ≡ stage.Restored done → done < log → ((block : ℕ) → stamp_of cache.stamps block ≤ stamp_of core.cache.stamps block + 1)
        → IsOrderly (roomy (replaying core cache opens done) room)
    orderly_replays cache opens done is low rise = onward (stage.Restored (done + 1)) (step.Replayed (done + 1)) (record core.cache { disk = cache.disk; current = cache.current; stamps = cache.stamps; room = cache.room }) opens core.journal.oplog room (omega arith)
        (λ failed. (let wrong : stage.Restored done ≡ stage.Failed = sym is ∙ failed in cc)) (number_at (stage.Restored done) is)
        (trailed_replays core.journal core.callers core.stage o.trailed done room (mode_at (stage.Restored done) is) low) (ap runs is) refl (inside_at (stage.Restored done) is) refl tt left
        (stamps_replay (length core.journal.history) (length core.journal.records) done core.cache.stamps cache.stamps rise (stamps_at (stage.Restored done) is))
        (λ now. absurd (let wrong : stage.Restored (done + 1) ≡ stage.Failed = now in cc)) (omega (arith, low))

    -- the volume runs again: nobody is inside, so nobody keeps a copy or the floor
    pub orderly_resumes : (done : ℕ) → core.stage ≡ stage.Restored done → IsOrderly (roomy (resuming core) room)
    orderly_resumes done is =
        let out : EachCaller (λ caller d. d.inside ≡ false) core.callers = inside_at (stage.Restored done) is in
        let nobody : insiders core.callers ≡ 0 = none_inside core.callers out in
        let free = no_floor core.callers core.floor o.floor out in
        record {
          numbered = numbered_stage core.config core.journal core.callers core.stage stage.Running _ core.journal.oplog core.journal.sealed_at room o.numbered (λ failed. (let wrong : stage.Restored done ≡ stage.Failed = sym is ∙ failed in cc))
              (number_at (stage.Restored done) is);
          trailed = trailed_resumes core.journal core.callers core.stage o.trailed done room (mode_at (stage.Restored done) is);
          flying = λ caller d at. subst (λ b. IsFlying caller b true core.incarnation d.answer d.flight) (sym (out caller d at))
              (flying_outside caller d.inside true core.incarnation d.answer d.flight (flying_at (stage.Restored done) is caller d at));
          answers = o.answers;
          unwound = λ caller d at. tt;
          copies = λ now caller d at. (let none = (o.undoable caller d at).outside (out caller d at) in none_kept caller core.cache.stamps core.tables d.pages none.2 none.3);
          undoable = o.undoable;
          pinned = o.pinned;
          floor = o.floor;
          fresh = λ now caller d at holds. absurd (let wrong : None ≡ Some caller = sym free ∙ holds in cc);
          incarnation = o.incarnation;
          marks = λ some. absurd (omega (arith, some, nobody));
          entries = (let fit = o.entries in omega (arith, fit, left));
          stamps = stamps_resume (length core.journal.history) (length core.journal.records) done core.cache.stamps (let low = done_at done is in let all = brief in omega (arith, low, all)) (stamps_at (stage.Restored done) is);
          logged = o.logged;
          sessions = o.sessions;
          saved = o.saved;
          dropped = λ now. absurd (let wrong : stage.Running ≡ stage.Failed = now in cc);
          within = omega arith;
          bounds = o.bounds;
          changes = o.changes;
        }

    -- ---- a checkpoint

    pub orderly_seals : (sealed : PageList) → core.stage ≡ stage.Running → (1 ≤ insiders core.callers → (insiders core.callers + 2 ≤ room.trail) × (1 ≤ room.records)) → IsOrderly (roomy (sealing core sealed) room)
    orderly_seals sealed is marks = record {
      numbered = numbered_rest core.config core.journal core.callers core.stage _ [] (length core.journal.history) room o.numbered;
      trailed = subst (IsTrailed _ core.callers) (sym is) (trailed_seals core.journal core.callers core.stage o.trailed room (mode_at stage.Running is));
      flying = o.flying;
      answers = o.answers;
      unwound = o.unwound;
      copies = λ now caller d at. (let keeps = o.copies now caller d at in record { old = keeps.old; tables = tables_sealed caller core.tables core.tables.sessions d.pages.tables keeps.tables });
      undoable = o.undoable;
      pinned = o.pinned;
      floor = o.floor;
      fresh = λ now caller d at holds. (let fresh = o.fresh now caller d at holds in record { blocks = fresh.blocks; tables = fresh.tables });
      incarnation = o.incarnation;
      marks = subst (λ s. HasMarks s (insiders core.callers) room) (sym is) marks;
      entries = (let fit = o.entries in omega (arith, fit, left));
      stamps = o.stamps;
      logged = omega arith;
      sessions = o.sessions;
      saved = o.sessions;
      dropped = λ now. refl;
      within = (let none : replayed core.stage ≡ 0 = ap replayed is in omega (arith, none));
      bounds = o.bounds;
      changes = o.changes;
    }

  -- the room of the cache
  pub orderly_roomy : (room : CacheRoom) → IsOrderly (record core { cache = record core.cache { room = room } })
  orderly_roomy room = record {
    numbered = o.numbered;
    trailed = o.trailed;
    flying = o.flying;
    answers = o.answers;
    unwound = o.unwound;
    copies = o.copies;
    undoable = o.undoable;
    pinned = o.pinned;
    floor = o.floor;
    fresh = o.fresh;
    incarnation = o.incarnation;
    marks = o.marks;
    entries = o.entries;
    stamps = o.stamps;
    logged = o.logged;
    sessions = o.sessions;
    saved = o.saved;
    dropped = o.dropped;
    within = o.within;
    bounds = o.bounds;
    changes = o.changes;
  }

  pub orderly_flushes : (disk : D) (sealed : PageList) → IsOrderly (flushing core disk sealed)
  orderly_flushes disk sealed = record {
    numbered = o.numbered;
    trailed = o.trailed;
    flying = o.flying;
    answers = o.answers;
    unwound = o.unwound;
    copies = o.copies;
    undoable = o.undoable;
    pinned = o.pinned;
    floor = o.floor;
    fresh = o.fresh;
    incarnation = o.incarnation;
    marks = o.marks;
    entries = o.entries;
    stamps = o.stamps;
    logged = o.logged;
    sessions = o.sessions;
    saved = o.saved;
    dropped = o.dropped;
    within = o.within;
    bounds = o.bounds;
    changes = o.changes;
  }
