-- A call that gathers: the core is in order after it.
use Rattle.std.proofs.Common.{List, [], ◌∷◌, ◌++◌, ℕ, ◌≤◌, ◌≡◌, ◌∙◌, inl, inr, true, cond, Option, Some, IsSome, count_by, slice_get, refl, sym, subst, arith}
use Rattle.std.proofs.lemmas.Bool.{cases_lt}
use Rattle.std.proofs.lemmas.List.Sums.{sum_by-append}
use Rattle.mb_kinds.specs.Image.{Image}
use Rattle.mb_kinds.specs.declared.entries.Entry.{Entry}
use Rattle.mb_kinds.specs.declared.entries.Flight.{Flight}
use Rattle.mb_kinds.specs.declared.faults.Ticket.{Ticket}
use Rattle.mb_kinds.specs.declared.replies.Reply.TheVariants as reply
use Rattle.mb_edge.specs.Causes.{Rose}
use Rattle.mb_iface.specs.declared.replies.Need.{Need}
use Rattle.mb_callers.specs.CallerLaws.{IsGathering}
use Rattle.mb_callers.proofs.Gatherings.{blocks_gathered, tables_gathered}
use Rattle.mb_core_spec.specs.Copies.{PagesState}
use Rattle.mb_core_spec.specs.Events.{Leaves, answered_by, entry_for, gathering, roomy}
use Rattle.mb_core_spec.specs.Faults.{FewDevices, is_device}
use Rattle.mb_core_spec.specs.Right.{Right}
use Rattle.mb_core_spec.specs.State.{CallerState, CoreState, JournalRoom}
use Rattle.mb_core_spec.specs.declared.stages.Stage.TheVariants as stage
use Rattle.mb_core_order.proofs.Rights.{right_flushes}
use Rattle.mb_core_order.proofs.RightsOfCalls.{right_answers, right_gathers}
use Rattle.mb_core_state.specs.Answers.{Gathering, KeepsGathered, live_copy, with_disk}
use Rattle.mb_core_state.specs.declared.answers.Gathered.{Gathered}
use Rattle.mb_core_state.specs.declared.answers.Gathered.TheVariants as gathered
use Rattle.mb_core_events.specs.Callings.{IsAsked, IsUnanswered}
use Rattle.mb_core_events.proofs.Kept.{carries}
use Rattle.mb_core_events.proofs.Knowing.{runs_now, within}

-- the disk ended one call more
pub few_device : (before mid now : ℕ) (history : List Entry) (entry : Entry) → FewDevices before mid history → mid ≤ now → Rose mid now → is_device entry.reply ≡ true → FewDevices before now (history ++ entry ∷ [])
few_device before mid now history entry so_far later rose ended = λ below.
    (let counted = sum_by-append (λ (e : Entry). cond (is_device e.reply) 1 0) history (entry ∷ []) in
    let earlier = so_far (omega arith) in
    let one : count_by (λ (e : Entry). is_device e.reply) (entry ∷ []) ≡ 1 = rw ended refl in
    omega arith)

module _ {F D : Type 0} (told : D → Option Image) (faults : D → ℕ) (core : CoreState F D) (r : Right told faults core) where
  -- the disk was read
  pub read_right : (disk : D) → told disk ≡ told core.cache.disk → faults core.cache.disk ≤ faults disk → Right told faults (with_disk core disk)
  read_right disk same later = right_flushes told faults core r disk core.cache.sealed (λ first image began now. (image, sym same ∙ now, refl)) (λ tells. subst (λ (t : Option Image). IsSome t) (sym same) tells) later

  gathers_by : (new : CoreState F D) (caller : ℕ) (need : Need) (mine : CallerState) (pages got : PagesState) → IsAsked need → (by : KeepsGathered told core new caller need mine pages got)
      → IsGathering told core.cache new.cache core.tables mine by.kept
  gathers_by new caller need mine pages got asked by = elim (cases_lt 0 need.first) [
    | inl some ↦ (blocks_gathered told core.cache new.cache core.tables mine need by.kept pages got (by.blocks (omega (arith, some))) (omega (arith, some)) asked.some).event
    | inr none ↦ (tables_gathered told core.cache new.cache core.tables mine (live_copy core.tables) by.kept pages got refl (by.tables (omega (arith, none)))).event
  ]

  pub gathered_right : (new : CoreState F D) (ticket : Ticket) (need : Need) (pages got : PagesState) (answer : Gathered) → IsUnanswered core ticket → IsAsked need
      → ((mine : CallerState) (flight : Flight) → slice_get core.callers ticket.caller ≡ Some mine → mine.flight ≡ Some flight → Gathering told faults core new ticket need mine flight pages got answer)
      → told new.cache.disk ≡ told core.cache.disk → faults core.cache.disk ≤ faults new.cache.disk → Leaves core.journal.room new.journal.room 0 1 → ((answer ≡ gathered.Device → ⊥) → new.journal.room ≡ core.journal.room)
      → Right told faults new
  gathered_right new ticket need pages got (gathered.Skip was now) has asked by same later room kept = subst (Right told faults) (sym (by has.0.mine has.0.flight has.0.here has.0.flies).0.same) r
  gathered_right new ticket need pages got gathered.Device has asked by same later room kept =
      let of = has.0 in
      let its = by of.mine of.flight of.here of.flies in
      let running = runs_now told faults core r ticket of its.0 in
      carries told faults (answered_by (with_disk core new.cache.disk) ticket.caller of.mine of.flight reply.Device new.cache.pins) new its.2
      (right_answers told faults (with_disk core new.cache.disk) (read_right new.cache.disk same later) ticket.caller of.mine of.here of.flight reply.Device new.cache.pins new.journal.room
      (rw of.flies (rw has.1 refl)) tt its.3 room tt (λ failed. absurd (let wrong : stage.Running ≡ stage.Failed = sym running ∙ failed in cc))
      (few_device (faults core.first) (faults core.cache.disk) (faults new.cache.disk) core.journal.history (entry_for ticket.caller of.flight _ reply.Device) r.devices later its.1 refl))
  gathered_right new ticket need pages got gathered.NoMemory has asked by same later room kept =
      let of = has.0 in
      let its = by of.mine of.flight of.here of.flies in
      let stays = kept (λ is. (let wrong : gathered.NoMemory ≡ gathered.Device = is in cc)) in
      carries told faults (with_disk core new.cache.disk) new its.1
      (subst (λ (left : JournalRoom). Right told faults (roomy (with_disk core new.cache.disk) left)) (sym stays) (read_right new.cache.disk same later))
  gathered_right new ticket need pages got gathered.Done has asked by same later room kept =
      let of = has.0 in
      let its = by of.mine of.flight of.here of.flies in
      let w = within told faults core r ticket of its.0 in
      let event = gathers_by new ticket.caller need of.mine pages got asked its.1 in
      let stays = kept (λ is. (let wrong : gathered.Done ≡ gathered.Device = is in cc)) in
      carries told faults (gathering core new.cache.disk ticket.caller of.mine its.1.kept.pages its.1.kept.undo new.cache.pins new.cache.room) new its.2
      (subst (λ (left : JournalRoom). Right told faults (roomy (gathering core new.cache.disk ticket.caller of.mine its.1.kept.pages its.1.kept.undo new.cache.pins new.cache.room) left)) (sym stays)
      (right_gathers told faults core r ticket.caller of.mine of.here new.cache.disk its.1.kept.pages its.1.kept.undo new.cache.pins new.cache.room w.inside event.gathers event.pinned event.reads same later))
