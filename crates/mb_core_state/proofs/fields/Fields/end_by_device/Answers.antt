use Rattle.std.proofs.Common.{Option, ℕ, subst, sym}
use Rattle.std.specs.Prelude.{IfSome}
use Rattle.mb_core_state.specs.Redoing.{EndsByDevice, HasOpenRoom}
use Rattle.mb_core_state.proofs.Held.{some_flight}
use Rattle.mb_core_state.proofs.Redoings.{ends_waiting, has_open_room}
use Rattle.mb_core_state.proofs.fields.Fields.end_by_device.Goals as goal

pub answer_by-requires-clause-room : goal.answer_by-requires-clause-room
answer_by-requires-clause-room g c =
    let there = c.awaits.ensures.there c.if-awaits.true in
    has_open_room c.args.self.now c.in-Some.caller there.0 (subst (λ (by : Option ℕ). IfSome by (HasOpenRoom c.args.self.now)) c.in-Some.is c.requires.room) there.1 there.2
    (c.awaits.ensures.waits c.if-awaits.true there.0 there.1)

pub returns-then-awaits-clause-ends : goal.returns-then-awaits-clause-ends
returns-then-awaits-clause-ends g c =
    let there = c.awaits.ensures.there c.if-awaits.true in
    subst (λ (by : Option ℕ). EndsByDevice c.args.self.now c.answer_by.new.self by) (sym c.in-Some.is) (λ mine here.
    ends_waiting c.args.self.now c.answer_by.new.self c.in-Some.caller mine (c.awaits.ensures.waits c.if-awaits.true mine here)
    (some_flight c.args.self.now.callers c.in-Some.caller there.0 mine there.1 here there.2) (λ flight flies. (let done = c.answer_by.ensures.answered mine flight here flies in (done.0, done.1, c.answer_by.ensures.room))))
