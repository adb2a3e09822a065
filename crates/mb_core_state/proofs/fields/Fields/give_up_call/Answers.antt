use Rattle.mb_core_state.proofs.Enterings.{call_flies, call_here, given_up, pins_there, some_is}
use Rattle.mb_core_state.specs.Entering.{flight_of, with_call}
use Rattle.mb_core_state.proofs.fields.Fields.give_up_call.Goals as goal

pub answer_by-requires-clause-flight : goal.answer_by-requires-clause-flight
answer_by-requires-clause-flight g c =
    let mine = c.requires.ready.0 in let here = c.requires.ready.1 in let waits = c.in_ok-wait.ensures.ok mine here in (
      with_call c.args.self.now mine c.args.call.now,
      call_here c.args.self.now c.wait.new.self c.args.caller mine c.args.call.now here waits,
      some_is _ _ (call_flies c.args.self.now c.wait.new.self c.args.caller mine c.args.call.now here waits),
    )

pub answer_by-requires-clause-pins : goal.answer_by-requires-clause-pins
answer_by-requires-clause-pins g c =
    let mine = c.requires.ready.0 in let here = c.requires.ready.1 in
    pins_there c.args.self.now c.wait.new.self c.args.caller mine c.args.call.now here (c.in_ok-wait.ensures.ok mine here) c.requires.pins

pub returns-clause-ok : goal.returns-clause-ok
returns-clause-ok g c = λ mine here.
    let waits = c.in_ok-wait.ensures.ok mine here in
    given_up c.args.self.now c.wait.new.self c.args.caller mine c.args.call.now here waits c.answer_by.new.self c.args.answer c.wait.ensures.kept c.in_ok-wait.ensures.room c.answer_by.ensures.room
    (c.answer_by.ensures.answered (with_call c.args.self.now mine c.args.call.now) (flight_of c.args.self.now mine c.args.call.now)
    (call_here c.args.self.now c.wait.new.self c.args.caller mine c.args.call.now here waits) (call_flies c.args.self.now c.wait.new.self c.args.caller mine c.args.call.now here waits))
