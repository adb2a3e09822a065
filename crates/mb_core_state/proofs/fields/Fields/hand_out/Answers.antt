use Rattle.mb_core_state.proofs.Held.{some_is}
use Rattle.mb_core_state.proofs.fields.Fields.hand_out.Goals as goal

pub unreachable-requires : goal.unreachable-requires
unreachable-requires g c =
    let asked = c.requires.answer in
    let ended = c.end_call.ensures.ended asked.0 asked.1 in
    some_is asked.0.answer c.end_call.result asked.2 ended.0 c.in_default.is
