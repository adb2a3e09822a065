use Rattle.mb_core_state.proofs.Redoings.{keeps_open_room}
use Rattle.mb_core_state.proofs.fields.Fields.replay_one.Goals as goal

pub end_by_device-requires-clause-room : goal.end_by_device-requires-clause-room
end_by_device-requires-clause-room g c = keeps_open_room c.args.self.now c.redo.new.self c.args.by c.in-Err-Device.ensures.err.0 c.in-Err-Device.ensures.err.1 c.requires.room
