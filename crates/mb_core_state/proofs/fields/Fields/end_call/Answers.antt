use Rattle.std.proofs.Common.{◌∙◌, sym, subst}
use Rattle.mb_core_state.specs.Rooms.{HasPins}
use Rattle.mb_core_state.proofs.fields.Fields.end_call.Goals as goal

pub end-flight-requires : goal.end-flight-requires
end-flight-requires g c = record { pins = λ block. subst (λ core. HasPins core c.args.caller) (sym (c.self.view_is ∙ c.give_floor.ensures)) c.requires.pins _ block c.get_mut.ensures.here }
