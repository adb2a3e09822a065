use Rattle.mb_core_state.proofs.fields.Fields.answer_by.Goals as goal

pub end-flight-requires : goal.end-flight-requires
end-flight-requires g c = record { pins = λ block. (rw (← c.self.view_is) at c.requires.pins) _ block c.get_mut.ensures.here }
