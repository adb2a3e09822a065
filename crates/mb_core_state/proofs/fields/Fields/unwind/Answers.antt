use Rattle.mb_core_state.proofs.fields.Fields.unwind.Goals as goal

pub unwind-requires : goal.unwind-requires
unwind-requires g c = record { pins = λ block. (rw (← c.self.view_is) at c.requires.pins) _ block c.get_mut.ensures.here }
