use Rattle.mb_core_state.proofs.fields.Fields.give_back_copies.Goals as goal

pub gather_anew-requires-clause-pins : goal.gather_anew-requires-clause-pins
gather_anew-requires-clause-pins g c = λ block. (rw (← c.self.view_is) at c.requires.pins) _ block c.get_mut.ensures.here
