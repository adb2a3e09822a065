use Rattle.mb_core_state.proofs.fields.Fields.gather_anew.Goals as goal

pub give_back_copies-requires-clause-pins : goal.give_back_copies-requires-clause-pins
give_back_copies-requires-clause-pins g c = λ mine block here. (rw (← c.self.view_is) at c.requires.pins) mine block here
