-- Each clause is its lemma.
use Rattle.mb_turn.proofs.Composing.{own_grows_by, others_stay}
use Rattle.mb_turn.proofs.laws.own_entries.Goals as goal

pub returns-clause-grow : goal.returns-clause-grow
returns-clause-grow c = own_grows_by

pub returns-clause-stay : goal.returns-clause-stay
returns-clause-stay c = others_stay
