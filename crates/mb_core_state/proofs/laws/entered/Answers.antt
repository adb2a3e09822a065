use Rattle.mb_core_state.proofs.GoneIn.{entered_again, entered_new}
use Rattle.mb_core_state.proofs.laws.entered.Goals as goal

pub returns-clause-again : goal.returns-clause-again
returns-clause-again g c = λ old new caller mine flight given ticket here flies unanswered outside runs goes. entered_again old new caller mine given ticket here outside runs goes flight flies unanswered

pub returns-clause-new : goal.returns-clause-new
returns-clause-new g c = λ old new caller mine given ticket here none outside runs call few space goes. entered_new old new caller mine given ticket here outside runs goes none call few space
