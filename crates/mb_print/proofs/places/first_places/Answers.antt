use Rattle.mb_print.proofs.Remaining.{zero_anywhere}
use Rattle.mb_print.proofs.places.first_places.Goals as goal

pub returns : goal.returns
returns c = λ caller. zero_anywhere 256 caller
