use Rattle.std.proofs.Common.{Ok, sym, subst, ◌≡◌, ◌∙◌}
use Rattle.mb_kinds.specs.declared.errors.Errno.TheVariants.{EBADF}
use Rattle.mb_tree.specs.Answers.{Answer, ◌>>=◌, some}
use Rattle.mb_tree.specs.Lookup.{stat_in}
use Rattle.mb_tree.specs.Sessions.{file_on}
use Rattle.mb_tree.specs.declared.seats.PlainFile.{PlainFile}
use Rattle.mb_calls.specs.Halts.{Matches}
use Rattle.mb_tree.specs.Rows.{stat_found}
use Rattle.mb_calls.specs.Halts.Scope.{lacking}
use Rattle.mb_tree.proofs.Outcomes.{some_ok}
use Rattle.mb_calls.proofs.Asking.{openable_there, opened}
use Rattle.mb_calls.specs.Halts.Scope.{around}
use Rattle.mb_calls.proofs.Nearby.{file_looked}
use Rattle.mb_calls.proofs.planning.fstat_row.Goals as goal

pub returns-in-Ok-clause-wants : goal.returns-in-Ok-clause-wants
returns-in-Ok-clause-wants g c = c.stat_asked.ensures.follows.need (lacking _) c.info-asked.ensures.wants

pub returns-in-Ok-clause-says : goal.returns-in-Ok-clause-says
returns-in-Ok-clause-says g c = λ image tree over.
    let at : some (file_on c.args.seat.now c.args.fd) EBADF ≡ Ok c.in-Ok.file = sym c.open_file.ensures.row ∙ c.in-Ok.is in
    let found = some_ok (file_on c.args.seat.now c.args.fd) EBADF c.in-Ok.file at in
    subst (λ (r : Answer PlainFile). Matches c.stat_asked.result (r >>= (λ (file : PlainFile). stat_in tree.nodes file.ino >>= stat_found))) (sym at) (c.stat_asked.ensures.follows.gives _ (c.info-asked.ensures.says image tree over.part over.volume (openable_there tree.nodes c.in-Ok.file.ino (opened tree.nodes c.args.seat.now c.args.fd c.in-Ok.file over.seated found))))

pub returns-in-Ok-clause-near : goal.returns-in-Ok-clause-near
returns-in-Ok-clause-near g c = λ image tree made over.
    let at : some (file_on c.args.seat.now c.args.fd) EBADF ≡ Ok c.in-Ok.file = sym c.open_file.ensures.row ∙ c.in-Ok.is in
    let found = some_ok (file_on c.args.seat.now c.args.fd) EBADF c.in-Ok.file at in
    c.stat_asked.ensures.follows.need (around image tree c.args.seat.now made)
    (c.info-asked.ensures.near image tree c.args.seat.now made over.part over.volume (openable_there tree.nodes c.in-Ok.file.ino (opened tree.nodes c.args.seat.now c.args.fd c.in-Ok.file over.seated found)) (file_looked tree.nodes c.args.seat.now made c.args.fd c.in-Ok.file found))
