use Rattle.std.proofs.Common.{Ok, sym, subst, ◌≡◌, ◌∙◌}
use Rattle.mb_kinds.specs.declared.errors.Errno.TheVariants.{EBADF}
use Rattle.mb_tree.specs.Answers.{Answer, ◌>>=◌, some}
use Rattle.mb_tree.specs.Rows.{base_of}
use Rattle.mb_tree.specs.Sessions.{file_on}
use Rattle.mb_tree.specs.declared.seats.PlainFile.{PlainFile}
use Rattle.mb_calls.specs.Halts.{Matches}
use Rattle.mb_tree.specs.Rows.{lseek_from}
use Rattle.mb_calls.specs.Halts.Scope.{lacking}
use Rattle.mb_tree.proofs.Outcomes.{some_ok}
use Rattle.std.proofs.Math.Facts.{to_z-of_z}
use Rattle.mb_calls.proofs.Asking.{openable_there, opened}
use Rattle.mb_calls.specs.Halts.Scope.{around}
use Rattle.mb_calls.proofs.Nearby.{file_looked}
use Rattle.mb_calls.proofs.planning.lseek_row.Goals as goal

pub returns-in-Ok-clause-wants : goal.returns-in-Ok-clause-wants
returns-in-Ok-clause-wants g c = c.lseek_asked.ensures.follows.need (lacking _) c.base_of-asked.ensures.wants

pub returns-in-Ok-clause-says : goal.returns-in-Ok-clause-says
returns-in-Ok-clause-says g c = λ image tree over.
    let at : some (file_on c.args.seat.now c.args.fd) EBADF ≡ Ok c.in-Ok.file = sym c.open_file.ensures.row ∙ c.in-Ok.is in
    let found = some_ok (file_on c.args.seat.now c.args.fd) EBADF c.in-Ok.file at in
    subst (λ (r : Answer PlainFile). Matches c.lseek_asked.result (r >>= (λ (file : PlainFile). lseek_from c.args.fd c.args.by (base_of tree.nodes file c.args.whence)))) (sym at) (subst (λ by. Matches c.lseek_asked.result (lseek_from c.args.fd by (base_of tree.nodes c.in-Ok.file c.args.whence))) (to_z-of_z c.ranges.by)
    (c.lseek_asked.ensures.follows.gives _ (c.base_of-asked.ensures.says image tree over.part over.volume (openable_there tree.nodes c.in-Ok.file.ino (opened tree.nodes c.args.seat.now c.args.fd c.in-Ok.file over.seated found)))))

pub returns-in-Ok-clause-near : goal.returns-in-Ok-clause-near
returns-in-Ok-clause-near g c = λ image tree made over.
    let at : some (file_on c.args.seat.now c.args.fd) EBADF ≡ Ok c.in-Ok.file = sym c.open_file.ensures.row ∙ c.in-Ok.is in
    let found = some_ok (file_on c.args.seat.now c.args.fd) EBADF c.in-Ok.file at in
    c.lseek_asked.ensures.follows.need (around image tree c.args.seat.now made)
    (c.base_of-asked.ensures.near image tree c.args.seat.now made over.part over.volume (openable_there tree.nodes c.in-Ok.file.ino (opened tree.nodes c.args.seat.now c.args.fd c.in-Ok.file over.seated found)) (file_looked tree.nodes c.args.seat.now made c.args.fd c.in-Ok.file found))
