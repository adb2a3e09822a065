use Rattle.std.proofs.Common.{Ok, sym, subst, ◌≡◌, ◌∙◌}
use Rattle.mb_kinds.specs.declared.errors.Errno.TheVariants.{EBADF}
use Rattle.mb_tree.specs.Answers.{Answer, ◌>>=◌, ◌>>◌, need, some}
use Rattle.std.specs.FinMap as fin
use Rattle.mb_tree.specs.Inodes.{read_at}
use Rattle.mb_tree.specs.Rows.{got}
use Rattle.mb_tree.specs.declared.nodes.Node.{Node}
use Rattle.mb_tree.specs.Sessions.{file_on, reads}
use Rattle.mb_tree.specs.declared.seats.PlainFile.{PlainFile}
use Rattle.mb_calls.specs.Halts.{Matches}
use Rattle.mb_calls.specs.Halts.Scope.{lacking}
use Rattle.mb_tree.proofs.Outcomes.{some_ok}
use Rattle.mb_calls.proofs.Asking.{opened, read_gives}
use Rattle.mb_calls.specs.Halts.Scope.{around}
use Rattle.mb_calls.proofs.Nearby.{file_looked}
use Rattle.mb_calls.proofs.planning.read_row.Goals as goal

pub returns-in-Ok-clause-wants : goal.returns-in-Ok-clause-wants
returns-in-Ok-clause-wants g c = c.read_asked.ensures.follows.need (lacking _) c.bytes-asked.ensures.wants

pub returns-in-Ok-clause-says : goal.returns-in-Ok-clause-says
returns-in-Ok-clause-says g c = λ image tree over.
    let at : some (file_on c.args.seat.now c.args.fd) EBADF ≡ Ok c.in-Ok.file = sym c.open_file.ensures.row ∙ c.in-Ok.is in
    let found = some_ok (file_on c.args.seat.now c.args.fd) EBADF c.in-Ok.file at in
    subst (λ (r : Answer PlainFile). Matches c.read_asked.result (r >>= (λ (file : PlainFile). need (reads file.how) EBADF >> (some (fin.get tree.nodes file.ino) EBADF >>= (λ (node : Node). Ok (got c.args.fd file.offset (read_at node.body file.offset c.args.count))))))) (sym at)
    (subst (λ b. Matches c.read_asked.result (need b EBADF >> (some (fin.get tree.nodes c.in-Ok.file.ino) EBADF >>= (λ (node : Node). Ok (got c.args.fd c.in-Ok.file.offset (read_at node.body c.in-Ok.file.offset c.args.count)))))) (sym (sym c.reads.ensures ∙ c.if-reads.true))
    (read_gives c.read_asked.result tree.nodes c.args.fd c.args.count c.in-Ok.file
    (c.read_asked.ensures.follows.gives _ (c.bytes-asked.ensures.says image tree over.part over.volume (opened tree.nodes c.args.seat.now c.args.fd c.in-Ok.file over.seated found)))))

pub returns-in-Ok-clause-near : goal.returns-in-Ok-clause-near
returns-in-Ok-clause-near g c = λ image tree made over.
    let at : some (file_on c.args.seat.now c.args.fd) EBADF ≡ Ok c.in-Ok.file = sym c.open_file.ensures.row ∙ c.in-Ok.is in
    let found = some_ok (file_on c.args.seat.now c.args.fd) EBADF c.in-Ok.file at in
    c.read_asked.ensures.follows.need (around image tree c.args.seat.now made)
    (c.bytes-asked.ensures.near image tree c.args.seat.now made over.part over.volume (opened tree.nodes c.args.seat.now c.args.fd c.in-Ok.file over.seated found) (file_looked tree.nodes c.args.seat.now made c.args.fd c.in-Ok.file found))
