use Rattle.std.proofs.Common.{ap, sym, subst}
use Rattle.mb_check_files.specs.declared.part_lists.PartList.{PartList}
use Rattle.mb_check_files.specs.PartLists.{Notes, run_passed}
use Rattle.mb_check_files.proofs.Notings.{passed_notes}
use Rattle.mb_check_files.proofs.part_lists.PartList.pass.Goals as goal

pub returns-clause-notes : goal.returns-clause-notes
returns-clause-notes c below n some holes = subst (λ run. Notes c.args.self.now (record { addresses = c.args.self.now.addresses; run = run }) below n) (sym c.passed-self.ensures) (passed_notes c.args.self.now below n some holes)
