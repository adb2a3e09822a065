use Rattle.mb_check_files.proofs.Notings.{added_lists}
use Rattle.mb_check_files.proofs.part_lists.PartList.add.Goals as goal

pub returns-in_ok-push-in-Whole-clause-notes : goal.returns-in_ok-push-in-Whole-clause-notes
returns-in_ok-push-in-Whole-clause-notes c address from below same lists =
    added_lists c.args.self.now (record { addresses = c.push.new.self; run = c.args.self.now.run }) c.args.address c.in-Whole.is c.in-Whole.is c.in_ok-push-in-Whole.ensures.items c.requires address from below same lists
