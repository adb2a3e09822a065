use Rattle.mb_check_files.proofs.Covering.{covers_so, torn_not}
use Rattle.mb_check_files.proofs.part_lists.PartList.covers.Goals as goal

pub returns-in-Torn : goal.returns-in-Torn
returns-in-Torn c blocks ino lists few sized = torn_not blocks ino c.args.from c.args.self.now lists c.args.size sized c.in-Torn.is

pub returns : goal.returns
returns c blocks ino lists few sized = covers_so blocks ino c.args.from c.args.self.now lists c.args.size sized c.in_default.not-Torn few c.listed.result c.listed.ensures
