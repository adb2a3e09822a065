use Rattle.mb_check.proofs.Parenting.{parent_by_late}
use Rattle.std.proofs.Common.{◌∙◌}
use Rattle.mb_check.proofs.links.keeps_parent.Goals as goal

pub returns : goal.returns
returns c blocks knows from low is =
    c.is_parent.ensures ∙ parent_by_late blocks c.args.dir c.tally_of.result.late c.tally_of.result.all c.parent_of.result c.is_flagged.result (c.tally_of.ensures blocks knows.counted low)
    (c.parent_of.ensures blocks knows.counted low is) (knows.upward c.args.dir from low is) (c.is_flagged.ensures blocks knows.flags low)
