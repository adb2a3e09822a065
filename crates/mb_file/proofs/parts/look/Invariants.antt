use Rattle.std.proofs.Common.{◌-◌}
use Rattle.mb_file.proofs.parts.look.Given as goal

abbrev pub decreases-loop-part : goal.decreases-loop-part
decreases-loop-part g l = l.end - l.part
