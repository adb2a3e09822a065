use Rattle.mb_iface.proofs.CountMaps.{counts_tell}
use Rattle.mb_iface.proofs.laws.counts_tell.Goals as goal

pub returns : goal.returns
returns c = counts_tell
