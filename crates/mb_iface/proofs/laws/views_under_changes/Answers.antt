use Rattle.mb_iface.proofs.ChangedBlocks.{shown_part}
use Rattle.mb_iface.proofs.WithinViews.{found_within}
use Rattle.mb_iface.proofs.laws.views_under_changes.Goals as goal

pub returns-clause-part : goal.returns-clause-part
returns-clause-part c = shown_part

pub returns-clause-within : goal.returns-clause-within
returns-clause-within c = found_within
