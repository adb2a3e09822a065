use Rattle.mb_iface.proofs.ChangedBlocks.{over_none, put_block_same, put_block_other}
use Rattle.mb_iface.proofs.laws.changes_cover.Goals as goal

pub returns-clause-none : goal.returns-clause-none
returns-clause-none c = over_none

pub returns-clause-written : goal.returns-clause-written
returns-clause-written c = put_block_same

pub returns-clause-others : goal.returns-clause-others
returns-clause-others c = put_block_other
