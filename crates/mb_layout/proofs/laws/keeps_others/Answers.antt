use Rattle.mb_layout.proofs.InodeBytes.{dinode_others}
use Rattle.mb_layout.proofs.SlotBytes.{slot_others}
use Rattle.mb_layout.proofs.IndexEntries.{index_others}
use Rattle.mb_layout.proofs.laws.keeps_others.Goals as goal

pub returns-clause-dinode : goal.returns-clause-dinode
returns-clause-dinode c = dinode_others

pub returns-clause-slot : goal.returns-clause-slot
returns-clause-slot c = slot_others

pub returns-clause-index : goal.returns-clause-index
returns-clause-index c = index_others
