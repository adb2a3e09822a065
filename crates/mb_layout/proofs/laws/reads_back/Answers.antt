use Rattle.mb_layout.proofs.SuperBlockBytes.{super_back}
use Rattle.mb_layout.proofs.ChainBytes.{chain_back}
use Rattle.mb_layout.proofs.InodeBytes.{dinode_back}
use Rattle.mb_layout.proofs.SlotBytes.{slot_back}
use Rattle.mb_layout.proofs.IndexEntries.{index_back}
use Rattle.mb_layout.proofs.laws.reads_back.Goals as goal

pub returns-clause-super_block : goal.returns-clause-super_block
returns-clause-super_block c = super_back

pub returns-clause-chain : goal.returns-clause-chain
returns-clause-chain c = chain_back

pub returns-clause-dinode : goal.returns-clause-dinode
returns-clause-dinode c = dinode_back

pub returns-clause-slot : goal.returns-clause-slot
returns-clause-slot c = slot_back

pub returns-clause-index : goal.returns-clause-index
returns-clause-index c = index_back
