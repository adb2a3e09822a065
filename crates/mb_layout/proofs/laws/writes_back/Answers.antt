use Rattle.mb_layout.proofs.SuperBlockBytes.{super_unchanged}
use Rattle.mb_layout.proofs.ChainBytes.{chain_unchanged}
use Rattle.mb_layout.proofs.InodeBytes.{dinode_unchanged}
use Rattle.mb_layout.proofs.SlotBytes.{slot_unchanged}
use Rattle.mb_layout.proofs.IndexEntries.{index_unchanged}
use Rattle.mb_layout.proofs.laws.writes_back.Goals as goal

pub returns-clause-super_block : goal.returns-clause-super_block
returns-clause-super_block c = super_unchanged

pub returns-clause-chain : goal.returns-clause-chain
returns-clause-chain c = chain_unchanged

pub returns-clause-dinode : goal.returns-clause-dinode
returns-clause-dinode c = dinode_unchanged

pub returns-clause-slot : goal.returns-clause-slot
returns-clause-slot c = slot_unchanged

pub returns-clause-index : goal.returns-clause-index
returns-clause-index c = index_unchanged
