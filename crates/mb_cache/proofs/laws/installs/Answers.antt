use Rattle.mb_cache.proofs.Layers.{under_installed}
use Rattle.mb_cache.proofs.Raising.{stamp_stays, stamp_rises, installs_move}
use Rattle.mb_cache.proofs.laws.installs.Goals as goal

pub returns-clause-reads : goal.returns-clause-reads
returns-clause-reads c = λ image pages changes are. under_installed image pages changes are.once

pub returns-clause-raises : goal.returns-clause-raises
returns-clause-raises c = λ stamps changes block are. (stamp_stays stamps changes block, stamp_rises stamps changes block are.once)

pub returns-clause-moves : goal.returns-clause-moves
returns-clause-moves c = installs_move
