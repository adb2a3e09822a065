use Rattle.mb_blocks.proofs.Growing.{hung_place}
use Rattle.mb_blocks.proofs.Conserving.{conserved_hung}
use Rattle.mb_blocks.proofs.laws.hung.Goals as goal

pub returns : goal.returns
returns c = λ has old new r block loose chain laid blank is above none sets.
    (let hung = hung_place has old new block loose chain laid blank r is above none sets in
    (hung, conserved_hung has old new block loose chain r is none hung.here hung.either hung.off hung.boot hung.keeps.front))
