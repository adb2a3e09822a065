use Rattle.mb_nodes.proofs.Setting.{set_now}
use Rattle.mb_nodes.proofs.laws.fields_set.Goals as goal

pub returns : goal.returns
returns c = λ image tree chain stored ino node changed has body new written keeps fields.
    set_now image tree chain stored ino node has new written (λ t. keeps.tops) changed body fields keeps.sized keeps.area
