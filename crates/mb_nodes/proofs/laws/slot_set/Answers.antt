use Rattle.mb_nodes.proofs.SlotSetting.{slot_now}
use Rattle.mb_nodes.proofs.laws.slot_set.Goals as goal

pub returns : goal.returns
returns c = λ image tree chain stored ino node has slots body at low slot new sets. slot_now image tree chain stored ino node has slots body at low slot new sets
