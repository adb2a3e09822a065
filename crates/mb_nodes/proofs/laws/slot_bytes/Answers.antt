use Rattle.mb_nodes.proofs.SlotWrites.{slot_set, one_written, written_then}
use Rattle.mb_nodes.proofs.laws.slot_bytes.Goals as goal

pub returns : goal.returns
returns c = record { one = slot_set; many = (one_written, written_then) }
