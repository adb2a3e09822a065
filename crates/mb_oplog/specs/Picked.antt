-- The operation log as the model has it.
use Rattle.std.specs.Prelude.{List, map}
use Rattle.mb_tree.specs.CarriedOut.{PickedOp}
use Rattle.mb_oplog.specs.declared.oplogs.Logged.{Logged}

abbrev pub as_picked : Logged → PickedOp
as_picked logged = record { op = logged.op; pick = logged.pick }

abbrev pub picked_ops : List Logged → List PickedOp
picked_ops oplog = map as_picked oplog
