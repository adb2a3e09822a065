-- The owner of the nodes may go to another thread: what it owns names no thread.
use Rattle.std.specs.Prelude.{List, [], ◌∷◌}
use base.Shift.{Keyless}
use mir.Raw.{raw}
use denote.Memory.{lone}
use denote.Struct.Struct.{exits_of}
use denote.Struct.Owning.{shape, fields, to}
use denote.Param.Send.{IsSend, AllSend, owning_send, struct_send, sendable}
use Rattle.std.proofs.Crossing.{frees}
use Rattle.std_alloc.proofs.SendSync.{quiet, lies}
use Rattle.mb_frames.specs.Cells.{Cell}
use Rattle.mb_frames.specs.Ownership.{cells_own}
use Rattle.mb_frames.specs.contracts.node.Node.{the_row as R}
use Rattle.mb_frames.specs.contracts.nodes.Nodes as Nodes

node_send : IsSend R
node_send = search sendable depth 40

cells-Keyless : (cs : List Cell) → Keyless (cells_own cs)
cells-Keyless [] = tt
cells-Keyless (c ∷ cs) = ((lies R node_send c.at c.node, frees.frees c.alloc (raw (lone R.mir)) c.at), cells-Keyless cs)

pub Nodes-send : IsSend Nodes.the_row
Nodes-send =
    let O = Nodes.the_type in let all : AllSend (fields O) = (search sendable, tt) in
    owning_send O all (λ d. cells-Keyless d.cells) (λ k. quiet (to O) (exits_of k (fields O)) ((struct_send (shape O) all).leaving k))
