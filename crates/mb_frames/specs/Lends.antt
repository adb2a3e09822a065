-- What the owner ends as, once a `&mut` to a node has ended.
use Rattle.std.specs.Borrow.{Fml, MutBor, Lends}
use denote.RawPtr.{Ptr}
use Rattle.mb_frames.specs.Cells.{put_node}
use Rattle.mb_frames.specs.declared.node.Node.{Node}
use Rattle.mb_frames.specs.declared.nodes.Nodes.{Nodes}
use Rattle.mb_frames.specs.contracts.node.Node.{the_row as node_row}
use Rattle.mb_frames.specs.contracts.nodes.Nodes.{the_row}

abbrev pub with_node : Nodes → Ptr → Node → Nodes
with_node n p w = record { mark = n.mark; cells = put_node p w n.cells }

abbrev pub LendsNode : MutBor Nodes → Ptr → MutBor Node → Fml
LendsNode n p r = Lends the_row node_row n r (with_node n.now p)
