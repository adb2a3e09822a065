-- What an operation does to one inode, as a value (mb_tree/src/changes.rt).
use Rattle.std.specs.Prelude.{ℕ, ◌<◌}
use Rattle.mb_tree.specs.Effect.{linked, with_name, without_name, with_link, without_link, blanked, with_mode, with_owner, with_times, empty, set_mode, set_owner, set_times}
use Rattle.mb_tree.specs.declared.changes.Change.{Change}
use Rattle.mb_tree.specs.declared.changes.Change.TheVariants.{Enter, EnterDir, Leave, LeaveDir, Link, Blank, Mode, Owner, Times}
use Rattle.mb_tree.specs.declared.nodes.Node.{Node}
use Rattle.mb_tree.specs.declared.operations.FsOp.{FsOp}
use Rattle.mb_tree.specs.declared.operations.FsOp.TheVariants.{Empty, SetMode, SetOwner, SetTimes}
use Rattle.mb_tree.specs.declared.trees.Tree.{Tree}

-- the inode after the change, at a moment
abbrev pub changed_by : Change → ℕ → Node → Node
changed_by (Enter name ino) moment = with_name moment name ino
changed_by (EnterDir name ino) moment = with_link moment name ino
changed_by (Leave name) moment = without_name moment name
changed_by (LeaveDir name) moment = without_link moment name
changed_by Link moment = linked moment
changed_by Blank moment = blanked moment
changed_by (Mode mode) moment = with_mode mode moment
changed_by (Owner uid gid) moment = with_owner uid gid moment
changed_by (Times atime mtime) moment = with_times atime mtime moment

-- the link count still fits its 16 bits after a change that counts one link more
abbrev pub HasLinkRoom : Change → ℕ → Type 0
HasLinkRoom (EnterDir name ino) nlink = nlink < 65535
HasLinkRoom Link nlink = nlink < 65535
HasLinkRoom _ nlink = Unit {0}

-- the tree after an operation that drops bytes or sets fields of one inode; another one leaves it
abbrev pub fields_after : Tree → FsOp → Tree
fields_after tree (Empty ino moment) = empty tree ino moment
fields_after tree (SetMode ino mode moment) = set_mode tree ino mode moment
fields_after tree (SetOwner ino uid gid moment) = set_owner tree ino uid gid moment
fields_after tree (SetTimes ino atime mtime moment) = set_times tree ino atime mtime moment
fields_after tree _ = tree
