-- Fields of an inode that are set together, in a node and in an inode's value.
use Rattle.std.specs.Prelude.{List, ℕ, ◌≢◌, Option, bit_or}
use Rattle.mb_layout.specs.declared.dinodes.Dinode.{Dinode}
use Rattle.mb_tree.specs.Effect.{touched, with_mode, with_owner, with_times}
use Rattle.mb_tree.specs.Inodes.{kind_of}
use Rattle.mb_tree.specs.declared.nodes.Node.{Node}
use Rattle.mb_kinds.specs.Changed.{ChangeList, IsWithinView}
use Rattle.mb_iface.specs.Needs.{IsNeed}
use Rattle.mb_nodes.specs.Stored.{with_node}
use Rattle.mb_moves.specs.Advancing.{AdvancesTo}
use Rattle.mb_dirs.specs.Steps.{OnNode, IsNearFirst}
use Rattle.mb_dirs.specs.declared.fields.FieldChange.{FieldChange}
use Rattle.mb_dirs.specs.declared.fields.FieldChange.TheVariants.{Mode, Owner, Times, Links, Touch}
use Rattle.mb_dirs.specs.declared.steps.Advanced.{Advanced}
use Rattle.mb_dirs.specs.declared.steps.Advanced.TheVariants as advanced

-- a node with the fields
abbrev pub with_fields : FieldChange → Node → Node
with_fields (Mode mode moment) node = with_mode mode moment node
with_fields (Owner uid gid moment) node = with_owner uid gid moment node
with_fields (Times atime mtime moment) node = with_times atime mtime moment node
with_fields (Links links moment) node = record node { nlink = links; ctime = moment }
with_fields (Touch links moment) node = record (touched moment node) { nlink = links }

-- an inode's value with them
abbrev pub dinode_with : FieldChange → Dinode → Dinode
dinode_with (Mode mode moment) d = record d { mode = bit_or (kind_of d.mode) mode; ctime = moment }
dinode_with (Owner uid gid moment) d = record d { uid = uid; gid = gid; ctime = moment }
dinode_with (Times atime mtime moment) d = record d { atime = atime; mtime = mtime; ctime = moment }
dinode_with (Links links moment) d = record d { nlink = links; ctime = moment }
dinode_with (Touch links moment) d = record d { nlink = links; mtime = moment; ctime = moment }

-- the node with the number has the fields now, where its mode is still that of an inode in use
abbrev pub SetsFields : (ℕ → Option (List ℕ)) → ChangeList → ChangeList → ℕ → FieldChange → Advanced → Type 0
SetsFields shown old new ino change advanced.Done = (IsWithinView shown old → IsWithinView shown new)
    × OnNode shown old ino (λ image tree looks node. (with_fields change node).mode ≢ 0 → AdvancesTo image tree looks old new (with_node tree ino (with_fields change node)))
SetsFields shown old new ino change (advanced.Need need) = IsNeed shown need × OnNode shown old ino (λ image tree looks node. IsNearFirst old need.first image tree looks)
SetsFields shown old new ino change advanced.NoMemory = Unit {0}
