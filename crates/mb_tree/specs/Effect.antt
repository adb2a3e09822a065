-- What each operation of the file system does to the tree and to the counts of open files, and when it is
-- refused. The effect speaks of operations that fit (specs/Fits.antt); what is missing is left as it is.
use Rattle.std.specs.Prelude.{List, [], ◌∷◌, ◌++◌, ℕ, ◌+◌, ◌-◌, ◌/◌, ◌%◌, Bool, not, ◌&&◌, ◌==◌, if◌then◌else◌, max, length, Option, Some, None, Ok, option_map, unwrap_or, position, slice_set, count_by, nat_eq, nat_le, nat_lt, bit_or, false}
use Rattle.std.specs.List.{list_any}
use Rattle.std.specs.FinMap as fin
use Rattle.mb_kinds.specs.declared.errors.Errno.TheVariants.{ENOSPC, EFBIG, EMLINK}
use Rattle.mb_tree.specs.Answers.{Answer, ◌>>=◌, ◌>>◌, need, some}
use Rattle.mb_tree.specs.Maps.{Numbered, changed_at}
use Rattle.mb_tree.specs.Inodes.{kind_of, part_at}
use Rattle.mb_tree.specs.Lookup.{is_used, is_named, number_in}
use Rattle.mb_tree.specs.Sessions.{Counts}
use Rattle.mb_tree.specs.Cost.{cost}
use Rattle.mb_tree.specs.declared.nodes.PlainSlot.{PlainSlot}
use Rattle.mb_tree.specs.declared.nodes.Node.{Node}
use Rattle.mb_tree.specs.declared.nodes.Body.{Body}
use Rattle.mb_tree.specs.declared.nodes.Body.TheVariants.{Regular, Directory, Special}
use Rattle.mb_tree.specs.declared.trees.Tree.{Tree}
use Rattle.mb_tree.specs.declared.operations.FsOp.{FsOp}
use Rattle.mb_tree.specs.declared.operations.FsOp.TheVariants.{Create, Empty, MakeDir, RemoveDir, Enlink, Delink, Put, SetMode, SetOwner, SetTimes, Hold, Release}

-- a tree and the counts of open files on its inodes
pub record TreeAndOpens : Type 0 where
  pub tree : Tree
  pub opens : Counts

abbrev pub hold : Counts → ℕ → Counts
hold opens ino = λ other. if other == ino then opens other + 1 else opens other

-- one open file less for each time that an inode's number stands in the list
abbrev pub release : Counts → List ℕ → Counts
release opens inos = λ other. opens other - count_by (nat_eq other) inos

-- content changed
abbrev pub touched : ℕ → Node → Node
touched moment node = record node { mtime = moment; ctime = moment }

-- one name more, one name less
abbrev pub linked : ℕ → Node → Node
linked moment node = record node { nlink = node.nlink + 1; ctime = moment }

abbrev pub unlinked : ℕ → Node → Node
unlinked moment node = record node { nlink = node.nlink - 1; ctime = moment }

-- the fields of a new inode
abbrev pub made : ℕ → ℕ → ℕ → ℕ → ℕ → Body → Node
made mode nlink uid gid moment body = record { mode = mode; nlink = nlink; uid = uid; gid = gid; atime = moment; mtime = moment; ctime = moment; body = body }

-- the link count of the inode with a number, 0 where there is none
abbrev pub nlink_in : Numbered Node → ℕ → ℕ
nlink_in nodes ino = unwrap_or (option_map (λ (node : Node). node.nlink) (fin.get nodes ino)) 0

abbrev pub on_slots : (List PlainSlot → List PlainSlot) → Body → Body
on_slots f (Regular size parts) = Regular size parts
on_slots f (Directory slots) = Directory (f slots)
on_slots f (Special size area) = Special size area

-- a new slot is the first empty one; where there is none it is appended, and a directory never shrinks
abbrev pub entered : List ℕ → ℕ → List PlainSlot → List PlainSlot
entered name ino slots =
    let slot : PlainSlot = record { ino = ino; name = name } in
    unwrap_or (option_map (λ at. slice_set slots at slot) (position (λ (other : PlainSlot). not (is_used other)) slots)) (slots ++ slot ∷ [])

-- an emptied slot keeps its name
abbrev pub emptied : List ℕ → List PlainSlot → List PlainSlot
emptied name slots = unwrap_or (option_map (λ at. slice_set slots at (record { ino = 0; name = name })) (position (is_named name) slots)) slots

-- a name entered in a directory, or its slot emptied
abbrev pub with_name : ℕ → List ℕ → ℕ → Node → Node
with_name moment name ino node = record (touched moment node) { body = on_slots (entered name ino) node.body }

abbrev pub without_name : ℕ → List ℕ → Node → Node
without_name moment name node = record (touched moment node) { body = on_slots (emptied name) node.body }

-- the same for a name of a directory, whose `..` is a name of its parent
abbrev pub with_link : ℕ → List ℕ → ℕ → Node → Node
with_link moment name ino node = record (with_name moment name ino node) { nlink = node.nlink + 1 }

abbrev pub without_link : ℕ → List ℕ → Node → Node
without_link moment name node = record (without_name moment name node) { nlink = node.nlink - 1 }

-- dir(5): the first two slots of a directory, `.` and `..`
abbrev pub dot : List ℕ
dot = 46 ∷ 0 ∷ 0 ∷ 0 ∷ 0 ∷ 0 ∷ 0 ∷ 0 ∷ 0 ∷ 0 ∷ 0 ∷ 0 ∷ 0 ∷ 0 ∷ []

abbrev pub dot_dot : List ℕ
dot_dot = 46 ∷ 46 ∷ 0 ∷ 0 ∷ 0 ∷ 0 ∷ 0 ∷ 0 ∷ 0 ∷ 0 ∷ 0 ∷ 0 ∷ 0 ∷ 0 ∷ []

abbrev pub first_slots : ℕ → ℕ → List PlainSlot
first_slots ino parent = (record { ino = ino; name = dot }) ∷ (record { ino = parent; name = dot_dot }) ∷ []

-- one byte put at its place, in a part that was zeros where it was missing
abbrev pub put_byte : Numbered (List ℕ) → ℕ → ℕ → Numbered (List ℕ)
put_byte parts index byte = fin.insert parts (index / 512) (slice_set (part_at parts (index / 512)) (index % 512) byte)

-- bytes put from an index on
abbrev pub put_bytes : Numbered (List ℕ) → ℕ → List ℕ → Numbered (List ℕ)
put_bytes parts index [] = parts
put_bytes parts index (byte ∷ bytes) = put_bytes (put_byte parts index byte) (index + 1) bytes

-- a file grows to hold what is written
abbrev pub written : ℕ → List ℕ → Body → Body
written offset bytes (Regular size parts) = Regular (max size (offset + length bytes)) (put_bytes parts offset bytes)
written offset bytes (Directory slots) = Directory slots
written offset bytes (Special size area) = Special size area

abbrev pub cleared : Body → Body
cleared (Regular size parts) = Regular 0 fin.empty
cleared (Directory slots) = Directory slots
cleared (Special size area) = Special size area

-- refused where the files would hold more blocks than the volume has for them
abbrev pub fitting : Tree → Numbered Node → Answer Tree
fitting tree nodes = do
  need (nat_le (cost (record tree { nodes = nodes })) tree.cap) ENOSPC
  Ok (record tree { nodes = nodes })

-- whether an inode is lost: it is there, has no name and is not open
abbrev pub is_lost : Counts → ℕ → Option Node → Bool
is_lost opens ino None = false
is_lost opens ino (Some node) = node.nlink == 0 && opens ino == 0

-- an inode that lost a name, dropped where it is nameless and not open
abbrev pub less_name : Numbered Node → Counts → ℕ → ℕ → Numbered Node
less_name nodes opens moment ino =
    if is_lost opens ino (option_map (unlinked moment) (fin.get nodes ino)) then fin.remove nodes ino
    else changed_at nodes ino (unlinked moment)

-- released inodes dropped where they are nameless and not open any longer
abbrev pub less_open : Numbered Node → Counts → List ℕ → Numbered Node
less_open nodes opens inos = fin.retain_keys nodes (λ ino. not (list_any (nat_eq ino) inos && is_lost opens ino (fin.get nodes ino)))

-- one inode changed by what needs no block
abbrev pub on_node : Tree → ℕ → (Node → Node) → Tree
on_node tree ino f = record tree { nodes = changed_at tree.nodes ino f }

-- bytes written, bytes dropped
abbrev pub wrote : ℕ → ℕ → List ℕ → Node → Node
wrote moment offset bytes node = record (touched moment node) { body = written offset bytes node.body }

abbrev pub blanked : ℕ → Node → Node
blanked moment node = record (touched moment node) { body = cleared node.body }

-- fields set; the kind of an inode stays
abbrev pub with_mode : ℕ → ℕ → Node → Node
with_mode mode moment node = record node { mode = bit_or (kind_of node.mode) mode; ctime = moment }

abbrev pub with_owner : ℕ → ℕ → ℕ → Node → Node
with_owner uid gid moment node = record node { uid = uid; gid = gid; ctime = moment }

abbrev pub with_times : ℕ → ℕ → ℕ → Node → Node
with_times atime mtime moment node = record node { atime = atime; mtime = mtime; ctime = moment }

-- a regular file with the picked number
abbrev pub create : Tree → ℕ → List ℕ → ℕ → ℕ → ℕ → ℕ → Option ℕ → Answer Tree
create tree dir name mode uid gid moment pick = do
  ino ← some pick ENOSPC
  fitting tree (fin.insert (changed_at tree.nodes dir (with_name moment name ino)) ino (made (bit_or 0x8000 mode) 1 uid gid moment (Regular 0 fin.empty)))

-- a file without its bytes
abbrev pub empty : Tree → ℕ → ℕ → Tree
empty tree ino moment = on_node tree ino (blanked moment)

-- a directory with the picked number; 32767 is the greatest link count, this project's choice
abbrev pub make_dir : Tree → ℕ → List ℕ → ℕ → ℕ → ℕ → ℕ → Option ℕ → Answer Tree
make_dir tree dir name mode uid gid moment pick = do
  need (nat_lt (nlink_in tree.nodes dir) 32767) EMLINK
  ino ← some pick ENOSPC
  fitting tree (fin.insert (changed_at tree.nodes dir (with_link moment name ino)) ino (made (bit_or 0x4000 mode) 2 uid gid moment (Directory (first_slots ino dir))))

-- the directory that a name leads to, dropped
abbrev pub remove_dir : Tree → ℕ → List ℕ → ℕ → Option ℕ → Tree
remove_dir tree dir name moment None = tree
remove_dir tree dir name moment (Some ino) = record tree { nodes = changed_at (fin.remove tree.nodes ino) dir (without_link moment name) }

-- one name more
abbrev pub enlink : Tree → ℕ → List ℕ → ℕ → ℕ → Answer Tree
enlink tree dir name ino moment = do
  need (nat_lt (nlink_in tree.nodes ino) 32767) EMLINK
  fitting tree (changed_at (changed_at tree.nodes ino (linked moment)) dir (with_name moment name ino))

-- one name less
abbrev pub delink : Tree → Counts → ℕ → List ℕ → ℕ → Option ℕ → Tree
delink tree opens dir name moment None = tree
delink tree opens dir name moment (Some ino) = record tree { nodes = less_name (changed_at tree.nodes dir (without_name moment name)) opens moment ino }

-- bytes put; a file has at most 1082201088 bytes
abbrev pub put : Tree → ℕ → ℕ → List ℕ → ℕ → Answer Tree
put tree ino offset bytes moment = do
  need (nat_le (offset + length bytes) 1082201088) EFBIG
  fitting tree (changed_at tree.nodes ino (wrote moment offset bytes))

-- the fields of an inode set
abbrev pub set_mode : Tree → ℕ → ℕ → ℕ → Tree
set_mode tree ino mode moment = on_node tree ino (with_mode mode moment)

abbrev pub set_owner : Tree → ℕ → ℕ → ℕ → ℕ → Tree
set_owner tree ino uid gid moment = on_node tree ino (with_owner uid gid moment)

abbrev pub set_times : Tree → ℕ → ℕ → ℕ → ℕ → Tree
set_times tree ino atime mtime moment = on_node tree ino (with_times atime mtime moment)

-- what an operation does to the tree
abbrev pub tree_after : Tree → Counts → FsOp → Option ℕ → Answer Tree
tree_after tree opens (Create dir name mode uid gid moment) pick = create tree dir name mode uid gid moment pick
tree_after tree opens (Empty ino moment) pick = Ok (empty tree ino moment)
tree_after tree opens (MakeDir dir name mode uid gid moment) pick = make_dir tree dir name mode uid gid moment pick
tree_after tree opens (RemoveDir dir name moment) pick = Ok (remove_dir tree dir name moment (number_in tree.nodes dir name))
tree_after tree opens (Enlink dir name ino moment) pick = enlink tree dir name ino moment
tree_after tree opens (Delink dir name moment) pick = Ok (delink tree opens dir name moment (number_in tree.nodes dir name))
tree_after tree opens (Put ino offset bytes moment) pick = put tree ino offset bytes moment
tree_after tree opens (SetMode ino mode moment) pick = Ok (set_mode tree ino mode moment)
tree_after tree opens (SetOwner ino uid gid moment) pick = Ok (set_owner tree ino uid gid moment)
tree_after tree opens (SetTimes ino atime mtime moment) pick = Ok (set_times tree ino atime mtime moment)
tree_after tree opens (Hold ino) pick = Ok tree
tree_after tree opens (Release inos) pick = Ok (record tree { nodes = less_open tree.nodes (release opens inos) inos })

-- and to the counts: a file that was created or emptied is open
abbrev pub opens_after : Counts → FsOp → Option ℕ → Counts
opens_after opens (Create dir name mode uid gid moment) None = opens
opens_after opens (Create dir name mode uid gid moment) (Some ino) = hold opens ino
opens_after opens (Empty ino moment) pick = hold opens ino
opens_after opens (MakeDir dir name mode uid gid moment) pick = opens
opens_after opens (RemoveDir dir name moment) pick = opens
opens_after opens (Enlink dir name ino moment) pick = opens
opens_after opens (Delink dir name moment) pick = opens
opens_after opens (Put ino offset bytes moment) pick = opens
opens_after opens (SetMode ino mode moment) pick = opens
opens_after opens (SetOwner ino uid gid moment) pick = opens
opens_after opens (SetTimes ino atime mtime moment) pick = opens
opens_after opens (Hold ino) pick = hold opens ino
opens_after opens (Release inos) pick = release opens inos

-- both; refused with ENOSPC, EFBIG or EMLINK alone
abbrev pub effect : Tree → Counts → FsOp → Option ℕ → Answer TreeAndOpens
effect tree opens op pick = do
  next ← tree_after tree opens op pick
  Ok (record { tree = next; opens = opens_after opens op pick })
