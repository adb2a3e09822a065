-- Fields of an inode set.
use Rattle.std.proofs.Common.{ℕ, ◌≡◌, ◌≢◌, ◌+◌, ◌*◌, ◌<◌, Bool, List, length, Option, Some, slice_index, refl, sym, ap, subst, ◌∙◌, arith}
use Rattle.std.specs.Prelude.{bit_or}
use Rattle.std.specs.FinMap as fin
use Rattle.mb_kinds.specs.Image.{Image}
use Rattle.mb_word.specs.Fields.{inode_block, inode_place, area_of}
use Rattle.mb_word.specs.Numbers.{addr_at}
use Rattle.mb_word.proofs.Parts.{get_or-part}
use Rattle.mb_layout.specs.Inode.{dinode_at}
use Rattle.mb_layout.specs.declared.dinodes.Dinode.{Dinode}
use Rattle.mb_layout.proofs.InodeBytes.{address_in_area}
use Rattle.mb_layout.proofs.InodeOrder.{place_below}
use Rattle.mb_tree.specs.Inodes.{kind_of}
use Rattle.mb_tree.specs.Views.{over, IsPart}
use Rattle.mb_tree.specs.declared.nodes.Node.{Node}
use Rattle.mb_tree.specs.declared.trees.Tree.{Tree}
use Rattle.mb_blocks.specs.Inodes.{HasValues, IsDinodeWritten, IsRewritten}
use Rattle.mb_blocks.proofs.InodeWrites.{addresses_now, dinode_written, fields_now, value_now}
use Rattle.mb_iface.specs.Acting.{with_changes}
use Rattle.mb_kinds.specs.Changed.{ChangeList, changed, IsWithinView}
use Rattle.mb_nodes.specs.Bodies.{KeepsBody}
use Rattle.mb_nodes.specs.Stored.{IsStored, with_node}
use Rattle.mb_nodes.proofs.NodeParts.{node_stored}
use Rattle.mb_moves.specs.Advancing.{Advances}
use Rattle.mb_moves.proofs.Setting.{set_advances}
use Rattle.mb_dirs.specs.Fields.{SetsFields, dinode_with, with_fields}
use Rattle.mb_dirs.specs.declared.fields.FieldChange.{FieldChange}
use Rattle.mb_dirs.specs.declared.fields.FieldChange.TheVariants.{Mode, Owner, Times, Links, Touch}
use Rattle.mb_dirs.specs.declared.steps.Advanced.TheVariants as advanced

-- the last byte of an inode's area is that of its 64 bytes which holds no address
pub last_byte : (b : List ℕ) (place : ℕ) → slice_index (area_of b place) 39 ≡ slice_index b (64 * place + 51)
last_byte b place = get_or-part b (64 * place + 12) 40 39 (omega arith) ∙ ap (slice_index b) (let e : 64 * place + 12 + 39 ≡ 64 * place + 51 = omega arith in e)

same_size : (change : FieldChange) (d : Dinode) → (dinode_with change d).size ≡ d.size
same_size (Mode mode moment) d = refl
same_size (Owner uid gid moment) d = refl
same_size (Times atime mtime moment) d = refl
same_size (Links links moment) d = refl
same_size (Touch links moment) d = refl

same_area : (change : FieldChange) (d : Dinode) → (dinode_with change d).area ≡ d.area
same_area (Mode mode moment) d = refl
same_area (Owner uid gid moment) d = refl
same_area (Times atime mtime moment) d = refl
same_area (Links links moment) d = refl
same_area (Touch links moment) d = refl

same_body : (change : FieldChange) (node : Node) → (with_fields change node).body ≡ node.body
same_body (Mode mode moment) node = refl
same_body (Owner uid gid moment) node = refl
same_body (Times atime mtime moment) node = refl
same_body (Links links moment) node = refl
same_body (Touch links moment) node = refl

-- a value with the fields of a node, but for the test that it is in use
pub record SaysFields (d : Dinode) (node : Node) : Type 0 where
  pub mode : d.mode ≡ node.mode
  pub nlink : d.nlink ≡ node.nlink
  pub uid : d.uid ≡ node.uid
  pub gid : d.gid ≡ node.gid
  pub atime : d.atime ≡ node.atime
  pub mtime : d.mtime ≡ node.mtime
  pub ctime : d.ctime ≡ node.ctime

fields_say : (change : FieldChange) (d : Dinode) (node : Node) → SaysFields d node → SaysFields (dinode_with change d) (with_fields change node)
fields_say (Mode mode moment) d node says = record { mode = ap (λ m. bit_or (kind_of m) mode) says.mode; nlink = says.nlink; uid = says.uid; gid = says.gid; atime = says.atime; mtime = says.mtime; ctime = refl }
fields_say (Owner uid gid moment) d node says = record { mode = says.mode; nlink = says.nlink; uid = refl; gid = refl; atime = says.atime; mtime = says.mtime; ctime = refl }
fields_say (Times atime mtime moment) d node says = record { mode = says.mode; nlink = says.nlink; uid = says.uid; gid = says.gid; atime = refl; mtime = refl; ctime = refl }
fields_say (Links links moment) d node says = record { mode = says.mode; nlink = refl; uid = says.uid; gid = says.gid; atime = says.atime; mtime = says.mtime; ctime = refl }
fields_say (Touch links moment) d node says = record { mode = says.mode; nlink = refl; uid = says.uid; gid = says.gid; atime = says.atime; mtime = refl; ctime = refl }

pub says_values : (d : Dinode) (node : Node) → SaysFields d node → node.mode ≢ 0 → HasValues d node
says_values d node says used = record {
  used = λ e. used (sym says.mode ∙ e);
  mode = says.mode;
  nlink = says.nlink;
  uid = says.uid;
  gid = says.gid;
  atime = says.atime;
  mtime = says.mtime;
  ctime = says.ctime;
}

-- what an inode of a stored node reads as
pub stored_says : (image : Image) (tree : Tree) (chain : List ℕ) → IsStored image tree chain → (ino : ℕ) (node : Node) → fin.get tree.nodes ino ≡ Some node
    → SaysFields (dinode_at (image.at (inode_block ino)) (inode_place ino)) node
stored_says image tree chain stored ino node has =
    let holds = node_stored image tree chain stored ino node has in
    record { mode = holds.mode; nlink = holds.nlink; uid = holds.uid; gid = holds.gid; atime = holds.atime; mtime = holds.mtime; ctime = holds.ctime }

module _ (image : Image) (tree : Tree) (chain : List ℕ) (looks : ℕ → Bool) (stored : IsStored image tree chain) (ino : ℕ) (node : Node) (has : fin.get tree.nodes ino ≡ Some node)
    (new : ℕ → List ℕ) (change : FieldChange) (written : IsDinodeWritten image.at new ino (dinode_with change (dinode_at (image.at (inode_block ino)) (inode_place ino)))) (used : (with_fields change node).mode ≢ 0) where
  abbrev d : Dinode
  d = dinode_at (image.at (inode_block ino)) (inode_place ino)

  some : 0 < ino
  some = (stored.numbers ino node has).0

  long : length (image.at (inode_block ino)) ≡ 512
  long = stored.bytes (inode_block ino)

  value : dinode_at (new (inode_block ino)) (inode_place ino) ≡ dinode_with change d
  value = value_now image.at new ino (dinode_with change d) some long written

  rewritten : IsRewritten image.at new ino
  rewritten = dinode_written image.at new ino (dinode_with change d) some long written (ap (λ (a : List ℕ). slice_index a 39) (same_area change d) ∙ last_byte (image.at (inode_block ino)) (inode_place ino))

  keeps : KeepsBody image.at new ino
  keeps = record {
    tops = λ p low.
        addresses_now image.at new ino (dinode_with change d) some long written p low
        ∙ ap (λ (a : List ℕ). addr_at a (3 * p)) (same_area change d)
        ∙ sym (address_in_area (image.at (inode_block ino)) (inode_place ino) p (let l = place_below ino in let e = long in omega (arith, e, l)) low);
    sized = ap (λ (x : Dinode). x.size) value ∙ same_size change d;
    area = ap (λ (x : Dinode). x.area) value ∙ same_area change d;
  }

  pub fields_advance : Advances image tree looks new (with_node tree ino (with_fields change node)) chain
  fields_advance =
      set_advances image tree chain looks stored ino node has (with_fields change node) (same_body change node) new rewritten keeps
      (fields_now image.at new ino (dinode_with change d) some long written (with_fields change node)
      (says_values (dinode_with change d) (with_fields change node) (fields_say change d node (stored_says image tree chain stored ino node has)) used))

pub set_done : (shown : ℕ → Option (List ℕ)) (old new : ChangeList) (ino : ℕ) (change : FieldChange) (d changed_to : Dinode)
    → ((blocks : ℕ → List ℕ) → IsPart shown blocks → d ≡ dinode_at (over blocks (changed old) (inode_block ino)) (inode_place ino)) → changed_to ≡ dinode_with change d
    → (IsWithinView shown old → IsWithinView shown new) → ((blocks : ℕ → List ℕ) → IsPart shown blocks → IsDinodeWritten (over blocks (changed old)) (over blocks (changed new)) ino changed_to)
    → SetsFields shown old new ino change advanced.Done
set_done shown old new ino change d changed_to reads is within writes = (
  within,
  λ image tree chain part stored looks node has used. (
    chain,
    fields_advance (with_changes image old) tree chain looks stored ino node has (over image.at (changed new)) change
        (subst (IsDinodeWritten (over image.at (changed old)) (over image.at (changed new)) ino) (is ∙ ap (dinode_with change) (reads image.at part)) (writes image.at part)) used,
  ),
)
