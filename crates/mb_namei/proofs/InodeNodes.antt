-- An inode of a volume is the node of its tree.
use Rattle.std.proofs.Common.{ℕ, ◌≡◌, ◌*◌, true, false, min, length, Option, Some, None, Ok, refl, sym, ap, subst, ◌∙◌, arith}
use Rattle.std.specs.FinMap as fin
use Rattle.mb_kinds.specs.Image.{Image}
use Rattle.mb_kinds.specs.declared.replies.Stat.{Stat}
use Rattle.mb_kinds.specs.declared.errors.Errno.TheVariants.{ENOENT}
use Rattle.mb_word.specs.Fields.{inode_block, inode_place, size_of}
use Rattle.mb_tree.specs.Answers.{Answer, some, ◌>>=◌}
use Rattle.std.proofs.lemmas.Option.{same_Some}
use Rattle.mb_tree.specs.Inodes.{is_directory, body_size, stat_of}
use Rattle.mb_tree.specs.Trees.{IsDirectoryAt, HasKind}
use Rattle.mb_tree.specs.Volume.{IsVolume, HasBody, HasNode, HasInode}
use Rattle.mb_tree.specs.declared.nodes.Body.{Body}
use Rattle.mb_tree.specs.declared.nodes.Body.TheVariants.{Regular, Directory, Special}
use Rattle.mb_tree.specs.declared.nodes.Node.{Node}
use Rattle.mb_tree.specs.declared.trees.Tree.{Tree}
use Rattle.mb_tree.proofs.InodeKinds.{is_directory_at}
use Rattle.mb_namei.specs.Inodes.{inode_in, stat_by}
use Rattle.mb_namei.specs.InodeLaws.{IsInodeOf, ReadsNode, InodesAreNodes}
use Rattle.mb_namei.proofs.TreeDirectories.{few_slots}

module _ (image : Image) (tree : Tree) (volume : IsVolume image tree) (ino : ℕ) where
  size_is : (node : Node) → fin.get tree.nodes ino ≡ Some node → (body : Body) → node.body ≡ body → HasBody image.at ino body → size_of (image.at (inode_block ino)) (inode_place ino) ≡ body_size body
  size_is node has (Regular size parts) e h = h.sized
  size_is node has (Directory slots) e h =
      (let is : IsDirectoryAt tree.nodes ino = record { node = node; slots = slots; has = has; body = e } in
      let f = few_slots image tree volume ino is in
      h.sized ∙ (let m : 16 * length slots ≡ min (16 * length slots) 0xFFFFFFFF = omega (arith, f) in m))
  size_is node has (Special size area) e h = h.sized

  pub stat_is : (node : Node) → fin.get tree.nodes ino ≡ Some node → HasNode image.at ino node → stat_by ino (inode_in image.at ino) ≡ stat_of ino node
  stat_is node has h = λ i. record {
    ino = ino;
    mode = h.mode i;
    nlink = h.nlink i;
    uid = h.uid i;
    gid = h.gid i;
    size = size_is node has node.body refl h.body i;
    atime = h.atime i;
    mtime = h.mtime i;
    ctime = h.ctime i;
  }

  reads : (found : Option Node) → fin.get tree.nodes ino ≡ found → HasInode image.at ino found → IsInodeOf ino found (inode_in image.at ino)
  reads None has h = h
  reads (Some node) has h = stat_is node has h

  directory_found : (found : Option Node) → fin.get tree.nodes ino ≡ found → HasInode image.at ino found → is_directory (inode_in image.at ino).mode ≡ true → IsDirectoryAt tree.nodes ino
  directory_found None has h t = absurd (let e : is_directory (inode_in image.at ino).mode ≡ is_directory 0 = ap is_directory h in let f : is_directory 0 ≡ false = refl in cc)
  directory_found (Some node) has h t =
      is_directory_at tree volume.sound ino (stat_of ino node) (ap (λ (o : Option Node). stat_from o) has) (ap is_directory (sym h.mode) ∙ t)
    where
      stat_from : Option Node → Answer Stat
      stat_from o = some o ENOENT >>= (λ node. Ok (stat_of ino node))

  directory_told : (found : Option Node) → HasInode image.at ino found → (is : IsDirectoryAt tree.nodes ino) → found ≡ Some is.node → is_directory (inode_in image.at ino).mode ≡ true
  directory_told None h is e = cc
  directory_told (Some node) h is e =
      (let n : node ≡ is.node = same_Some node is.node e in
      ap is_directory (h.mode ∙ ap (λ (x : Node). x.mode) n) ∙ subst (HasKind is.node.mode) is.body (volume.sound.kinds ino is.node is.has))

  pub reads_node : HasInode image.at ino (fin.get tree.nodes ino) → ReadsNode tree ino (inode_in image.at ino)
  reads_node h = record {
    node = reads (fin.get tree.nodes ino) refl h;
    directory = (directory_found (fin.get tree.nodes ino) refl h, λ is. directory_told (fin.get tree.nodes ino) h is is.has);
  }

pub inodes_are : InodesAreNodes
inodes_are image tree volume ino some within = reads_node image tree volume ino (volume.inodes ino some within)
