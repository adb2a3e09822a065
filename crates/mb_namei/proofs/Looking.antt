-- One component looked up on a volume.
use Rattle.std.proofs.Common.{ℕ, ◌≡◌, true, false, List, Option, Some, None, Ok, Err, refl, sym, ap, subst, ◌∙◌, arith}
use Rattle.std.proofs.lemmas.Option.{same_Some}
use Rattle.mb_kinds.specs.Image.{Image}
use Rattle.mb_kinds.specs.declared.credentials.Cred.{Cred}
use Rattle.mb_kinds.specs.declared.replies.Stat.{Stat}
use Rattle.mb_kinds.specs.declared.errors.Errno.TheVariants.{ENOENT, ENOTDIR, EACCES}
use Rattle.mb_word.specs.Fields.{inode_block}
use Rattle.mb_layout.specs.declared.dinodes.Dinode.{Dinode}
use Rattle.mb_tree.specs.Answers.{◌>>=◌, ◌>>◌, need, some}
use Rattle.mb_tree.specs.Inodes.{is_directory, may, slots_of, stat_of}
use Rattle.mb_tree.specs.Lookup.{look, number_of, stat_in}
use Rattle.mb_tree.specs.Trees.{IsThere, IsDirectoryAt}
use Rattle.mb_tree.specs.Views.{over, IsPart}
use Rattle.mb_tree.specs.Volume.{IsVolume}
use Rattle.mb_tree.specs.declared.nodes.PlainSlot.{PlainSlot}
use Rattle.mb_tree.specs.declared.nodes.Node.{Node}
use Rattle.mb_tree.specs.declared.trees.Tree.{Tree}
use Rattle.mb_tree.proofs.InodeKinds.{is_leaf_at}
use Rattle.mb_kinds.specs.Changed.{ChangeList, changed}
use Rattle.mb_iface.specs.Near.{IsNear}
use Rattle.mb_namei.specs.Directories.{IsBlockOf}
use Rattle.mb_namei.specs.InodeLaws.{IsInodeOf, ReadsNode}
use Rattle.mb_namei.specs.Inodes.{inode_in, stat_by}
use Rattle.mb_namei.specs.Lookups.{OnVolume}
use Rattle.mb_namei.specs.Searching.{OnDirectory}
use Rattle.mb_namei.proofs.InodeNodes.{inodes_are}
use Rattle.mb_namei.proofs.TreeDirectories.{near_inode, near_block, holds_addresses, directory_on}

module _ (image : Image) (tree : Tree) (volume : IsVolume image tree) (ino : ℕ) (there : IsThere tree.nodes ino) where
  abbrev node : Node
  node = there.node

  pub read_there : ReadsNode tree ino (inode_in image.at ino)
  read_there = (let r = volume.sound.numbers ino there.node there.has in inodes_are image tree volume ino (omega (arith, r.0)) r.1)

  pub stat_there : stat_by ino (inode_in image.at ino) ≡ stat_of ino there.node
  stat_there = subst (λ (o : Option Node). IsInodeOf ino o (inode_in image.at ino)) there.has read_there.node

  pub stat_found : stat_in tree.nodes ino ≡ Ok (stat_by ino (inode_in image.at ino))
  stat_found = ap (λ (o : Option Node). some o ENOENT >>= (λ (n : Node). Ok (stat_of ino n))) there.has ∙ ap Ok (sym stat_there)

  module _ (cred : Cred) (name : List ℕ) where
    looked : (slots : Option (List PlainSlot)) → slots_of there.node.body ≡ slots → look tree.nodes cred ino name ≡ (some slots ENOTDIR >>= (λ found. need (may cred (stat_of ino there.node) 1) EACCES >> Ok (number_of found name)))
    looked slots is =
        ap (λ (o : Option Node). some o ENOTDIR >>= (λ (n : Node). some (slots_of n.body) ENOTDIR >>= (λ found. need (may cred (stat_of ino n) 1) EACCES >> Ok (number_of found name)))) there.has
        ∙ ap (λ (o : Option (List PlainSlot)). some o ENOTDIR >>= (λ found. need (may cred (stat_of ino there.node) 1) EACCES >> Ok (number_of found name))) is

    pub no_directory : is_directory (inode_in image.at ino).mode ≡ false → look tree.nodes cred ino name ≡ Err ENOTDIR
    no_directory f =
        let leaf = is_leaf_at tree volume.sound ino (stat_by ino (inode_in image.at ino)) stat_found f in
        looked None (ap (λ (n : Node). slots_of n.body) (same_Some there.node leaf.node (sym there.has ∙ leaf.has)) ∙ leaf.body)

    module _ (is : IsDirectoryAt tree.nodes ino) where
      slots_are : slots_of there.node.body ≡ Some is.slots
      slots_are = ap (λ (n : Node). slots_of n.body) (same_Some there.node is.node (sym there.has ∙ is.has)) ∙ ap slots_of is.body

      pub not_allowed : may cred (stat_by ino (inode_in image.at ino)) 1 ≡ false → look tree.nodes cred ino name ≡ Err EACCES
      not_allowed f =
          looked (Some is.slots) slots_are ∙ ap (λ b. need b EACCES >> Ok (number_of is.slots name)) (ap (λ (s : Stat). may cred s 1) (sym stat_there) ∙ f)

      pub allowed : (found : Option ℕ) → may cred (stat_by ino (inode_in image.at ino)) 1 ≡ true → number_of is.slots name ≡ found → look tree.nodes cred ino name ≡ Ok found
      allowed found t is_found =
          looked (Some is.slots) slots_are ∙ ap (λ b. need b EACCES >> Ok (number_of is.slots name)) (ap (λ (s : Stat). may cred s 1) (sym stat_there) ∙ t) ∙ ap Ok is_found

-- ---- over a view

module _ (shown : ℕ → Option (List ℕ)) (changes : ChangeList) (cred : Cred) (dir : ℕ) (name : List ℕ) where
  pub near_asked : (block : ℕ) → block ≡ inode_block dir → OnVolume shown changes dir (λ image tree. IsNear image tree (λ ino. ino ≡ dir) block)
  near_asked block is count blocks tree is_part volume there = near_inode (record { count = count; at = over blocks (changed changes) }) tree volume (λ ino. ino ≡ dir) dir block there is

  module _ (d : Dinode) (read : (blocks : ℕ → List ℕ) → IsPart shown blocks → inode_in (over blocks (changed changes)) dir ≡ d) where
    pub refused_leaf : is_directory d.mode ≡ false → OnVolume shown changes dir (λ image tree. look tree.nodes cred dir name ≡ Err ENOTDIR)
    refused_leaf f count blocks tree is_part volume there =
        no_directory (record { count = count; at = over blocks (changed changes) }) tree volume dir there cred name (ap (λ (x : Dinode). is_directory x.mode) (read blocks is_part) ∙ f)

    module _ (t : is_directory d.mode ≡ true) where
      pub directory_there : (count : ℕ) (blocks : ℕ → List ℕ) (tree : Tree) → IsPart shown blocks → (volume : IsVolume (record { count = count; at = over blocks (changed changes) }) tree) → IsThere tree.nodes dir → IsDirectoryAt tree.nodes dir
      directory_there count blocks tree is_part volume there =
          (read_there (record { count = count; at = over blocks (changed changes) }) tree volume dir there).directory.0 (ap (λ (x : Dinode). is_directory x.mode) (read blocks is_part) ∙ t)

      pub refused_search : may cred (stat_by dir d) 1 ≡ false → OnVolume shown changes dir (λ image tree. look tree.nodes cred dir name ≡ Err EACCES)
      refused_search f count blocks tree is_part volume there =
          not_allowed (record { count = count; at = over blocks (changed changes) }) tree volume dir there cred name (directory_there count blocks tree is_part volume there)
          (ap (λ (x : Dinode). may cred (stat_by dir x) 1) (read blocks is_part) ∙ f)

      -- what holds of a directory's slots
      pub in_directory : (says : (ℕ → List ℕ) → List PlainSlot → Type 0) → OnDirectory shown changes dir d.size says
          → (count : ℕ) (blocks : ℕ → List ℕ) (tree : Tree) (is_part : IsPart shown blocks) (volume : IsVolume (record { count = count; at = over blocks (changed changes) }) tree) → (there : IsThere tree.nodes dir)
          → says (over blocks (changed changes)) (directory_there count blocks tree is_part volume there).slots
      in_directory says holds count blocks tree is_part volume there =
          (let is = directory_there count blocks tree is_part volume there in
          holds blocks is.slots is_part (directory_on (record { count = count; at = over blocks (changed changes) }) tree volume dir is d.size (ap (λ (x : Dinode). x.size) (read blocks is_part))))

      pub looked_up : (found : Option ℕ) → may cred (stat_by dir d) 1 ≡ true → OnDirectory shown changes dir d.size (λ blocks slots. number_of slots name ≡ found) → OnVolume shown changes dir (λ image tree. look tree.nodes cred dir name ≡ Ok found)
      looked_up found m holds count blocks tree is_part volume there =
          allowed (record { count = count; at = over blocks (changed changes) }) tree volume dir there cred name (directory_there count blocks tree is_part volume there) found
          (ap (λ (x : Dinode). may cred (stat_by dir x) 1) (read blocks is_part) ∙ m) (in_directory (λ blocks slots. number_of slots name ≡ found) holds count blocks tree is_part volume there)

      pub near_searched : (block : ℕ) → OnDirectory shown changes dir d.size (λ blocks slots. IsBlockOf blocks dir block) → OnVolume shown changes dir (λ image tree. IsNear image tree (λ ino. ino ≡ dir) block)
      near_searched block holds count blocks tree is_part volume there =
          (let image : Image = record { count = count; at = over blocks (changed changes) } in
          near_block image tree volume (λ ino. ino ≡ dir) dir block refl there (holds_addresses image tree volume dir (directory_there count blocks tree is_part volume there))
          (in_directory (λ blocks slots. IsBlockOf blocks dir block) holds count blocks tree is_part volume there))
