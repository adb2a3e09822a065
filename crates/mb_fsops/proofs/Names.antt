-- A name looked for in a directory of a volume.
use Rattle.std.proofs.Common.{ℕ, ◌≡◌, List, [], Option, Some, None, refl, sym, ap, subst, ◌∙◌}
use Rattle.std.specs.FinMap as fin
use Rattle.mb_kinds.specs.Image.{Image}
use Rattle.mb_word.specs.Fields.{inode_block, inode_place}
use Rattle.mb_layout.specs.Inode.{dinode_at}
use Rattle.mb_layout.specs.declared.dinodes.Dinode.{Dinode}
use Rattle.mb_tree.specs.Inodes.{slots_of}
use Rattle.mb_tree.specs.Lookup.{is_named, number_in, number_of}
use Rattle.std.specs.Prelude.{option_and_then, position}
use Rattle.mb_tree.specs.Trees.{IsDirectoryAt}
use Rattle.mb_tree.specs.Views.{over, IsPart}
use Rattle.mb_tree.specs.Volume.{IsVolume}
use Rattle.mb_tree.specs.declared.nodes.Node.{Node}
use Rattle.mb_tree.specs.declared.nodes.PlainSlot.{PlainSlot}
use Rattle.mb_tree.specs.declared.trees.Tree.{Tree}
use Rattle.mb_kinds.specs.Changed.{ChangeList, changed}
use Rattle.mb_iface.specs.Near.{IsNear}
use Rattle.mb_iface.specs.Near.IsNear.{super_block, inode_list, free, held}
use Rattle.mb_iface.specs.declared.replies.Need.{Need}
use Rattle.mb_iface.proofs.ChangedBlocks.{over_none}
use Rattle.mb_nodes.proofs.NodeParts.{node_stored}
use Rattle.mb_nodes.proofs.Volumes.{stored_of}
use Rattle.mb_inodes.specs.Inodes.{ReadsInode}
use Rattle.mb_inodes.specs.declared.inodes.Inode.TheVariants as inode
use Rattle.mb_namei.specs.Directories.{IsBlockOf, IsDirectoryOn}
use Rattle.mb_namei.specs.Searching.{is_empty, OnDirectory, Seeks}
use Rattle.mb_namei.specs.declared.searches.Sought.TheVariants as sought
use Rattle.mb_namei.proofs.TreeDirectories.{directory_on, holds_addresses, near_block, near_inode}
use Rattle.mb_dirs.specs.declared.enters.Gap.TheVariants as gap
use Rattle.mb_fsops.specs.Places.{FindsName, IsDirectoryWith}
use Rattle.mb_fsops.specs.declared.places.NamePlace.TheVariants as place

-- a block near some inodes is near more of them
pub near_more : (image : Image) (tree : Tree) (P Q : ℕ → Type 0) (block : ℕ) → ((ino : ℕ) → P ino → Q ino) → IsNear image tree P block → IsNear image tree Q block
near_more image tree P Q block more (super_block e) = super_block e
near_more image tree P Q block more (inode_list low high) = inode_list low high
near_more image tree P Q block more (free chain listed among) = free chain listed among
near_more image tree P Q block more (held q is looks leads) = held q is (more _ looks) leads

pub near_one : (image : Image) (tree : Tree) (Q : ℕ → Type 0) (dir block : ℕ) → Q dir → IsNear image tree (λ ino. ino ≡ dir) block → IsNear image tree Q block
near_one image tree Q dir block looks near = near_more image tree (λ ino. ino ≡ dir) Q block (λ ino e. subst Q (sym e) looks) near

-- where a name leads in a directory
pub number_there : (tree : Tree) (dir : ℕ) (node : Node) (slots : List PlainSlot) → IsDirectoryWith tree dir node slots → (name : List ℕ) → number_in tree.nodes dir name ≡ number_of slots name
number_there tree dir node slots is name =
    ap (λ (o : Option (List PlainSlot)). option_and_then (λ (ss : List PlainSlot). number_of ss name) o)
    (ap (λ (o : Option Node). option_and_then (λ (n : Node). slots_of n.body) o) is.has ∙ ap slots_of is.body)

module _ (shown : ℕ → Option (List ℕ)) (changes : ChangeList) (none : changes ≡ []) (ino : ℕ) where
  as_it_is : (blocks : ℕ → List ℕ) → over blocks (changed changes) ≡ blocks
  as_it_is blocks = ap (λ xs. over blocks (changed xs)) none ∙ over_none blocks

  module _ (d : Dinode) (read : ReadsInode shown changes ino (inode.Here d)) (image : Image) (part : IsPart shown image.at) where
    pub read_first : d ≡ dinode_at (image.at (inode_block ino)) (inode_place ino)
    read_first = read image.at part ∙ ap (λ (blocks : ℕ → List ℕ). dinode_at (blocks (inode_block ino)) (inode_place ino)) (as_it_is image.at)

    pub links_first : (tree : Tree) → IsVolume image tree → (node : Node) → fin.get tree.nodes ino ≡ Some node → node.nlink ≡ d.nlink
    links_first tree volume node has =
        sym (ap (λ (x : Dinode). x.nlink) read_first ∙ (node_stored image tree volume.chain (stored_of image tree volume) ino node has).nlink)

  module _ (name : List ℕ) where
    pub name_asks : (need : Need) → ReadsInode shown changes ino (inode.Need need) → FindsName shown ino name (place.Need need)
    name_asks need was = (was.0, λ image tree part volume node slots is. near_inode image tree volume (λ n. n ≡ ino) ino need.first (record { node = node; has = is.has }) was.1)

    module _ (d : Dinode) (read : ReadsInode shown changes ino (inode.Here d)) where
      slots_say : (says : (ℕ → List ℕ) → List PlainSlot → Type 0) → OnDirectory shown changes ino d.size says
          → (image : Image) (tree : Tree) → IsPart shown image.at → IsVolume image tree → (node : Node) (slots : List PlainSlot) → IsDirectoryWith tree ino node slots → says image.at slots
      slots_say says holds image tree part volume node slots is =
          let there : IsDirectoryAt tree.nodes ino = record { node = node; slots = slots; has = is.has; body = is.body } in
          subst (λ blocks. says blocks slots) (as_it_is image.at)
          (holds image.at slots part (subst (λ blocks. IsDirectoryOn blocks ino d.size slots) (sym (as_it_is image.at)) (directory_on image tree volume ino there d.size (sym (ap (λ (x : Dinode). x.size) (read_first d read image part))))))

      pub name_found : (at leads : ℕ) → Seeks shown changes ino d.size name (sought.Found at leads) → FindsName shown ino name (place.Slot d.nlink at leads)
      name_found at leads holds image tree part volume node slots is =
          let s = slots_say (λ blocks slots. (position (is_named name) slots ≡ Some at) × (number_of slots name ≡ Some leads)) holds image tree part volume node slots is in
          (links_first d read image part tree volume node is.has, record { place = s.0; leads = s.1 })

      pub gap_found : (at : ℕ) → Seeks shown changes ino d.size name (sought.Empty at) → FindsName shown ino name (place.Open d.nlink (gap.At at))
      gap_found at holds image tree part volume node slots is =
          let s = slots_say (λ blocks slots. (number_of slots name ≡ None) × (position is_empty slots ≡ Some at)) holds image tree part volume node slots is in
          (links_first d read image part tree volume node is.has, record { missing = s.0; stands = s.1 })

      pub end_found : Seeks shown changes ino d.size name sought.Full → FindsName shown ino name (place.Open d.nlink gap.End)
      end_found holds image tree part volume node slots is =
          let s = slots_say (λ blocks slots. (number_of slots name ≡ None) × (position is_empty slots ≡ None)) holds image tree part volume node slots is in
          (links_first d read image part tree volume node is.has, record { missing = s.0; stands = s.1 })

      pub search_asks : (need : Need) → Seeks shown changes ino d.size name (sought.Need need) → FindsName shown ino name (place.Need need)
      search_asks need holds = (
        holds.0,
        λ image tree part volume node slots is.
            (let there : IsDirectoryAt tree.nodes ino = record { node = node; slots = slots; has = is.has; body = is.body } in
            near_block image tree volume (λ n. n ≡ ino) ino need.first refl (record { node = node; has = is.has }) (holds_addresses image tree volume ino there)
            (slots_say (λ blocks slots. IsBlockOf blocks ino need.first) holds.1 image tree part volume node slots is)),
      )
