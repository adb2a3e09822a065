-- What a step may ask for on a stored tree.
use Rattle.std.proofs.Common.{ℕ, ◌≡◌, ◌⊎◌, inl, inr, ◌<◌, ◌≤◌, Bool, true, List, [], Some, ap, subst, sym, ◌∙◌, arith}
use Rattle.std.specs.FinMap as fin
use Rattle.mb_kinds.specs.Image.{Image}
use Rattle.mb_word.specs.Fields.{isize_of, inode_block}
use Rattle.mb_tree.specs.Blocks.{first_list, part_address}
use Rattle.mb_tree.specs.Chain.{IsNext}
use Rattle.mb_tree.specs.Cost.{most_parts}
use Rattle.mb_tree.specs.Places.{place_of}
use Rattle.mb_tree.specs.Volume.{body_has_addresses, has_addresses, node_has_addresses}
use Rattle.mb_tree.specs.declared.nodes.Node.{Node}
use Rattle.mb_tree.specs.declared.trees.Tree.{Tree}
use Rattle.mb_iface.specs.Near.IsNear.{super_block, inode_list, free}
use Rattle.mb_blocks.specs.Laid.{IsHad}
use Rattle.mb_blocks.specs.Rules.{KeepsRules}
use Rattle.mb_blocks.proofs.LaidRules.{laid_rules, next_in_chain}
use Rattle.mb_blocks.proofs.LettingGo.{laid_fewer}
use Rattle.mb_blocks.proofs.PartPlaces.{place_is}
use Rattle.mb_bmap.specs.Reaching.{IsReady}
use Rattle.mb_nodes.specs.Stored.{IsStored}
use Rattle.mb_nodes.proofs.OneInode.{in_list, laid_stored}
use Rattle.mb_moves.specs.Advancing.{IsNearTo}
use Rattle.mb_moves.specs.Looking.{looked_at}
use Rattle.mb_moves.proofs.Nearness.{and_both, and_left, had_near, place_near}

pub node_looked : (tree : Tree) (looks : ℕ → Bool) (ino : ℕ) (node : Node) → fin.get tree.nodes ino ≡ Some node → body_has_addresses node.body ≡ true → looks ino ≡ true → looked_at tree looks ino ≡ true
node_looked tree looks ino node has with_addresses looked = and_both (has_addresses tree ino) (looks ino) (ap node_has_addresses has ∙ with_addresses) looked

module _ (image : Image) (tree : Tree) (chain : List ℕ) (stored : IsStored image tree chain) where
  pub stored_rules : KeepsRules image.at
  stored_rules = laid_rules (has_addresses tree) image.at [] chain (laid_stored image tree chain stored) stored.sizes.few_inodes stored.sizes.few_blocks stored.cached

  pub ready_among : (few : ℕ → Bool) → ((i : ℕ) → few i ≡ true → has_addresses tree i ≡ true) → (ino : ℕ) → few ino ≡ true → IsReady few image.at chain ino
  ready_among few within ino is = record {
    laid = laid_fewer few (has_addresses tree) image.at [] chain within (laid_stored image tree chain stored);
    is = is;
    few_inodes = stored.sizes.few_inodes;
    few_blocks = stored.sizes.few_blocks;
    cached = stored.cached;
  }

  pub ready_for : (ino : ℕ) (node : Node) → fin.get tree.nodes ino ≡ Some node → body_has_addresses node.body ≡ true
      → IsReady (has_addresses tree) image.at chain ino × ((looks : ℕ → Bool) → looks ino ≡ true → IsReady (looked_at tree looks) image.at chain ino)
  ready_for ino node has with_addresses = (
    ready_among (has_addresses tree) (λ i t. t) ino (ap node_has_addresses has ∙ with_addresses),
    λ looks looked. ready_among (looked_at tree looks) (λ i t. and_left (has_addresses tree i) (looks i) t) ino (node_looked tree looks ino node has with_addresses looked),
  )

  module _ (looks : ℕ → Bool) where
    pub list_near : (block : ℕ) → (block ≡ 1) ⊎ ((2 ≤ block) × (block < isize_of (image.at 1))) ⊎ IsNext (first_list image.at) block → IsNearTo image tree looks block
    list_near block (inl is) = super_block is
    list_near block (inr (inl listed)) = inode_list listed.0 listed.1
    list_near block (inr (inr next)) = free chain stored.spare.listed (next_in_chain (has_addresses tree) image.at [] chain block (laid_stored image tree chain stored) next)

    pub inode_near : (ino : ℕ) → 1 ≤ ino → ino ≤ tree.last → IsNearTo image tree looks (inode_block ino)
    inode_near ino some below = inode_list (omega arith) (in_list image tree chain stored ino (omega (arith, some)) below)

    pub reaching_near : (ino block : ℕ) → 1 ≤ ino → ino ≤ tree.last → (block ≡ 1) ⊎ ((block ≡ inode_block ino) ⊎ IsHad (looked_at tree looks) image.at chain block) → IsNearTo image tree looks block
    reaching_near ino block some below (inl is) = super_block is
    reaching_near ino block some below (inr (inl is)) = subst (IsNearTo image tree looks) (sym is) (inode_near ino some below)
    reaching_near ino block some below (inr (inr had)) = had_near image tree looks chain stored block had

pub part_near : (image : Image) (tree : Tree) (looks : ℕ → Bool) (ino part : ℕ) (node : Node) → fin.get tree.nodes ino ≡ Some node → body_has_addresses node.body ≡ true → looks ino ≡ true
    → part < most_parts → IsNearTo image tree looks (part_address image.at ino part)
part_near image tree looks ino part node has with_addresses looked below =
    place_near image tree looks (place_of ino part) (place_is (looked_at tree looks) ino part (node_looked tree looks ino node has with_addresses looked) below)
