-- A step of an operation changes one inode: what is to be shown of its blocks so that the next tree is stored.
use Rattle.std.proofs.Common.{ℕ, ◌≡◌, ◌≢◌, inl, inr, ◌+◌, ◌-◌, ◌*◌, ◌<◌, ◌≤◌, true, List, [], length, Option, Some, None, refl, sym, ap, subst, ◌∙◌, arith}
use Rattle.std.specs.FinMap as fin
use Rattle.mb_kinds.specs.Image.{Image}
use Rattle.mb_word.specs.Fields.{isize_of, fsize_of, inode_block}
use Rattle.mb_layout.proofs.InodeOrder.{inode_in_list}
use Rattle.mb_tree.specs.Cost.{cost, cost_at}
use Rattle.mb_tree.specs.Counting.{sum_below}
use Rattle.mb_tree.specs.Volume.{HasInode, node_has_addresses, has_addresses}
use Rattle.mb_tree.specs.declared.nodes.Node.{Node}
use Rattle.mb_tree.specs.declared.trees.Tree.{Tree}
use Rattle.mb_tree.proofs.FiniteMaps.{one_or_not}
use Rattle.mb_tree.proofs.Sums.{sum_but}
use Rattle.mb_blocks.specs.Laid.{IndexesLeadOn, IsLaid}
use Rattle.mb_blocks.specs.Owners.{without}
use Rattle.mb_blocks.proofs.InodeStays.{inode_stays}
use Rattle.mb_blocks.proofs.Keeping.{sizes_same}
use Rattle.mb_blocks.proofs.Owning.{without_of}
use Rattle.mb_blocks.proofs.Pointing.{held_then, part_kept}
use Rattle.mb_nodes.specs.Stored.{IsChangedAt, IsStored}
use Rattle.mb_nodes.specs.Underway.{KeepsOthers}

-- ---- a stored tree's blocks are laid

holder : (image : Image) (tree : Tree) (chain : List ℕ) → IsStored image tree chain → (j : ℕ) (found : Option Node) → fin.get tree.nodes j ≡ found → node_has_addresses found ≡ true → (1 ≤ j) × (j ≤ tree.last)
holder image tree chain stored j None e t = cc
holder image tree chain stored j (Some node) e t = stored.numbers j node e

module _ (image : Image) (tree : Tree) (chain : List ℕ) (stored : IsStored image tree chain) where
  pub in_tree : (j : ℕ) → has_addresses tree j ≡ true → (1 ≤ j) × (j ≤ tree.last)
  in_tree j t = holder image tree chain stored j (fin.get tree.nodes j) refl t

  pub in_list : (j : ℕ) → 0 < j → j ≤ tree.last → inode_block j < isize_of (image.at 1)
  in_list j some below = (inode_in_list j (isize_of (image.at 1)) some (let l = stored.last in omega (arith, below, l))).1

  pub laid_stored : IsLaid (has_addresses tree) image.at [] chain
  laid_stored = record {
    sized = stored.bytes;
    wide = stored.sizes.some_inodes;
    inodes = λ j t. (let r = in_tree j t in let low : 0 < j = omega (arith, r.0) in (low, in_list j low r.1));
    in_range = stored.held.in_range;
    once = stored.held.once;
    free = stored.spare.listed;
    spare = record { in_range = stored.spare.in_range; once = stored.spare.once; bare = stored.spare.apart };
  }

  pub leads_stored : IndexesLeadOn (has_addresses tree) image.at
  leads_stored = stored.held.leads_on

-- ---- and the other way, one inode further

pub others_then : (tree : Tree) (old mid new : ℕ → List ℕ) (ino : ℕ) → KeepsOthers tree old mid ino → KeepsOthers tree mid new ino → KeepsOthers tree old new ino
others_then tree old mid new ino one two = record {
  bytes = λ j some low apart k from to. two.bytes j some low apart k from to ∙ one.bytes j some low apart k from to;
  held = held_then (without (has_addresses tree) ino) old mid new one.held two.held;
  front = λ k from to. two.front k from to ∙ one.front k from to;
  cached = two.cached;
  back = λ k from to. two.back k from to ∙ one.back k from to;
  byte = two.byte ∙ one.byte;
}

module _ (image : Image) (new : ℕ → List ℕ) (tree next : Tree) (chain left : List ℕ) (ino : ℕ) (stored : IsStored image tree chain)
    (within : (1 ≤ ino) × (ino ≤ tree.last)) (change : IsChangedAt tree next ino) (keeps : KeepsOthers tree image.at new ino)
    (sized : (block : ℕ) → length (new block) ≡ 512) where
  pub has_others : (j : ℕ) → j ≢ ino → has_addresses next j ≡ has_addresses tree j
  has_others j apart = ap node_has_addresses (change.others j apart)

  module _ (here : HasInode new ino (fin.get next.nodes ino)) (laid : IsLaid (has_addresses next) new [] left) (leads : IndexesLeadOn (has_addresses next) new)
      (pays : cost_at (fin.get next.nodes ino) + length left ≡ cost_at (fin.get tree.nodes ino) + length chain) where
    inodes_now : (j : ℕ) → 0 < j → j ≤ next.last → HasInode new j (fin.get next.nodes j)
    inodes_now j some below = elim (one_or_not j ino) [
      | inl is ↦ subst (λ x. HasInode new x (fin.get next.nodes x)) (sym is) here
      | inr apart ↦
          (let low : j ≤ tree.last = subst (λ n. j ≤ n) change.last below in
          subst (HasInode new j) (sym (change.others j apart))
          (inode_stays image.at new j (sized (inode_block j)) (stored.bytes (inode_block j)) (keeps.bytes j some low apart) (fin.get tree.nodes j)
          (λ t part. part_kept (without (has_addresses tree) ino) image.at new keeps.held j part (without_of (has_addresses tree) ino j t apart)) (stored.inodes j some low)))
    ]

    total : cost next + cost_at (fin.get tree.nodes ino) ≡ cost tree + cost_at (fin.get next.nodes ino)
    total =
        let moved = sum_but (λ j. cost_at (fin.get tree.nodes j)) (λ j. cost_at (fin.get next.nodes j)) ino (tree.last + 1) (omega (arith, within.1)) (λ j apart. ap cost_at (change.others j apart)) in
        let same : cost next ≡ sum_below (λ j. cost_at (fin.get next.nodes j)) (tree.last + 1) = ap (λ n. sum_below (λ j. cost_at (fin.get next.nodes j)) (n + 1)) change.last in
        omega (arith, moved, same)

    -- the next tree is stored
    pub stored_by_one : IsStored (record image { at = new }) next left
    stored_by_one =
        let same = sizes_same image.at new keeps.front in
        let wide = stored.sizes in
        record {
          bytes = sized;
          sizes = record {
            blocks = wide.blocks;
            some_inodes = subst (λ n. 3 ≤ n) (sym same.0) wide.some_inodes;
            few_inodes = subst (λ n. n ≤ 8193) (sym same.0) wide.few_inodes;
            some_blocks = subst (λ n. n < fsize_of (new 1)) (sym same.0) (subst (λ n. isize_of (image.at 1) < n) (sym same.1) wide.some_blocks);
            few_blocks = subst (λ n. n ≤ 262144) (sym same.1) wide.few_blocks;
            present = subst (λ n. n ≤ image.count) (sym same.1) wide.present;
          };
          cached = keeps.cached;
          last = change.last ∙ stored.last ∙ ap (λ n. 8 * (n - 2)) (sym same.0);
          inodes = inodes_now;
          held = record { in_range = laid.in_range; once = laid.once; leads_on = leads };
          spare = record { listed = laid.free; in_range = laid.spare.in_range; once = laid.spare.once; apart = laid.spare.bare };
          capacity = change.cap ∙ stored.capacity ∙ (let t = total in omega (arith, t, pays));
          numbers = λ j node e. elim (one_or_not j ino) [
            | inl is ↦ (let a = within.0 in let b = within.1 in let l = change.last in (omega (arith, a, is), omega (arith, b, is, l)))
            | inr apart ↦ (let r = stored.numbers j node (sym (change.others j apart) ∙ e) in let l = change.last in (r.0, omega (arith, r.1, l)))
          ];
        }
