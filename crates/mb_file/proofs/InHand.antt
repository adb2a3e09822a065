-- A node's blocks in hand once its inode was written without them.
use Rattle.std.proofs.Common.{ℕ, ◌≡◌, ◌<◌, ◌≤◌, Bool, List, [], ◌++◌, Some, refl, sym, ap, subst, ◌∙◌, arith, append-nil}
use Rattle.std.specs.FinMap as fin
use Rattle.mb_kinds.specs.Image.{Image}
use Rattle.mb_word.specs.Fields.{isize_of, fsize_of, ninode_of, inode_block}
use Rattle.mb_tree.specs.Volume.{body_has_addresses, has_addresses, node_has_addresses}
use Rattle.mb_tree.specs.declared.nodes.Body.{Body}
use Rattle.mb_tree.specs.declared.nodes.Node.{Node}
use Rattle.mb_tree.specs.declared.trees.Tree.{Tree}
use Rattle.mb_blocks.specs.Inodes.{IsRewritten}
use Rattle.mb_blocks.specs.Laid.{IsLaid}
use Rattle.mb_blocks.specs.Owners.{without}
use Rattle.mb_blocks.proofs.LettingGo.{laid_fewer, laid_less}
use Rattle.mb_blocks.proofs.Owning.{without_apart, without_has}
use Rattle.mb_blocks.proofs.PartWriting.{rewritten_laid}
use Rattle.mb_nodes.specs.Bodies.{LetsGo}
use Rattle.mb_nodes.specs.Bodies.LetsGo.{listed, special}
use Rattle.mb_nodes.specs.Stored.{IsStored}
use Rattle.mb_nodes.proofs.OneInode.{in_list, laid_stored}
use Rattle.mb_file.specs.Freeing.{AreInHand}

module _ (image : Image) (tree : Tree) (chain : List ℕ) (stored : IsStored image tree chain) (ino : ℕ) (node : Node) (has : fin.get tree.nodes ino ≡ Some node)
    (list : List ℕ) (lets : LetsGo image.at ino node.body list) (mid : ℕ → List ℕ) (written : IsRewritten image.at mid ino) where
  abbrev rest : ℕ → Bool
  rest = without (has_addresses tree) ino

  low : inode_block ino < isize_of (image.at 1)
  low = (let n = stored.numbers ino node has in in_list image tree chain stored ino (omega (arith, n.0)) n.1)

  laid_let : (body : Body) (xs : List ℕ) → body ≡ node.body → LetsGo image.at ino body xs → IsLaid rest image.at (xs ++ []) chain
  laid_let body xs same (listed b l t lists) =
      laid_less (has_addresses tree) image.at ino xs [] chain (laid_stored image tree chain stored) (ap node_has_addresses has ∙ ap body_has_addresses (sym same) ∙ t) lists
  laid_let body xs same (special b t) = laid_fewer rest (has_addresses tree) image.at [] chain (λ i h. without_has (has_addresses tree) ino i h) (laid_stored image tree chain stored)

  pub after_rewriting : AreInHand rest mid list chain
  after_rewriting =
      let first : mid 1 ≡ image.at 1 = written.others 1 (omega arith) in
      record {
        laid = subst (λ (xs : List ℕ). IsLaid rest mid xs chain) (append-nil list)
            (rewritten_laid rest image.at mid ino (list ++ []) chain (laid_let node.body list refl lets) low written (λ f. absurd (without_apart (has_addresses tree) ino ino f refl)));
        few_inodes = subst (λ (x : List ℕ). isize_of x ≤ 8193) (sym first) stored.sizes.few_inodes;
        few_blocks = subst (λ (x : List ℕ). fsize_of x ≤ 262144) (sym first) stored.sizes.few_blocks;
        cached = subst (λ (x : List ℕ). ninode_of x ≤ 100) (sym first) stored.cached;
      }
