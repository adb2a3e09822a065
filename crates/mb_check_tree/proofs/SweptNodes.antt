-- All inodes that opening a volume leaves in use, as a map.
use Rattle.std.proofs.Common.{◌≡◌, inl, inr, ℕ, ◌+◌, Bool, false, not, cond, Option, Some, None, sym, ap, subst, ◌∙◌, arith}
use Rattle.std.specs.FinMap as fin
use Rattle.std.specs.FinMap.{get-empty, get-retain_keys, nat_cmp-IsAntisymmetric}
use Rattle.std.specs.Ordering.{nat_cmp}
use Rattle.std.proofs.lemmas.Bool.{cases_lt}
use Rattle.mb_kinds.specs.Image.{Image}
use Rattle.mb_tree.specs.Maps.{Numbered}
use Rattle.mb_tree.specs.Opening.{is_nameless, swept}
use Rattle.mb_tree.specs.Volume.{last_inode}
use Rattle.mb_tree.specs.declared.nodes.Node.{Node}
use Rattle.mb_tree.proofs.FiniteMaps.{same}
use Rattle.mb_rules.specs.TreeOf.{node_at, tree_of}
use Rattle.mb_scan_laws.proofs.TreeNodes.{get_past, get_tree}
use Rattle.mb_check_tree.specs.Filling.{HasBelow}
use Rattle.mb_check_tree.proofs.Fillings.{one_more}
use Rattle.mb_check_tree.specs.Sweeping.{kept_node, swept_at}

pub kept_by : (ino : ℕ) (node : Option Node) (nameless : Bool) → is_nameless ino node ≡ nameless → kept_node ino node ≡ cond (not nameless) node None
kept_by ino node nameless e = ap (λ b. cond (not b) node None) e

none_kept : (ino : ℕ) (node : Option Node) → node ≡ None → kept_node ino node ≡ None
none_kept ino o e = ap (kept_node ino) e

swept_get : (image : Image) (ino : ℕ) → fin.get (swept (tree_of image).nodes) ino ≡ kept_node ino (fin.get (tree_of image).nodes ino)
unfolding swept
swept_get image ino =
    let p : ℕ → Bool = λ k. not (is_nameless k (fin.get (tree_of image).nodes k)) in
    get-retain_keys (tree_of image).nodes p ino (λ x t. ap p (sym (nat_cmp-IsAntisymmetric ino x t)))

pub first_kept : (image : Image) (m : Numbered Node) → m ≡ fin.empty → HasBelow m 1 (swept_at image.at)
unfolding node_at
first_kept image m e = record {
  below = λ p low. ap (λ (n : Numbered Node). fin.get n p) e ∙ get-empty {X = Node} nat_cmp p ∙ sym (let zero_is : p ≡ 0 = omega (arith, low) in ap (swept_at image.at) zero_is);
  past = λ p far. ap (λ (n : Numbered Node). fin.get n p) e ∙ get-empty {X = Node} nat_cmp p;
}

pub all_kept : (image : Image) (m : Numbered Node) (n : ℕ) → n ≡ last_inode image.at → HasBelow m (n + 1) (swept_at image.at) → m ≡ swept (tree_of image).nodes
all_kept image m n e has = same m (swept (tree_of image).nodes) (λ p. elim (cases_lt p (n + 1)) [
  | inl low ↦ has.below p low ∙ sym (swept_get image p ∙ ap (kept_node p) (get_tree image p (omega (arith, low, e))))
  | inr far ↦ has.past p far ∙ sym (swept_get image p ∙ none_kept p (fin.get (tree_of image).nodes p) (get_past image p (omega (arith, far, e))))
])

pub kept_added : (m new : Numbered Node) (ino number : ℕ) (node : Node) (value : ℕ → Option Node) → number ≡ ino → new ≡ fin.insert m number node → is_nameless ino (Some node) ≡ false → HasBelow m ino value → value ino ≡ kept_node ino (Some node) → HasBelow new (ino + 1) value
kept_added m new ino number node value same_number made named has is =
    subst (λ n. HasBelow n (ino + 1) value) (sym (made ∙ ap (λ k. fin.insert m k node) same_number)) (one_more m ino value node has (is ∙ kept_by ino (Some node) false named))
