-- The inodes that an operation touches are those at which it looks.
use Rattle.std.proofs.Common.{ℕ, ◌≡◌, ◌⊎◌, inl, inr, Bool, true, false, ◌||◌, nat_eq, [], Option, Some, None, refl, ap, subst, ◌∙◌, arith}
use Rattle.std.specs.List.{list_any}
use Rattle.std.specs.Cmp.{nat_eq_equiv}
use Rattle.std.proofs.lemmas.Bool.Decides.{nat_tests}
use Rattle.std.proofs.lemmas.Map.Views.{Contains-from_any, list_any-from_Contains}
use Rattle.mb_kinds.specs.Image.{Image}
use Rattle.mb_tree.specs.declared.operations.FsOp.{FsOp}
use Rattle.mb_tree.specs.declared.trees.Tree.{Tree}
use Rattle.mb_iface.specs.Acting.{with_changes}
use Rattle.mb_iface.specs.Near.{IsNear, IsTouched, led_by, named_by}
use Rattle.mb_iface.specs.Near.IsNear.{super_block, inode_list, free, held}
use Rattle.mb_moves.specs.Advancing.{IsNearTo}
use Rattle.mb_moves.specs.Looking.{is_led, touches}
use Rattle.mb_moves.proofs.InARow.{itself}

is_its : (found : Option ℕ) (ino : ℕ) → is_led found ino ≡ true → found ≡ Some ino
is_its None ino t = cc
is_its (Some other) ino t = (let e : other ≡ ino = grind (arith, nat_tests) in ap (λ x. Some x) e)

its_is : (found : Option ℕ) (ino : ℕ) → found ≡ Some ino → is_led found ino ≡ true
its_is found ino e = (let t : nat_eq ino ino ≡ true = grind (arith, nat_tests) in ap (λ o. is_led o ino) e ∙ t)

or_left : (a b : Bool) → a ≡ true → (a || b) ≡ true
or_left a b t = ap (λ x. x || b) t

or_right : (a b : Bool) → b ≡ true → (a || b) ≡ true
or_right true b t = refl
or_right false b t = t

either : (a b : Bool) → (a || b) ≡ true → (a ≡ true) ⊎ (b ≡ true)
either true b t = inl refl
either false b t = inr t

same_number : (x y : ℕ) → nat_eq x y ≡ true → x ≡ y
same_number x y t = grind (arith, nat_tests)

module _ (tree : Tree) (op : FsOp) (ino : ℕ) where
  looked : IsTouched tree op ino → touches tree op ino ≡ true
  looked (inl named) = or_left (list_any (nat_eq ino) (named_by op)) (is_led (led_by tree.nodes op) ino) (list_any-from_Contains nat_eq_equiv ino (named_by op) named)
  looked (inr led) = or_right (list_any (nat_eq ino) (named_by op)) (is_led (led_by tree.nodes op) ino) (its_is (led_by tree.nodes op) ino led)

  touched_by : (list_any (nat_eq ino) (named_by op) ≡ true) ⊎ (is_led (led_by tree.nodes op) ino ≡ true) → IsTouched tree op ino
  touched_by (inl t) = inl (Contains-from_any same_number ino (named_by op) t)
  touched_by (inr t) = inr (is_its (led_by tree.nodes op) ino t)

  pub touched : touches tree op ino ≡ true → IsTouched tree op ino
  touched t = touched_by (either (list_any (nat_eq ino) (named_by op)) (is_led (led_by tree.nodes op) ino) t)

  pub touched_is : (IsTouched tree op ino → touches tree op ino ≡ true) × (touches tree op ino ≡ true → IsTouched tree op ino)
  touched_is = (looked, touched)

touched_near : (image : Image) (tree : Tree) (op : FsOp) (block : ℕ) → IsNearTo image tree (touches tree op) block → IsNear image tree (IsTouched tree op) block
touched_near image tree op block (super_block is) = super_block is
touched_near image tree op block (inode_list from below) = inode_list from below
touched_near image tree op block (free chain lists among) = free chain lists among
touched_near image tree op block (held q h t e) = held q h (touched tree op _ t) e

pub near_touched : (image : Image) (tree : Tree) (op : FsOp) (block : ℕ) → (IsNearTo image tree (touches tree op) block → IsNear image tree (IsTouched tree op) block)
    × (IsNearTo (with_changes image []) tree (touches tree op) block → IsNear image tree (IsTouched tree op) block)
near_touched image tree op block =
    (touched_near image tree op block, λ near. touched_near image tree op block (subst (λ i. IsNearTo i tree (touches tree op) block) (itself image) near))
