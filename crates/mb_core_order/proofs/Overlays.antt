-- Changes written one after another, each block once, read as the changes over the image.
use Rattle.std.proofs.Common.{List, [], ◌∷◌, ℕ, zero, suc, ◌+◌, ◌≡◌, ◌≤◌, Bool, true, false, cond, nat_eq, Option, Some, unwrap_or, refl, ap, sym, ◌∙◌, subst, arith}
use Rattle.std.proofs.lemmas.Bool.Decides.{nat_tests}
use Rattle.mb_kinds.specs.Image.{Image}
use Rattle.mb_iface.specs.Acting.{with_changes}
use Rattle.mb_kinds.specs.Changed.{ChangeList, changed}
use Rattle.mb_tree.specs.Views.{over}
use Rattle.std.specs.Prelude.{slice_get, slice_set}
use Rattle.mb_edge.specs.Damage.{OpenCounts}
use Rattle.mb_tree.specs.Effect.{TreeAndOpens}
use Rattle.mb_tree.specs.declared.trees.Tree.{Tree}
use Rattle.mb_cache.specs.Pages.{PageList, under}
use Rattle.mb_core_order.proofs.Redoing.{kept_grows, volume_grows}
use Rattle.mb_core_spec.specs.Callers.{total}
use Rattle.mb_core_spec.specs.Seen.{IsHeldBy}

pub under_count : (image : Image) (changes : PageList) → image.count ≤ (under image changes).count
under_count image [] = omega arith
under_count image (change ∷ changes) = let rest = under_count image changes in omega (arith, rest)

put_or : (b : Bool) (bytes below : List ℕ) (o : Option (List ℕ)) (left : List ℕ) → below ≡ unwrap_or o left → cond b bytes below ≡ unwrap_or (cond b (Some bytes) o) left
put_or true bytes below o left same = refl
put_or false bytes below o left same = same

pub under_at : (image : Image) (changes : ChangeList) (block : ℕ) → (under image changes).at block ≡ unwrap_or (changed changes block) (image.at block)
under_at image [] block = refl
under_at image (change ∷ changes) block =
    let swap : nat_eq change.0 block ≡ nat_eq block change.0 = grind (arith, nat_tests) in
    ap (λ b. cond b change.1 ((under image changes).at block)) swap ∙ put_or (nat_eq block change.0) change.1 ((under image changes).at block) (changed changes block) (image.at block) (under_at image changes block)

-- on a larger device
pub under_is : (image : Image) (changes : ChangeList) → under image changes ≡ record (with_changes image changes) { count = (under image changes).count }
unfolding over
under_is image changes = λ i. record { count = (under image changes).count; at = λ block. under_at image changes block i }

-- a volume under its changes is one under the pages that they become
pub under_held : (image : Image) (changes : ChangeList) (before : Tree) (first : Image) (opens : OpenCounts) (held : TreeAndOpens)
    → IsHeldBy before first (with_changes image changes) opens held → IsHeldBy before first (under image changes) opens held
under_held image changes before first opens held is = subst (λ view. IsHeldBy before first view opens held) (sym (under_is image changes)) (record {
  volume = volume_grows (with_changes image changes) held.tree (under image changes).count (under_count image changes) is.volume;
  kept = kept_grows before first held.tree (with_changes image changes) (under image changes).count is.kept;
  counted = is.counted;
})

-- ---- sums over the callers

pub same_some : {X : Type 0} (x y : X) → Some x ≡ Some y → x ≡ y
same_some x y h = cc

pub total_set : {X : Type 0} (f : X → ℕ) (xs : List X) (at : ℕ) (old new : X) → slice_get xs at ≡ Some old → total f (slice_set xs at new) + f old ≡ total f xs + f new
total_set f [] at old new has = cc
total_set f (x ∷ xs) zero old new has = let same : f x ≡ f old = ap f (same_some x old has) in omega (arith, same)
total_set f (x ∷ xs) (suc at) old new has = let rest = total_set f xs at old new has in omega (arith, rest)
