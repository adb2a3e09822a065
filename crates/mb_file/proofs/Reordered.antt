-- Blocks listed in another order.
use Rattle.std.proofs.Common.{ℕ, ◌≡◌, nat_eq, List, [], ◌∷◌, length, refl, sym, subst, arith}
use Rattle.std.specs.List.Sorted.{IsPermutation}
use Rattle.std.proofs.lemmas.Bool.Decides.{Decides-eqb, nat_tests}
use Rattle.std.proofs.lemmas.List.Sorted.{Contains-permutation, IsPermutation-sym, length_permutation}
use Rattle.std.proofs.lemmas.Map.Keys.{IsDistinct-IsPermutation}
use Rattle.std.proofs.lemmas.Map.Made.{AllPairs-from_IsDistinct, IsDistinct-from_AllPairs}
use Rattle.mb_tree.specs.declared.nodes.Body.{Body}
use Rattle.mb_blocks.specs.Laid.{AreOnce}
use Rattle.mb_blocks.specs.Owners.{Enumerates}
use Rattle.mb_nodes.specs.Bodies.{LetsGo}
use Rattle.mb_nodes.specs.Bodies.LetsGo.{listed, special}

flips : (x y : ℕ) → nat_eq x y ≡ nat_eq y x
flips x y = grind (arith, nat_tests)

once_reordered : (xs ys : List ℕ) → IsPermutation xs ys → AreOnce xs → AreOnce ys
once_reordered xs ys order once = AllPairs-from_IsDistinct Decides-eqb ys (IsDistinct-IsPermutation nat_eq flips xs ys order (IsDistinct-from_AllPairs Decides-eqb xs once))

pub enumerates_reordered : (blocks : ℕ → List ℕ) (ino : ℕ) (xs ys : List ℕ) → IsPermutation xs ys → Enumerates blocks ino xs → Enumerates blocks ino ys
enumerates_reordered blocks ino xs ys order lists = record {
  once = once_reordered xs ys order lists.once;
  all = λ q mine some. Contains-permutation xs ys _ order (lists.all q mine some);
  only = λ block among. lists.only block (Contains-permutation ys xs block (IsPermutation-sym xs ys order) among);
}

none_long : (ys : List ℕ) → length ys ≡ 0 → ys ≡ []
none_long [] e = refl
none_long (y ∷ ys) e = absurd (omega (arith, e))

pub lets_reordered : (blocks : ℕ → List ℕ) (ino : ℕ) (body : Body) (xs ys : List ℕ) → IsPermutation xs ys → LetsGo blocks ino body xs → LetsGo blocks ino body ys
lets_reordered blocks ino body xs ys order (listed b l t lists) = listed body ys t (enumerates_reordered blocks ino xs ys order lists)
lets_reordered blocks ino body xs ys order (special b t) = subst (LetsGo blocks ino body) (sym (none_long ys (length_permutation [] ys order))) (special body t)
