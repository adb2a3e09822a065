-- A list of free blocks has one chain.
use Rattle.std.proofs.Common.{◌≡◌, inl, inr, ℕ, ◌-◌, List, [], ◌∷◌, refl, sym, ap, subst, ◌∙◌, arith}
use Rattle.mb_tree.specs.Chain.{Listed, after_taking, IsChain}

pub chain_once : (list_in : ℕ → Listed) (it : Listed) (xs ys : List ℕ) → IsChain list_in it xs → IsChain list_in it ys → xs ≡ ys
chain_once list_in it [] [] one other = refl
chain_once list_in it [] (y ∷ ys) (inl none) other = absurd (let some = other.0.some in omega arith)
chain_once list_in it [] (y ∷ ys) (inr last) other =
    let e : it.entry (it.count - 1) ≡ it.entry 0 = ap it.entry (omega (arith, last.0)) in
    let real = other.0.real in
    absurd (omega (arith, sym e ∙ other.0.here, last.1))
chain_once list_in it (x ∷ xs) [] one (inl none) = absurd (let some = one.0.some in omega arith)
chain_once list_in it (x ∷ xs) [] one (inr last) =
    let e : it.entry (it.count - 1) ≡ it.entry 0 = ap it.entry (omega (arith, last.0)) in
    let real = one.0.real in
    absurd (omega (arith, sym e ∙ one.0.here, last.1))
chain_once list_in it (x ∷ xs) (y ∷ ys) one other =
    let e : y ≡ x = sym other.0.here ∙ one.0.here in
    let rest : IsChain list_in (after_taking list_in it x) ys = subst (λ b. IsChain list_in (after_taking list_in it b) ys) e other.1 in
    ap (λ b. b ∷ xs) (sym e) ∙ ap (λ bs. y ∷ bs) (chain_once list_in (after_taking list_in it x) xs ys one.1 rest)
