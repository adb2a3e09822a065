-- The free chain: it is read below its lists' counts, and an address pushed on its first list is its next block.
use Rattle.std.proofs.Common.{ℕ, ◌≡◌, ◌≢◌, inl, inr, ◌+◌, ◌-◌, ◌<◌, ◌≤◌, true, false, cond, nat_eq, List, [], ◌∷◌, All, refl, sym, ap, subst, ◌∙◌, arith}
use Rattle.std.proofs.lemmas.Bool.{cases_eq}
use Rattle.std.proofs.lemmas.Bool.Decides.{nat_tests}
use Rattle.std.proofs.lemmas.List.Elements.{All-head, All-tail}
use Rattle.mb_tree.specs.Chain.{Listed, IsNext, after_taking, IsChain}
use Rattle.mb_blocks.specs.FreeLists.{IsSameList, after_freeing, emptied, ended, pushed}

alike_after : (f g : ℕ → Listed) (it like : Listed) (block : ℕ) → 0 < it.count → f block ≡ g block → IsSameList like it → IsSameList (after_taking g like block) (after_taking f it block)
unfolding after_taking
alike_after f g it like block some same alike =
    elim (cases_eq it.count 1) [
      | inl one ↦
          let a : nat_eq it.count 1 ≡ true = grind (arith, nat_tests) in
          let e : like.count ≡ 1 = alike.count ∙ one in
          let b : nat_eq like.count 1 ≡ true = grind (arith, nat_tests) in
          rw (a, b) (subst (λ x. IsSameList x (f block)) same (record { count = refl; entry = λ k low. refl }))
      | inr more ↦
          let a : nat_eq it.count 1 ≡ false = grind (arith, nat_tests) in
          let e = alike.count in
          let b : nat_eq like.count 1 ≡ false = grind (arith, nat_tests) in
          rw (a, b) (record { count = ap (λ n. n - 1) e; entry = λ k low. alike.entry k (omega (arith, low)) })
    ]

-- a chain is read from its lists below their counts
pub chain_alike : (f g : ℕ → Listed) (it like : Listed) (chain : List ℕ) → All (λ block. f block ≡ g block) chain → IsSameList like it → IsChain f it chain → IsChain g like chain
chain_alike f g it like [] same alike (inl none) = inl (alike.count ∙ none)
chain_alike f g it like [] same alike (inr last) = inr (alike.count ∙ last.0, alike.entry 0 (omega (arith, last.0)) ∙ last.1)
chain_alike f g it like (block ∷ blocks) same alike has =
    let next = has.0 in
    let some = next.some in
    let few = next.few in
    let count = alike.count in
    let last : like.entry (like.count - 1) ≡ it.entry (it.count - 1) = ap (λ n. like.entry (n - 1)) count ∙ alike.entry (it.count - 1) (omega (arith, some)) in (
      record { some = omega (arith, some, count); few = omega (arith, few, count); here = last ∙ next.here; real = next.real },
      chain_alike f g (after_taking f it block) (after_taking g like block) blocks (All-tail (λ b. f b ≡ g b) block blocks same)
          (alike_after f g it like block some (All-head (λ b. f b ≡ g b) block blocks same) alike) has.1,
    )

pub chain_few : (f : ℕ → Listed) (it : Listed) (chain : List ℕ) → IsChain f it chain → it.count ≤ 50
chain_few f it [] (inl none) = omega (arith, none)
chain_few f it [] (inr last) = omega (arith, last.0)
chain_few f it (block ∷ blocks) has = has.0.few

pub chain_none : (f : ℕ → Listed) (it : Listed) (chain : List ℕ) → it.count ≡ 0 → IsChain f it chain → chain ≡ []
chain_none f it [] none has = refl
chain_none f it (block ∷ blocks) none has = absurd (let some = has.0.some in omega (arith, some, none))

-- ---- an address pushed on a list

module _ (it like : Listed) (block : ℕ) (alike : IsSameList like (pushed it block)) where
  pub next_pushed : it.count < 50 → 0 < block → IsNext like block
  next_pushed few real =
      let count : like.count ≡ it.count + 1 = alike.count in
      let t : nat_eq it.count it.count ≡ true = grind (arith, nat_tests) in
      record {
        some = omega (arith, count);
        few = omega (arith, count, few);
        here = ap (λ n. like.entry n) (omega (arith, count)) ∙ alike.entry it.count (omega arith) ∙ ap (λ b. cond b block (it.entry it.count)) t;
        real = real;
      }

  -- taken again, it leaves the list as it was, or, where that had no address, leads to the list in the block
  pub after_pushed : (f : ℕ → Listed) → 0 < it.count → IsSameList (after_taking f like block) it
  unfolding after_taking
  after_pushed f some =
      let count : like.count ≡ it.count + 1 = alike.count in
      let t : nat_eq like.count 1 ≡ false = grind (arith, nat_tests) in
      rw t (record {
        count = omega (arith, count);
        entry = λ k low. (let s : nat_eq k it.count ≡ false = grind (arith, nat_tests) in alike.entry k (omega (arith, low)) ∙ ap (λ b. cond b block (it.entry k)) s);
      })

  pub after_first : (f : ℕ → Listed) → it.count ≡ 0 → after_taking f like block ≡ f block
  unfolding after_taking
  after_first f none =
      let count : like.count ≡ it.count + 1 = alike.count in
      let t : nat_eq like.count 1 ≡ true = grind (arith, nat_tests) in
      rw t refl

-- ---- the three cases of a block put back

module _ (it : Listed) (block : ℕ) where
  freeing_none : it.count ≡ 0 → after_freeing it block ≡ pushed ended block
  unfolding after_freeing
  freeing_none none = let t : nat_eq it.count 0 ≡ true = grind (arith, nat_tests) in rw t refl

  freeing_full : it.count ≡ 50 → after_freeing it block ≡ pushed emptied block
  unfolding after_freeing
  freeing_full full =
      let t : nat_eq it.count 0 ≡ false = grind (arith, nat_tests) in
      let s : nat_eq it.count 50 ≡ true = grind (arith, nat_tests) in
      rw (t, s) refl

  freeing_some : it.count ≢ 0 → it.count ≢ 50 → after_freeing it block ≡ pushed it block
  unfolding after_freeing
  freeing_some some off =
      let t : nat_eq it.count 0 ≡ false = grind (arith, nat_tests) in
      let s : nat_eq it.count 50 ≡ false = grind (arith, nat_tests) in
      rw (t, s) refl

  -- the chain with the block in front
  pub chain_freed : (f g : ℕ → Listed) (like : Listed) (chain : List ℕ) → 0 < block → IsSameList like (after_freeing it block) → (it.count ≡ 50 → IsSameList (g block) it)
      → All (λ b. f b ≡ g b) chain → IsChain f it chain → IsChain g like (block ∷ chain)
  chain_freed f g like chain real alike copied same has = elim (cases_eq it.count 0) [
    | inl none ↦
        let is : IsSameList like (pushed ended block) = subst (IsSameList like) (freeing_none none) alike in
        let after : IsSameList (after_taking g like block) ended = after_pushed ended like block is g (omega arith) in (
          next_pushed ended like block is (omega arith) real,
          subst (IsChain g (after_taking g like block)) (sym (chain_none f it chain none has)) (inr (after.count, after.entry 0 (omega arith))),
        )
    | inr some ↦ elim (cases_eq it.count 50) [
      | inl full ↦
          let is : IsSameList like (pushed emptied block) = subst (IsSameList like) (freeing_full full) alike in
          let after : after_taking g like block ≡ g block = after_first emptied like block is g refl in (
            next_pushed emptied like block is (omega arith) real,
            chain_alike f g it (after_taking g like block) chain same (subst (λ x. IsSameList x it) (sym after) (copied full)) has,
          )
      | inr off ↦
          let is : IsSameList like (pushed it block) = subst (IsSameList like) (freeing_some some off) alike in
          let few = chain_few f it chain has in (
            next_pushed it like block is (omega (arith, few, off)) real,
            chain_alike f g it (after_taking g like block) chain same (after_pushed it like block is g (omega (arith, some))) has,
          )
    ]
  ]
