-- Laid blocks keep rules 2 to 4.
use Rattle.std.proofs.Common.{ℕ, zero, suc, ◌≡◌, ◌≢◌, ◌↔◌, ◌⊎◌, inl, inr, ◌-◌, ◌<◌, ◌≤◌, Bool, true, false, cond, nat_eq, List, [], ◌∷◌, All, refl, sym, ap, subst, ◌∙◌, arith}
use Rattle.std.specs.List.{Contains}
use Rattle.std.proofs.lemmas.Bool.{cases_eq}
use Rattle.std.proofs.lemmas.Bool.Decides.{nat_tests}
use Rattle.std.proofs.lemmas.List.Elements.{All-head, All-tail}
use Rattle.mb_word.specs.Fields.{isize_of, fsize_of, ninode_of}
use Rattle.mb_tree.specs.Blocks.{first_list, list_in}
use Rattle.mb_tree.specs.Chain.{Listed, after_taking, IsChain, IsNext}
use Rattle.mb_tree.specs.Volume.{IsOpenToFiles}
use Rattle.mb_blocks.specs.Laid.{IsLaid}
use Rattle.mb_blocks.proofs.Listing.{chain_few}
use Rattle.mb_blocks.proofs.Rearranged.{all_right, own}
use Rattle.mb_blocks.specs.Rules.{nth_list, LeadsTo, KeepsRules, IsOut}

-- a list from which a chain is taken whose blocks are open to files
record IsFine (blocks : ℕ → List ℕ) (it : Listed) : Type 0 where
  pub listed : (k : ℕ) → k < it.count → ((k ≡ 0) × (it.entry k ≡ 0)) ⊎ IsOpenToFiles blocks (it.entry k)
  pub next : 0 < it.count → it.entry 0 ≢ 0 → (rest : List ℕ) × IsChain (list_in blocks) (list_in blocks (it.entry 0)) rest × All (IsOpenToFiles blocks) rest

fine : (blocks : ℕ → List ℕ) (it : Listed) (chain : List ℕ) → IsChain (list_in blocks) it chain → All (IsOpenToFiles blocks) chain → IsFine blocks it
unfolding after_taking
fine blocks it [] (inl none) are = record { listed = λ k low. absurd (omega (arith, low, none)); next = λ some real. absurd (omega (arith, some, none)) }
fine blocks it [] (inr last) are = record {
  listed = λ k low. (let z : k ≡ 0 = omega (arith, low, last.0) in inl (z, ap it.entry z ∙ last.1));
  next = λ some real. absurd (real last.1);
}
fine blocks it (b ∷ bs) has are =
    let next = has.0 in
    let here = next.here in
    let head = All-head (IsOpenToFiles blocks) b bs are in
    let tail = All-tail (IsOpenToFiles blocks) b bs are in
    elim (cases_eq it.count 1) [
      | inl one ↦
          let t : nat_eq it.count 1 ≡ true = grind (arith, nat_tests) in
          let first : it.entry 0 ≡ b = ap it.entry (omega (arith, one)) ∙ here in
          let rest : IsChain (list_in blocks) (list_in blocks b) bs = subst (λ v. IsChain (list_in blocks) (cond v (list_in blocks b) (record it { count = it.count - 1 })) bs) t has.1 in
          record {
            listed = λ k low. inr (subst (IsOpenToFiles blocks) (sym (ap it.entry (omega (arith, low, one)) ∙ first)) head);
            next = λ some real. (bs, subst (λ x. IsChain (list_in blocks) (list_in blocks x) bs) (sym first) rest, tail);
          }
      | inr more ↦
          let some = next.some in
          let t : nat_eq it.count 1 ≡ false = grind (arith, nat_tests) in
          let rest : IsChain (list_in blocks) (record it { count = it.count - 1 }) bs = subst (λ v. IsChain (list_in blocks) (cond v (list_in blocks b) (record it { count = it.count - 1 })) bs) t has.1 in
          let under = fine blocks (record it { count = it.count - 1 }) bs rest tail in
          record {
            listed = λ k low. elim (cases_eq k (it.count - 1)) [
              | inl last ↦ inr (subst (IsOpenToFiles blocks) (sym (ap it.entry last ∙ here)) head)
              | inr apart ↦ under.listed k (omega (arith, low, apart))
            ];
            next = λ any real. under.next (omega (arith, some, more)) real;
          }
    ]

nth_chain : (blocks : ℕ → List ℕ) (chain : List ℕ) → IsChain (list_in blocks) (first_list blocks) chain → All (IsOpenToFiles blocks) chain
    → (n : ℕ) → LeadsTo blocks n → (rest : List ℕ) × IsChain (list_in blocks) (nth_list blocks n) rest × All (IsOpenToFiles blocks) rest
nth_chain blocks chain free are zero leads = (chain, free, are)
nth_chain blocks chain free are (suc n) leads =
    let was = nth_chain blocks chain free are n leads.0 in
    (fine blocks (nth_list blocks n) was.0 was.1 was.2).next leads.1 leads.2

pub laid_rules : (has : ℕ → Bool) (blocks : ℕ → List ℕ) (loose chain : List ℕ) → IsLaid has blocks loose chain → isize_of (blocks 1) ≤ 8193 → fsize_of (blocks 1) ≤ 262144 → ninode_of (blocks 1) ≤ 100 → KeepsRules blocks
laid_rules has blocks loose chain laid few_inodes few_blocks cached =
    let open_chain : All (IsOpenToFiles blocks) chain = all_right (IsOpenToFiles blocks) loose chain laid.spare.in_range in
    record {
      sized = laid.sized;
      some_inodes = laid.wide;
      few_inodes = few_inodes;
      few_blocks = few_blocks;
      cached = cached;
      counts = λ n leads. (let c = nth_chain blocks chain laid.free open_chain n leads in chain_few (list_in blocks) (nth_list blocks n) c.0 c.1);
      listed = λ n k leads low. (let c = nth_chain blocks chain laid.free open_chain n leads in (fine blocks (nth_list blocks n) c.0 c.1 c.2).listed k low);
    }

-- none can be taken exactly at the end
pub out_at_end : (has : ℕ → Bool) (blocks : ℕ → List ℕ) (loose chain : List ℕ) → IsLaid has blocks loose chain → IsOut (first_list blocks) ↔ (chain ≡ [])
out_at_end has blocks loose chain laid = (λ out. at_end chain laid.free out, λ none. end_out chain laid.free none)
  where
    at_end : (xs : List ℕ) → IsChain (list_in blocks) (first_list blocks) xs → IsOut (first_list blocks) → xs ≡ []
    at_end [] free out = refl
    at_end (x ∷ xs) free (inl none) = absurd (let some = free.0.some in omega (arith, some, none))
    at_end (x ∷ xs) free (inr last) = absurd (let here = free.0.here in let real = free.0.real in omega (arith, here, real, last))

    end_out : (xs : List ℕ) → IsChain (list_in blocks) (first_list blocks) xs → xs ≡ [] → IsOut (first_list blocks)
    end_out [] (inl none) e = inl none
    end_out [] (inr last) e = inr (ap (λ n. (first_list blocks).entry (n - 1)) last.0 ∙ last.1)
    end_out (x ∷ xs) free e = cc

-- the next block that is taken is the chain's first
pub next_in_chain : (has : ℕ → Bool) (blocks : ℕ → List ℕ) (loose chain : List ℕ) (block : ℕ) → IsLaid has blocks loose chain → IsNext (first_list blocks) block → Contains chain block
next_in_chain has blocks loose chain block laid next = among chain laid.free
  where
    among : (xs : List ℕ) → IsChain (list_in blocks) (first_list blocks) xs → Contains xs block
    among [] (inl none) = absurd (let some = next.some in omega (arith, some, none))
    among [] (inr last) =
        (let here = next.here in
        let real = next.real in
        let e : (first_list blocks).entry ((first_list blocks).count - 1) ≡ (first_list blocks).entry 0 = ap (λ n. (first_list blocks).entry (n - 1)) last.0 in
        absurd (omega (arith, real, sym here ∙ e ∙ last.1)))
    among (x ∷ xs) free = subst (Contains (x ∷ xs)) (sym free.0.here ∙ next.here) (own x xs)
