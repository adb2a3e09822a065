-- Blocks in hand put back on the free chain one after another.
use Rattle.std.proofs.Common.{ℕ, ◌≡◌, ◌+◌, Bool, List, [], ◌∷◌, ◌++◌, length, refl, sym, subst, ◌∙◌, arith}
use Rattle.std.proofs.lemmas.List.Elements.{All-head}
use Rattle.mb_tree.specs.Volume.{IsOpenToFiles}
use Rattle.mb_blocks.specs.FreeLists.{AreFreed, HasFreed, IsFreed, KeepsRest, onto}
use Rattle.mb_blocks.specs.Laid.{IsLaid}
use Rattle.mb_blocks.proofs.Conserving.{conserved_freed, conserved_same, conserved_then}
use Rattle.mb_blocks.proofs.Freeing.{freed_held, laid_freed}
use Rattle.mb_blocks.proofs.Keeping.{sizes_same}
use Rattle.mb_blocks.proofs.Pointing.{held_same, held_then}

pub onto_length : (blocks chain : List ℕ) → length (onto blocks chain) ≡ length blocks + length chain
onto_length [] chain = omega arith
onto_length (block ∷ blocks) chain = (let e = onto_length blocks (block ∷ chain) in omega (arith, e))

pub freed_rest : (has : ℕ → Bool) (old new : ℕ → List ℕ) (block : ℕ) (loose chain : List ℕ) → IsLaid has old (block ∷ loose) chain → IsFreed old new block → KeepsRest old new
freed_rest has old new block loose chain laid freed =
    let from = (All-head (IsOpenToFiles old) block (loose ++ chain) laid.spare.in_range).from in
    record { front = freed.front; back = freed.back; listed = λ other off low. freed.others other off (omega (arith, low, from)) }

pub rest_then : (old mid new : ℕ → List ℕ) → KeepsRest old mid → KeepsRest mid new → KeepsRest old new
rest_then old mid new one two =
    let same = sizes_same old mid one.front in
    record {
      front = λ k low high. two.front k low high ∙ one.front k low high;
      back = λ k low high. two.back k low high ∙ one.back k low high;
      listed = λ block off low. two.listed block off (omega (arith, low, same.0)) ∙ one.listed block off low;
    }

pub freed_all : (has : ℕ → Bool) (old new : ℕ → List ℕ) (blocks loose chain : List ℕ) → IsLaid has old (blocks ++ loose) chain → AreFreed old new blocks → HasFreed has old new blocks loose chain (onto blocks chain)
freed_all has old new [] loose chain laid is =
    subst (λ (x : ℕ → List ℕ). HasFreed has old x [] loose chain chain) (sym is)
    (record { laid = laid; held = held_same has old; rest = record { front = λ k low high. refl; back = λ k low high. refl; listed = λ block off low. refl }; conserves = conserved_same has old (loose ++ chain) })
freed_all has old new (block ∷ blocks) loose chain laid (mid, first, more) =
    let then = freed_all has mid new blocks loose (block ∷ chain) (laid_freed has old mid block (blocks ++ loose) chain laid first) more in
    record {
      laid = then.laid;
      held = held_then has old mid new (freed_held has old mid block (blocks ++ loose) chain laid first) then.held;
      rest = rest_then old mid new (freed_rest has old mid block (blocks ++ loose) chain laid first) then.rest;
      conserves = conserved_then has has has old mid new (block ∷ ((blocks ++ loose) ++ chain)) ((blocks ++ loose) ++ block ∷ chain) (loose ++ onto blocks (block ∷ chain)) laid.wide
          (conserved_freed has old mid block (blocks ++ loose) chain laid first) then.conserves;
    }
