-- Each step on blocks conserves what is accounted for.
use Rattle.std.proofs.Common.{ℕ, ◌≡◌, ◌≢◌, ◌⊎◌, inl, inr, ◌<◌, ◌≤◌, Bool, true, List, ◌∷◌, ◌++◌, length, slice_index, refl, sym, ap, subst, ◌∙◌, arith}
use Rattle.std.specs.List.{Contains}
use Rattle.std.proofs.lemmas.List.Elements.{All-head}
use Rattle.mb_word.specs.Fields.{isize_of}
use Rattle.mb_word.specs.Numbers.{SameFrom}
use Rattle.mb_tree.specs.Blocks.{pointers}
use Rattle.mb_tree.specs.Places.{Place, at, IsPlace}
use Rattle.mb_tree.specs.Volume.{IsOpenToFiles}
use Rattle.mb_blocks.specs.Conserved.{Conserves}
use Rattle.mb_blocks.specs.FreeLists.{IsFreed, IsTaken}
use Rattle.mb_blocks.specs.Growing.{missing}
use Rattle.mb_blocks.specs.Laid.{IsHad, IsLaid}
use Rattle.mb_blocks.specs.Laid.IsHad.{by_none, by_place}
use Rattle.mb_blocks.specs.Owners.{Enumerates, ino_of, without}
use Rattle.mb_blocks.specs.Pointing.{KeepsPointers}
use Rattle.mb_blocks.proofs.Keeping.{sizes_same}
use Rattle.mb_blocks.proofs.LettingGo.{had_less, less_had, place_there}
use Rattle.mb_blocks.proofs.Owning.{place_over}
use Rattle.mb_blocks.proofs.Pointing.{at_alike, its_pointers}
use Rattle.mb_blocks.proofs.Rearranged.{first_or_later, later, moved_had, moved_has, own}
use Rattle.mb_blocks.proofs.Taking.{hand_first, hand_held, taken_held}
use Rattle.mb_blocks.specs.Inodes.{IsBorn}
use Rattle.mb_blocks.proofs.Freeing as freeing

pub conserved_then : (one two three : ℕ → Bool) (old mid new : ℕ → List ℕ) (was then now : List ℕ) → 3 ≤ isize_of (old 1) → Conserves one two old mid was then → Conserves two three mid new then now → Conserves one three old new was now
conserved_then one two three old mid new was then now wide a b =
    let same = sizes_same old mid a.front in
    record {
      still = λ block some had. b.still block some (a.still block some had);
      already = λ block some had. a.already block some (b.already block some had);
      off = λ block from none. b.off block (omega (arith, from, same.0)) (λ had. none (a.already block (omega (arith, from, wide)) had)) ∙ a.off block from none;
      boot = b.boot ∙ a.boot;
      front = λ k from to. b.front k from to ∙ a.front k from to;
    }

pub conserved_same : (has : ℕ → Bool) (blocks : ℕ → List ℕ) (spare : List ℕ) → Conserves has has blocks blocks spare spare
conserved_same has blocks spare = record { still = λ b some had. had; already = λ b some had. had; off = λ b low none. refl; boot = refl; front = λ k from to. refl }

-- the addresses stay, and the spare blocks are the same ones
pub conserved_by : (has : ℕ → Bool) (old new : ℕ → List ℕ) (was now : List ℕ) → KeepsPointers has old new → ((b : ℕ) → Contains was b → Contains now b) → ((b : ℕ) → Contains now b → Contains was b)
    → ((block : ℕ) → isize_of (old 1) ≤ block → (IsHad has old was block → ⊥) → new block ≡ old block) → new 0 ≡ old 0 → SameFrom (new 1) (old 1) 0 6 → Conserves has has old new was now
conserved_by has old new was now keeps there back off boot front = record {
  still = λ block some had. still block had;
  already = λ block some had. already block had;
  off = off;
  boot = boot;
  front = front;
}
  where
    still : (block : ℕ) → IsHad has old was block → IsHad has new now block
    still block (by_place q h e) = by_place q h (at_alike has old new keeps q h ∙ e)
    still block (by_none among) = by_none (there block among)

    already : (block : ℕ) → IsHad has new now block → IsHad has old was block
    already block (by_place q h e) = by_place q h (sym (at_alike has old new keeps q h) ∙ e)
    already block (by_none among) = by_none (back block among)

module _ (has : ℕ → Bool) (old new : ℕ → List ℕ) (block : ℕ) (loose : List ℕ) where
  pub conserved_taken : (chain left : List ℕ) → IsLaid has old loose chain → IsTaken old new block → chain ≡ block ∷ left → Conserves has has old new (loose ++ chain) (block ∷ (loose ++ left))
  conserved_taken chain left laid taken was =
      conserved_by has old new (loose ++ chain) (block ∷ (loose ++ left)) (its_pointers has old new (taken_held has old new block loose chain laid taken))
      (λ b among. moved_had block loose left b (subst (λ xs. Contains (loose ++ xs) b) was among))
      (λ b among. subst (λ xs. Contains (loose ++ xs) b) (sym was) (moved_has block loose left b among))
      (λ b from none. taken.others b (let wide = laid.wide in omega (arith, from, wide))) (taken.others 0 (omega arith)) taken.front

  pub conserved_written : (chain : List ℕ) → IsLaid has old (block ∷ loose) chain → ((other : ℕ) → other ≢ block → new other ≡ old other) → length (new block) ≡ 512
      → Conserves has has old new (block ∷ (loose ++ chain)) (block ∷ (loose ++ chain))
  conserved_written chain laid others long =
      let from = (All-head (IsOpenToFiles old) block (loose ++ chain) laid.spare.in_range).from in
      let wide = laid.wide in
      conserved_by has old new (block ∷ (loose ++ chain)) (block ∷ (loose ++ chain)) (its_pointers has old new (hand_held has old new block loose chain laid others long))
      (λ b among. among) (λ b among. among)
      (λ b low none. others b (λ e. none (by_none (subst (Contains (block ∷ (loose ++ chain))) (sym e) (own block (loose ++ chain))))))
      (others 0 (omega (arith, from, wide)))
      (λ k low high. ap (λ (bytes : List ℕ). slice_index bytes k) (hand_first has old new block loose chain laid others long))

  pub conserved_freed : (chain : List ℕ) → IsLaid has old (block ∷ loose) chain → IsFreed old new block → Conserves has has old new (block ∷ (loose ++ chain)) (loose ++ block ∷ chain)
  conserved_freed chain laid freed =
      let from = (All-head (IsOpenToFiles old) block (loose ++ chain) laid.spare.in_range).from in
      let wide = laid.wide in
      record {
        still = λ b some had. freeing.had_still has old new block loose chain laid freed b had;
        already = λ b some had. freeing.had_already has old new block loose chain laid freed b had;
        off = λ b low none. freed.others b (omega (arith, low, wide)) (λ e. none (by_none (subst (Contains (block ∷ (loose ++ chain))) (sym e) (own block (loose ++ chain)))));
        boot = freed.others 0 (omega arith) (omega (arith, from, wide));
        front = freed.front;
      }

  -- hung at a place that was a hole
  pub conserved_hung : (chain : List ℕ) (r : Place) → IsPlace has r → at (pointers old) r ≡ 0 → at (pointers new) r ≡ block → ((q : Place) → IsPlace has q → (q ≡ r) ⊎ (at (pointers new) q ≡ at (pointers old) q))
      → ((b : ℕ) → isize_of (old 1) ≤ b → (IsHad has old (block ∷ (loose ++ chain)) b → ⊥) → new b ≡ old b) → new 0 ≡ old 0 → SameFrom (new 1) (old 1) 0 6
      → Conserves has has old new (block ∷ (loose ++ chain)) (loose ++ chain)
  conserved_hung chain r is missing here either off boot front = record { still = still; already = λ b some had. already b had; off = off; boot = boot; front = front }
    where
      still : (b : ℕ) → 0 < b → IsHad has old (block ∷ (loose ++ chain)) b → IsHad has new (loose ++ chain) b
      still b some (by_place q h e) = elim (either q h) [
        | inl hung ↦ absurd (let z : at (pointers old) q ≡ 0 = ap (at (pointers old)) hung ∙ missing in omega (arith, some, z, e))
        | inr same ↦ by_place q h (same ∙ e)
      ]
      still b some (by_none among) = elim (first_or_later block b (loose ++ chain) among) [
        | inl first ↦ by_place r is (here ∙ first)
        | inr rest ↦ by_none rest
      ]

      already : (b : ℕ) → IsHad has new (loose ++ chain) b → IsHad has old (block ∷ (loose ++ chain)) b
      already b (by_place q h e) = elim (either q h) [
        | inl hung ↦ by_none (subst (Contains (block ∷ (loose ++ chain))) (sym here ∙ sym (ap (at (pointers new)) hung) ∙ e) (own block (loose ++ chain)))
        | inr same ↦ by_place q h (sym same ∙ e)
      ]
      already b (by_none among) = by_none (later block b (loose ++ chain) among)

-- an inode's blocks let go, and an inode without an address that joins
pub conserved_less : (has : ℕ → Bool) (blocks : ℕ → List ℕ) (ino : ℕ) (held loose chain : List ℕ) → IsLaid has blocks loose chain → has ino ≡ true → Enumerates blocks ino held
    → Conserves has (without has ino) blocks blocks (loose ++ chain) (held ++ (loose ++ chain))
conserved_less has blocks ino held loose chain laid is list = record {
  still = less_had has blocks ino held loose chain laid is list;
  already = λ b some had. had_less has blocks ino held loose chain laid is list b had;
  off = λ b low none. refl;
  boot = refl;
  front = λ k from to. refl;
}

pub conserved_more : (few has : ℕ → Bool) (blocks : ℕ → List ℕ) (spare : List ℕ) → ((i : ℕ) → few i ≡ true → has i ≡ true) → ((i : ℕ) → has i ≡ true → (few i ≡ true) ⊎ IsBorn blocks i) → Conserves few has blocks blocks spare spare
conserved_more few has blocks spare within adds = record { still = λ b some had. still b had; already = already; off = λ b low none. refl; boot = refl; front = λ k from to. refl }
  where
    still : (b : ℕ) → IsHad few blocks spare b → IsHad has blocks spare b
    still b (by_place q h e) = by_place q (place_over few has q (within (ino_of q)) h) e
    still b (by_none among) = by_none among

    already : (b : ℕ) → 0 < b → IsHad has blocks spare b → IsHad few blocks spare b
    already b some (by_place q h e) = by_place q (place_there few has blocks adds q h (omega (arith, some, e))) e
    already b some (by_none among) = by_none among
