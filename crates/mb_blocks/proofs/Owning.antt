-- Places by the inode that owns them, and inodes that are added to those with addresses or left out.
use Rattle.std.proofs.Common.{ℕ, ◌≡◌, ◌≢◌, Bool, true, false, not, ◌&&◌, nat_eq, refl, ap, subst, ◌∙◌, arith}
use Rattle.std.proofs.lemmas.Bool.Decides.{nat_tests}
use Rattle.mb_tree.specs.Places.{Place, IsPlace}
use Rattle.mb_tree.specs.Places.Place.{Top, Under}
use Rattle.mb_blocks.specs.Owners.{ino_of, without}

pub place_owner : (has : ℕ → Bool) (q : Place) → IsPlace has q → has (ino_of q) ≡ true
place_owner has (Top ino p) h = h.0
place_owner has (Under q k) h = place_owner has q h.0

pub place_over : (one other : ℕ → Bool) (q : Place) → (one (ino_of q) ≡ true → other (ino_of q) ≡ true) → IsPlace one q → IsPlace other q
place_over one other (Top ino p) also h = (also h.0, h.1)
place_over one other (Under q k) also h = (place_over one other q also h.0, h.1, h.2)

module _ (has : ℕ → Bool) (ino : ℕ) where
  pub without_has : (other : ℕ) → without has ino other ≡ true → has other ≡ true
  without_has other t = elim (has other) as (λ b. (b && not (nat_eq other ino)) ≡ true → b ≡ true) [ true ↦ λ e. refl | false ↦ λ e. e ] t

  pub without_apart : (other : ℕ) → without has ino other ≡ true → other ≢ ino
  without_apart other t is =
      let same : nat_eq other ino ≡ true = grind (arith, nat_tests) in
      let none : (has other && false) ≡ true = subst (λ b. (has other && not b) ≡ true) same t in
      elim (has other) as (λ b. (b && false) ≡ true → ⊥) [ true ↦ λ e. cc | false ↦ λ e. cc ] none

  pub without_of : (other : ℕ) → has other ≡ true → other ≢ ino → without has ino other ≡ true
  without_of other t apart =
      let off : nat_eq other ino ≡ false = grind (arith, nat_tests) in
      ap (λ b. b && not (nat_eq other ino)) t ∙ ap not off

  pub place_was : (q : Place) → IsPlace (without has ino) q → IsPlace has q
  place_was q h = place_over (without has ino) has q (without_has (ino_of q)) h

  pub place_apart : (q : Place) → IsPlace (without has ino) q → ino_of q ≢ ino
  place_apart q h = without_apart (ino_of q) (place_owner (without has ino) q h)

  pub place_still : (q : Place) → IsPlace has q → ino_of q ≢ ino → IsPlace (without has ino) q
  place_still q h apart = place_over has (without has ino) q (λ t. without_of (ino_of q) t apart) h

  pub place_mine : (q : Place) → IsPlace has q → ino_of q ≡ ino → IsPlace (nat_eq ino) q
  place_mine q h is = place_over has (nat_eq ino) q (λ t. (let same : nat_eq ino (ino_of q) ≡ true = grind (arith, nat_tests) in same)) h

  pub mine_owner : (q : Place) → IsPlace (nat_eq ino) q → ino_of q ≡ ino
  mine_owner q h = (let t = place_owner (nat_eq ino) q h in grind (arith, nat_tests))

  pub mine_place : has ino ≡ true → (q : Place) → IsPlace (nat_eq ino) q → IsPlace has q
  mine_place is q h = place_over (nat_eq ino) has q (λ t. (let same = mine_owner q h in ap has same ∙ is)) h
