-- The walk over an inode's thirteen addresses lists the blocks that it holds.
use Rattle.std.proofs.Common.{ℕ, ◌≡◌, inr, ◌-◌, ◌<◌, Bool, true, nat_eq, List, refl, ap, arith}
use Rattle.std.proofs.lemmas.Bool.Decides.{nat_tests}
use Rattle.mb_tree.specs.Blocks.{pointers}
use Rattle.mb_tree.specs.Places.{Place, at, IsPlace}
use Rattle.mb_tree.specs.Places.Place.{Top, Under}
use Rattle.mb_blocks.specs.Laid.{IsLaid}
use Rattle.mb_blocks.specs.Owners.{Enumerates}
use Rattle.mb_blocks.specs.Reached.{IsOnWay}
use Rattle.mb_blocks.specs.Walk.{under_block, under_inode}
use Rattle.mb_blocks.proofs.Owning.{mine_place}
use Rattle.mb_blocks.proofs.Pointing.{zero_entry}
use Rattle.mb_blocks.proofs.Walks.{block_listed, each_listed, top_once}

-- the address of the inode on the way to a place
top_on : (ino : ℕ) (q : Place) → IsPlace (nat_eq ino) q → (p : ℕ) × (p < 13) × IsOnWay (Top ino p) q
top_on ino (Top i p) is = (p, is.1, (let same : i ≡ ino = grind (arith, nat_tests) in ap (λ x. Top x p) same))
top_on ino (Under w k) is = (let t = top_on ino w is.0 in (t.0, t.1, inr t.2))

pub walk_enumerates : (has : ℕ → Bool) (blocks : ℕ → List ℕ) (loose chain : List ℕ) (ino : ℕ) → IsLaid has blocks loose chain → has ino ≡ true → Enumerates blocks ino (under_inode (pointers blocks) ino)
walk_enumerates has blocks loose chain ino laid is =
    let apart = λ (q r : Place) (h : IsPlace (nat_eq ino) q) (g : IsPlace (nat_eq ino) r) (some : 0 < at (pointers blocks) q) (e : at (pointers blocks) q ≡ at (pointers blocks) r).
    laid.once q r (mine_place has ino is q h) (mine_place has ino is r g) some e in
    let each = each_listed (pointers blocks) ino (zero_entry blocks) apart (Top ino) 13 (λ r j k. top_once ino r j k) (λ p. under_block (pointers blocks) (p - 9))
    (λ p low held. block_listed (pointers blocks) ino (zero_entry blocks) apart (p - 9) (Top ino p) (own_inode, low) refl held) 13 (omega arith) in
    record {
      once = each.once_each;
      all = λ q there some. (let t = top_on ino q there in each.all_each t.0 t.1 q there t.2 some);
      only = λ block among. (let b = each.of_each block among in let c = b.2 in (c.some, c.place, c.is, c.here));
    }
  where
    own_inode : nat_eq ino ino ≡ true
    own_inode = grind (arith, nat_tests)
