-- The way to a part read down to its address.
use Rattle.std.proofs.Common.{ℕ, suc, ◌≡◌, inl, inr, ◌<◌, ◌≤◌, Option, List, slice_index, sym, ap, subst, ◌∙◌, arith}
use Rattle.std.proofs.lemmas.Bool.{cases_eq}
use Rattle.mb_word.specs.Fields.{inode_block, inode_place, address_of, index_entry}
use Rattle.mb_tree.specs.Blocks.{pointers, part_address}
use Rattle.mb_tree.specs.Places.{at}
use Rattle.mb_tree.specs.Views.{over, IsPart}
use Rattle.mb_kinds.specs.Changed.{ChangeList, changed}
use Rattle.mb_blocks.proofs.PartBytes.{entry_is}
use Rattle.mb_bmap.specs.declared.routes.Route.{Route}
use Rattle.mb_bmap.specs.Ways.{route_of, way}
use Rattle.mb_bmap.specs.Locating.{address_on, IsBounded, OnWay, Locates, LocatesAt}
use Rattle.mb_bmap.specs.declared.addresses.Located.{Located}
use Rattle.mb_bmap.specs.declared.addresses.Located.TheVariants as located
use Rattle.mb_bmap.proofs.Walking.{route_is}

pub record HasFollowed (shown : ℕ → Option (List ℕ)) (changes : ChangeList) (ino : ℕ) (r : Route) (level here : ℕ) : Type 0 where
  pub followed : (blocks : ℕ → List ℕ) → IsPart shown blocks → IsBounded (over blocks (changed changes)) ino r
      → (at (pointers (over blocks (changed changes))) (way ino r.places level) ≡ here)
      × ((l : ℕ) → l < level → 0 < at (pointers (over blocks (changed changes))) (way ino r.places l))

module _ (shown : ℕ → Option (List ℕ)) (changes : ChangeList) (ino : ℕ) (r : Route) where
  pub follow_first : (holder slot here : ℕ) (bytes : List ℕ) → holder ≡ inode_block ino → slot ≡ inode_place ino → here ≡ address_of bytes slot (slice_index r.places 0)
      → ((blocks : ℕ → List ℕ) → IsPart shown blocks → over blocks (changed changes) holder ≡ bytes) → HasFollowed shown changes ino r 0 here
  follow_first holder slot here bytes at_block at_place reads found = record {
    followed = λ blocks part bounded. (
      ap (λ h. address_of (over blocks (changed changes) h) (inode_place ino) (slice_index r.places 0)) (sym at_block) ∙ ap (λ b. address_of b (inode_place ino) (slice_index r.places 0)) (found blocks part)
          ∙ ap (λ s. address_of bytes s (slice_index r.places 0)) (sym at_place) ∙ sym reads,
      λ l low. absurd (omega (arith, low)),
    );
  }

  pub follow_next : (level next here then place : ℕ) (bytes : List ℕ) → next ≡ suc level → place ≡ slice_index r.places next → 0 < here → HasFollowed shown changes ino r level here → then ≡ index_entry bytes place
      → ((blocks : ℕ → List ℕ) → IsPart shown blocks → over blocks (changed changes) here ≡ bytes) → HasFollowed shown changes ino r next then
  follow_next level next here then place bytes is_next is_place some was reads found = record {
    followed = λ blocks part bounded.
        (let w = was.followed blocks part bounded in
        let b = over blocks (changed changes) in
        let p : place ≡ slice_index r.places (suc level) = is_place ∙ ap (slice_index r.places) is_next in
        let a : at (pointers b) (way ino r.places (suc level)) ≡ then =
        entry_is b (at (pointers b) (way ino r.places level)) (slice_index r.places (suc level)) (omega (arith, w.0, some))
        ∙ ap (λ x. index_entry (b x) (slice_index r.places (suc level))) w.0 ∙ ap (λ x. index_entry x (slice_index r.places (suc level))) (found blocks part) ∙ ap (index_entry bytes) (sym p) ∙ sym reads in (
          ap (λ n. at (pointers b) (way ino r.places n)) is_next ∙ a,
          λ l low. elim (cases_eq l level) [
            | inl e ↦ subst (λ n. 0 < at (pointers b) (way ino r.places n)) (sym e) (omega (arith, w.0, some))
            | inr apart ↦ w.1 l (omega (arith, low, apart, is_next))
          ],
        ));
  }

  pub found_here : (level here last : ℕ) → level ≡ last → HasFollowed shown changes ino r level here → OnWay shown changes ino r (λ blocks. address_on blocks ino r last ≡ here)
  found_here level here last end was blocks part bounded = ap (address_on (over blocks (changed changes)) ino r) (sym end) ∙ (was.followed blocks part bounded).0

-- the address at the end of a part's way is the part's
pub address_is : (shown : ℕ → Option (List ℕ)) (changes : ChangeList) (ino part block : ℕ) → part < 2113674 → OnWay shown changes ino (route_of part) (λ blocks. address_on blocks ino (route_of part) (route_of part).depth ≡ block)
    → OnWay shown changes ino (route_of part) (λ blocks. part_address blocks ino part ≡ block)
address_is shown changes ino part block low found blocks is_part bounded =
    ap (λ q. at (pointers (over blocks (changed changes))) q) (sym ((route_is part low).leads ino)) ∙ found blocks is_part bounded

pub located_part : (shown : ℕ → Option (List ℕ)) (changes : ChangeList) (ino part last : ℕ) (result : Located) → part < 2113674 → last ≡ (route_of part).depth
    → LocatesAt shown changes ino (route_of part) last result → Locates shown changes ino part result
located_part shown changes ino part last (located.At block) low is at_last =
    (at_last.0, address_is shown changes ino part block low (subst (λ n. OnWay shown changes ino (route_of part) (λ blocks. address_on blocks ino (route_of part) n ≡ block)) is at_last.1))
located_part shown changes ino part last (located.Missing level) low is at_last = subst (λ n. LocatesAt shown changes ino (route_of part) n (located.Missing level)) is at_last
located_part shown changes ino part last (located.Need need) low is at_last = subst (λ n. LocatesAt shown changes ino (route_of part) n (located.Need need)) is at_last
