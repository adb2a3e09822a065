-- A part of a file read from the block to which its address leads.
use Rattle.std.proofs.Common.{ℕ, zero, suc, ◌≡◌, inl, inr, ◌<◌, ◌≤◌, true, nat_eq, List, Option, Some, slice_index, sym, ap, ◌∙◌, arith}
use Rattle.std.proofs.lemmas.Bool.{cases_eq}
use Rattle.std.proofs.lemmas.Bool.Decides.{nat_tests}
use Rattle.mb_tree.specs.Blocks.{pointers, part_address, part_in}
use Rattle.mb_tree.specs.Places.{at}
use Rattle.mb_tree.specs.Views.{over, IsPart}
use Rattle.mb_kinds.specs.Changed.{ChangeList, changed}
use Rattle.mb_blocks.proofs.PartBytes.{part_found}
use Rattle.mb_blocks.proofs.Pointing.{zero_entry}
use Rattle.mb_bmap.specs.Locating.{address_on, IsFirstHole, IsOnWayTo, OnWay}
use Rattle.mb_bmap.specs.Ways.{route_of, way}
use Rattle.mb_bmap.specs.declared.routes.Route.{Route}
use Rattle.mb_bmap.proofs.Walking.{route_is, place_way}
use Rattle.mb_namei.specs.Directories.{IsBlockOf, IsLedTo}

pub own_number : (ino : ℕ) → nat_eq ino ino ≡ true
own_number ino = grind (arith, nat_tests)

-- an address on the way leads to a block of the inode
pub led_by_way : (blocks : ℕ → List ℕ) (ino part level block : ℕ) → part < 2113674 → level ≤ (route_of part).depth → address_on blocks ino (route_of part) level ≡ block → IsLedTo blocks ino block
led_by_way blocks ino part level block below low leads = record {
  place = way ino (route_of part).places level;
  own = place_way part (route_of part) (route_is part below) ino (nat_eq ino) (own_number ino) level low;
  leads = leads;
}

-- what is under a hole is a hole
under_hole : (blocks : ℕ → List ℕ) (ino : ℕ) (r : Route) (level deep : ℕ) → level ≤ deep → address_on blocks ino r level ≡ 0 → address_on blocks ino r deep ≡ 0
under_hole blocks ino r level zero low hole = ap (address_on blocks ino r) (let e : 0 ≡ level = omega (arith, low) in e) ∙ hole
under_hole blocks ino r level (suc deep) low hole = elim (cases_eq level (suc deep)) [
  | inl is ↦ ap (address_on blocks ino r) (sym is) ∙ hole
  | inr apart ↦
      (let above = under_hole blocks ino r level deep (omega (arith, low, apart)) hole in
      ap (λ b. (pointers blocks).entry b (slice_index r.places (suc deep))) above ∙ zero_entry blocks (slice_index r.places (suc deep)))
]

module _ (shown : ℕ → Option (List ℕ)) (changes : ChangeList) (ino part : ℕ) (below : part < 2113674) where
  part_at_end : (blocks : ℕ → List ℕ) → part_address blocks ino part ≡ address_on blocks ino (route_of part) (route_of part).depth
  part_at_end blocks = ap (at (pointers blocks)) (sym ((route_is part below).leads ino))

  pub missing_part : (level : ℕ) → level ≤ (route_of part).depth → OnWay shown changes ino (route_of part) (λ blocks. IsFirstHole blocks ino (route_of part) level) → OnWay shown changes ino (route_of part) (λ blocks. part_address blocks ino part ≡ 0)
  missing_part level low hole blocks is_part bounded =
      (let b = over blocks (changed changes) in part_at_end b ∙ under_hole b ino (route_of part) level (route_of part).depth low (hole blocks is_part bounded).hole)

  pub asked_part : (block : ℕ) → OnWay shown changes ino (route_of part) (λ blocks. IsOnWayTo blocks ino (route_of part) (route_of part).depth block) → OnWay shown changes ino (route_of part) (λ blocks. IsBlockOf blocks ino block)
  asked_part block on blocks is_part bounded =
      (let b = over blocks (changed changes) in
      elim (on blocks is_part bounded) [
        | inl own ↦ inl own
        | inr above ↦ inr (led_by_way b ino part above.0 block below (let l = above.1 in omega (arith, l)) (sym above.2))
      ])

  module _ (block : ℕ) (some : 0 < block) (located : OnWay shown changes ino (route_of part) (λ blocks. part_address blocks ino part ≡ block)) where
    pub far_part : 262144 ≤ block → OnWay shown changes ino (route_of part) (λ blocks. part_address blocks ino part ≡ 0)
    far_part far blocks is_part bounded =
        (let b = over blocks (changed changes) in
        let e = part_at_end b in
        let is = located blocks is_part bounded in
        let low = bounded (route_of part).depth (omega arith) in
        absurd (omega (arith, far, sym e ∙ is, low)))

    pub found_part : (bytes : List ℕ) → ((blocks : ℕ → List ℕ) → IsPart shown blocks → over blocks (changed changes) block ≡ bytes) → OnWay shown changes ino (route_of part) (λ blocks. part_in blocks ino part ≡ Some bytes)
    found_part bytes found blocks is_part bounded =
        (let b = over blocks (changed changes) in part_found b ino part block below (located blocks is_part bounded) some ∙ ap Some (found blocks is_part))

    pub lacking_part : (first : ℕ) → first ≡ block → OnWay shown changes ino (route_of part) (λ blocks. IsBlockOf blocks ino first)
    lacking_part first is blocks is_part bounded =
        (let b = over blocks (changed changes) in
        inr (led_by_way b ino part (route_of part).depth first below (omega arith) (sym (part_at_end b) ∙ located blocks is_part bounded ∙ sym is)))
