-- A part of a file found by the addresses on its way.
use Rattle.std.proofs.Common.{ℕ, zero, suc, ◌≡◌, inl, inr, ◌<◌, ◌≤◌, true, nat_eq, Option, List, slice_index, sym, ap, subst, ◌∙◌, arith}
use Rattle.std.proofs.lemmas.Bool.{cases_eq}
use Rattle.std.proofs.lemmas.Bool.Decides.{nat_tests}
use Rattle.mb_tree.specs.Blocks.{pointers}
use Rattle.mb_tree.specs.Cost.{most_parts}
use Rattle.mb_tree.specs.Places.{at, place_of, IsPlace}
use Rattle.mb_tree.specs.Views.{over}
use Rattle.mb_kinds.specs.Changed.{ChangeList, changed}
use Rattle.mb_iface.specs.Needs.{IsNeed}
use Rattle.mb_iface.specs.declared.replies.Need.{Need}
use Rattle.mb_blocks.proofs.PartBytes.{part_missing}
use Rattle.mb_blocks.proofs.PartPlaces.{place_is}
use Rattle.mb_blocks.proofs.Pointing.{zero_entry}
use Rattle.mb_bmap.specs.Locating.{IsBounded, Locates}
use Rattle.mb_bmap.specs.Ways.{route_of, way}
use Rattle.mb_bmap.specs.declared.addresses.Located.TheVariants as located
use Rattle.mb_bmap.proofs.Walking.{place_way, route_is}
use Rattle.mb_file.specs.Finding.{AsksForOwn, FindsPart, HasSmallAddresses}
use Rattle.mb_file.specs.Finding.IsBlockOfInode.{inode, led_to}
use Rattle.mb_file.specs.declared.parts.PartAt.TheVariants as found

pub itself : (ino : ℕ) → nat_eq ino ino ≡ true
itself ino = grind (arith, nat_tests)

own_place : (ino part : ℕ) → part < most_parts → IsPlace (nat_eq ino) (place_of ino part)
own_place ino part below = place_is (nat_eq ino) ino part (itself ino) below

pub way_bounded : (blocks : ℕ → List ℕ) (ino part : ℕ) → part < most_parts → HasSmallAddresses blocks ino → IsBounded blocks ino (route_of part)
way_bounded blocks ino part below has level low = has.small (way ino (route_of part).places level) (place_way part (route_of part) (route_is part below) ino (nat_eq ino) (itself ino) level low)

-- below a hole there are holes
hole_down : (blocks : ℕ → List ℕ) (ino : ℕ) (places : List ℕ) (level d : ℕ) → level ≤ d → at (pointers blocks) (way ino places level) ≡ 0 → at (pointers blocks) (way ino places d) ≡ 0
hole_down blocks ino places level zero low hole = (let z : level ≡ 0 = omega (arith, low) in subst (λ n. at (pointers blocks) (way ino places n) ≡ 0) z hole)
hole_down blocks ino places level (suc d) low hole = elim (cases_eq level (suc d)) [
  | inl e ↦ subst (λ n. at (pointers blocks) (way ino places n) ≡ 0) e hole
  | inr apart ↦ ap (λ b. (pointers blocks).entry b (slice_index places (suc d))) (hole_down blocks ino places level d (omega (arith, low, apart)) hole) ∙ zero_entry blocks (slice_index places (suc d))
]

module _ (shown : ℕ → Option (List ℕ)) (changes : ChangeList) (ino part : ℕ) where
  pub past_hole : most_parts ≤ part → FindsPart shown changes ino part found.Hole
  past_hole past blocks is_part has = part_missing (over blocks (changed changes)) ino part (λ below. absurd (omega (arith, past, below)))

  module _ (below : part < most_parts) where
    pub found_block : (block : ℕ) → block < 262144 → Locates shown changes ino part (located.At block) → FindsPart shown changes ino part (found.Block block)
    found_block block few locates = (locates.0, few, below, λ blocks is_part has. locates.1 blocks is_part (way_bounded (over blocks (changed changes)) ino part below has))

    pub far_hole : (block : ℕ) → 262144 ≤ block → Locates shown changes ino part (located.At block) → FindsPart shown changes ino part found.Hole
    far_hole block far locates blocks is_part has = absurd (
        let e = locates.1 blocks is_part (way_bounded (over blocks (changed changes)) ino part below has) in
        let small = has.small (place_of ino part) (own_place ino part below) in
        omega (arith, far, e, small))

    pub found_hole : (level : ℕ) → Locates shown changes ino part (located.Missing level) → FindsPart shown changes ino part found.Hole
    found_hole level locates blocks is_part has =
        let now = over blocks (changed changes) in
        let first = locates.1 blocks is_part (way_bounded now ino part below has) in
        let r = route_of part in
        part_missing now ino part (λ low. ap (at (pointers now)) (sym ((route_is part below).leads ino)) ∙ hole_down now ino r.places level r.depth locates.0 first.hole)

    pub asked_way : (need : Need) → Locates shown changes ino part (located.Need need) → AsksForOwn shown changes ino need
    asked_way need locates = (
      locates.0,
      λ blocks is_part has. elim (locates.1 blocks is_part (way_bounded (over blocks (changed changes)) ino part below has)) [
        | inl own ↦ inode own
        | inr on ↦ led_to (way ino (route_of part).places on.0) (place_way part (route_of part) (route_is part below) ino (nat_eq ino) (itself ino) on.0 (let low = on.1 in omega (arith, low))) (sym on.2)
      ],
    )

  -- the block of a part
  pub asked_part : (block : ℕ) (need : Need) → FindsPart shown changes ino part (found.Block block) → IsNeed shown need → need.first ≡ block → AsksForOwn shown changes ino need
  asked_part block need finds is begins = (is, λ blocks is_part has. led_to (place_of ino part) (own_place ino part finds.2) (finds.3 blocks is_part has ∙ sym begins))
