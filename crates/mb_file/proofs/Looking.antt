-- Parts of a file looked at, up to 128 under one index block.
use Rattle.std.proofs.Common.{ℕ, suc, ◌≡◌, inl, inr, ◌+◌, ◌*◌, ◌<◌, ◌≤◌, nat_eq, Option, List, sym, ap, ◌∙◌, arith}
use Rattle.mb_word.specs.Numbers.{long_at}
use Rattle.mb_tree.specs.Blocks.{entry_in, pointers}
use Rattle.mb_tree.specs.Cost.{most_parts}
use Rattle.mb_tree.specs.Places.{Place, at}
use Rattle.mb_tree.specs.Places.Place.{Under}
use Rattle.mb_tree.specs.Views.{over, IsPart}
use Rattle.mb_kinds.specs.Changed.{ChangeList, changed}
use Rattle.mb_iface.specs.Needs.{IsNeed}
use Rattle.mb_iface.specs.declared.replies.Need.{Need}
use Rattle.mb_blocks.proofs.PartBytes.{entry_is}
use Rattle.mb_bmap.specs.Locating.{LocatesAt}
use Rattle.mb_bmap.specs.Ways.{route_of, way}
use Rattle.mb_bmap.specs.declared.addresses.Located.TheVariants as located
use Rattle.mb_bmap.proofs.Walking.{place_way, route_is}
use Rattle.mb_file.specs.Finding.{AsksForOwn, Looks, LooksUnder}
use Rattle.mb_file.specs.Finding.IsBlockOfInode.{inode, led_to}
use Rattle.mb_file.specs.declared.parts.Looked.{Looked}
use Rattle.mb_file.specs.declared.parts.Looked.TheVariants as looked
use Rattle.mb_file.proofs.Finding.{itself, way_bounded}

module _ (shown : ℕ → Option (List ℕ)) (changes : ChangeList) where
  -- a block to which an address in an index block leads
  pub asked_entry : (index place block : ℕ) (bytes : List ℕ) (need : Need) → 0 < index → place < 128 → block ≡ long_at bytes (4 * place)
      → ((blocks : ℕ → List ℕ) → IsPart shown blocks → over blocks (changed changes) index ≡ bytes) → IsNeed shown need → need.first ≡ block → LooksUnder shown changes index (looked.Need need)
  asked_entry index place block bytes need some low is read lacks begins = (
    lacks,
    λ blocks part. inr (place, low, entry_is (over blocks (changed changes)) index place some ∙ ap (λ (b : List ℕ). long_at b (4 * place)) (read blocks part) ∙ sym is ∙ sym begins),
  )

  module _ (ino part last : ℕ) (below : part < most_parts) (low : last + 1 ≤ (route_of part).depth) where
    abbrev above : Place
    above = way ino (route_of part).places last

    -- what is asked for under the index block on the way to a part is the inode's own
    pub looked_under : (index : ℕ) (result : Looked) → LocatesAt shown changes ino (route_of part) last (located.At index) → LooksUnder shown changes index result → Looks shown changes ino result
    looked_under index (looked.Missing count) locates looks = tt
    looked_under index (looked.Need need) locates looks = (
      looks.0,
      λ blocks is_part has.
          (let now = over blocks (changed changes) in
          let here : at (pointers now) above ≡ index = locates.1 blocks is_part (way_bounded now ino part below has) in
          let there = place_way part (route_of part) (route_is part below) ino (nat_eq ino) (itself ino) (suc last) (omega (arith, low)) in
          elim (looks.1 blocks is_part) [
            | inl own ↦ led_to above there.0 (here ∙ sym own)
            | inr under ↦ led_to (Under above under.0) (there.0, there.1, under.1) (ap (λ b. entry_in now b under.0) here ∙ under.2)
          ]),
    )

    pub asked_above : (need : Need) → LocatesAt shown changes ino (route_of part) last (located.Need need) → AsksForOwn shown changes ino need
    asked_above need locates = (
      locates.0,
      λ blocks is_part has. elim (locates.1 blocks is_part (way_bounded (over blocks (changed changes)) ino part below has)) [
        | inl own ↦ inode own
        | inr on ↦ led_to (way ino (route_of part).places on.0) (place_way part (route_of part) (route_is part below) ino (nat_eq ino) (itself ino) on.0 (let there = on.1 in omega (arith, there, low))) (sym on.2)
      ],
    )
