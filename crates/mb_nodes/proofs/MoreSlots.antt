-- A directory with more slots, all in the part where its next slot stands, which is made where it is missing.
use Rattle.std.proofs.Common.{ℕ, suc, ◌≡◌, ◌≢◌, inl, inr, ◌+◌, ◌/◌, ◌%◌, ◌<◌, ◌≤◌, Bool, true, cond, nat_lt, List, [], ◌∷◌, ◌++◌, length, map, Option, Some, IsSome, unwrap_or, refl, sym, ap, subst, ◌∙◌, arith}
use Rattle.std.specs.List.{range_with_len}
use Rattle.std.proofs.lemmas.Bool.{cases_eq}
use Rattle.std.proofs.lemmas.Bool.Decides.{nat_tests}
use Rattle.std.proofs.lemmas.List.{length-append}
use Rattle.mb_kinds.specs.Image.{zeros}
use Rattle.mb_word.specs.Fields.{fsize_of}
use Rattle.mb_tree.specs.Blocks.{entry_in, pointers, part_address, part_in, part_bytes, slot_of, slot_in}
use Rattle.mb_tree.specs.Cost.{most_parts, first_parts, parts_for, index_blocks, body_cost}
use Rattle.mb_tree.specs.Places.{Place, at, place_of}
use Rattle.mb_tree.specs.Places.Place.{Top, Under}
use Rattle.mb_tree.specs.declared.nodes.Body.TheVariants.{Directory}
use Rattle.mb_tree.specs.declared.nodes.PlainSlot.{PlainSlot}
use Rattle.mb_blocks.specs.Growing.{Reaches, hole, missing}
use Rattle.mb_blocks.specs.Laid.{IndexesLeadOn, IsLaid}
use Rattle.mb_blocks.specs.Owners.{HoldsParts}
use Rattle.mb_blocks.proofs.Groupings.{first_once}
use Rattle.mb_blocks.proofs.Missing.{cost_missing}
use Rattle.mb_blocks.proofs.PartBytes.{held_part, part_found, some_from, some_is}
use Rattle.mb_blocks.proofs.PartWriting.{beside_part, written_part}
use Rattle.mb_blocks.proofs.Pointing.{zero_entry}
use Rattle.mb_blocks.proofs.Reached.{got, other_part, same_part}
use Rattle.mb_nodes.specs.Bodies.{HasSlots}
use Rattle.mb_nodes.proofs.NodeParts.{below_given, below_there, holds, slots_few}
use Rattle.mb_nodes.proofs.SlotRanges.{map_range_split, map_range_to}

-- nothing is missing on the way to a block that is held
none_missing : (blocks : ℕ → List ℕ) (q : Place) → 0 < at (pointers blocks) q → missing (pointers blocks) q ≡ 0
none_missing blocks (Top i p) some = (let t : nat_lt 0 (at (pointers blocks) (Top i p)) ≡ true = grind (arith, nat_tests) in ap (λ b. cond b 0 1) t)
none_missing blocks (Under w k) some =
    let t : nat_lt 0 (at (pointers blocks) (Under w k)) ≡ true = grind (arith, nat_tests) in
    let h : hole (at (pointers blocks) (Under w k)) ≡ 0 = ap (λ b. cond b 0 1) t in
    let up : 0 < at (pointers blocks) w = elim (cases_eq (at (pointers blocks) w) 0) [
      | inl none ↦ absurd (let e : entry_in blocks (at (pointers blocks) w) k ≡ 0 = ap (λ b. entry_in blocks b k) none ∙ zero_entry blocks k in omega (arith, some, e))
      | inr held ↦ omega (arith, held)
    ] in
    let rest = none_missing blocks w up in
    omega (arith, rest, h)

module _ (has : ℕ → Bool) (old : ℕ → List ℕ) (chain : List ℕ) (laid : IsLaid has old [] chain) (leads : IndexesLeadOn has old) (few : fsize_of (old 1) ≤ 262144) (ino : ℕ) (is : has ino ≡ true)
    (slots more : List PlainSlot) (dir : HasSlots old ino slots) (some_more : 0 < length more) (in_one : length slots % 32 + length more ≤ 32) where
  abbrev n : ℕ
  n = length slots

  abbrev p : ℕ
  p = length slots / 32

  below : p < most_parts
  below = (let fits = slots_few has old [] chain laid few ino is n dir.parts in omega (arith, fits))

  no_part : n % 32 ≡ 0 → part_address old ino p ≡ 0
  no_part none = elim (cases_eq (part_address old ino p) 0) [
    | inl e ↦ e
    | inr some ↦ absurd (let low = (dir.parts p below).0 (some_from (part_in old ino p) (old (part_address old ino p)) (part_found old ino p (part_address old ino p) below refl (omega (arith, some)))) in omega (arith, low, none))
  ]

  a_part : n % 32 ≢ 0 → 0 < part_address old ino p
  a_part off = (let was = some_is (part_in old ino p) ((dir.parts p below).1 (omega (arith, off))) in (held_part old ino p was.0 was.1).1)

  -- what the slots cost
  pub slots_cost : body_cost (Directory (slots ++ more)) ≡ body_cost (Directory slots) + missing (pointers old) (place_of ino p)
  slots_cost =
      let long = length-append slots more in
      elim (cases_eq (n % 32) 0) [
        | inl none ↦
            (let now : parts_for (length (slots ++ more)) ≡ suc p = omega (arith, long, none, some_more, in_one) in
            let was : parts_for n ≡ p = omega (arith, none) in
            let h = holds has old [] chain laid few ino is (first_parts (parts_for n)) (first_once (parts_for n)) (below_given has old [] chain laid few ino is n dir.parts) (below_there has old [] chain laid few ino is n dir.parts) leads in
            let c = cost_missing (pointers old) ino (first_parts p) (p ∷ first_parts p) p (subst (λ k. HoldsParts (pointers old) ino (first_parts k)) was h) (λ k. refl) below (no_part none) (omega arith) in
            ap (λ k. length (first_parts k) + index_blocks (first_parts k)) now ∙ c ∙ ap (λ k. length (first_parts k) + index_blocks (first_parts k) + missing (pointers old) (place_of ino p)) (sym was))
        | inr off ↦
            (let now : parts_for (length (slots ++ more)) ≡ parts_for n = omega (arith, long, off, in_one) in
            let m = none_missing old (place_of ino p) (a_part off) in
            let e : body_cost (Directory (slots ++ more)) ≡ body_cost (Directory slots) = ap (λ k. length (first_parts k) + index_blocks (first_parts k)) now in
            omega (arith, m, e))
      ]

  -- the way to the part made, the slots written in it, the inode written
  module _ (one two new : ℕ → List ℕ) (reaches : Reaches old one (place_of ino p))
      (others : (block : ℕ) → block ≢ part_address one ino p → two block ≡ one block) (full : length (two (part_address one ino p)) ≡ 512)
      (kept : (s : ℕ) → s < n % 32 → slot_of (two (part_address one ino p)) s ≡ slot_of (one (part_address one ino p)) s)
      (here : more ≡ map (λ i. slot_of (two (part_address one ino p)) (n % 32 + i)) (range_with_len 0 (length more)))
      (same : (q : ℕ) → part_in new ino q ≡ part_in two ino q) where
    abbrev reach : IsLaid has one [] (got has old chain laid ino p is below one reaches).left
    reach = (got has old chain laid ino p is below one reaches).laid

    held_one : 0 < part_address one ino p
    held_one = (got has old chain laid ino p is below one reaches).here

    this_part : part_in new ino p ≡ Some (two (part_address one ino p))
    this_part = same p ∙ written_part has one two ino p [] _ reach is below held_one others full

    that_part : (q : ℕ) → q ≢ p → part_in new ino q ≡ part_in old ino q
    that_part q apart = same q ∙ beside_part has one two ino p [] _ reach is below held_one others full q apart ∙ other_part has old chain laid ino p is below one reaches q apart

    old_slot : (k : ℕ) → k < n → slot_in new ino k ≡ slot_in old ino k
    old_slot k low = elim (cases_eq (k / 32) p) [
      | inr apart ↦ ap (λ o. slot_of (unwrap_or o zeros) (k % 32)) (that_part (k / 32) apart)
      | inl e ↦
          (let off : n % 32 ≢ 0 = (λ none. (let d : k / 32 ≡ n / 32 = e in omega (arith, d, none, low))) in
          let small : k % 32 < n % 32 = (let d : k / 32 ≡ n / 32 = e in omega (arith, d, low)) in
          let was = same_part has old chain laid ino p is below one reaches (a_part off) in
          let found : part_in one ino p ≡ Some (one (part_address one ino p)) = part_found one ino p (part_address one ino p) below refl held_one in
          ap (λ q. slot_of (part_bytes new ino q) (k % 32)) e
          ∙ ap (λ o. slot_of (unwrap_or o zeros) (k % 32)) this_part
          ∙ kept (k % 32) small
          ∙ ap (λ o. slot_of (unwrap_or o zeros) (k % 32)) (sym found ∙ was)
          ∙ ap (λ q. slot_of (part_bytes old ino q) (k % 32)) (sym e))
    ]

    new_slot : (i : ℕ) → i < length more → slot_in new ino (n + i) ≡ slot_of (two (part_address one ino p)) (n % 32 + i)
    new_slot i low =
        let e : (n + i) / 32 ≡ p = omega (arith, low, in_one) in
        let f : (n + i) % 32 ≡ n % 32 + i = omega (arith, low, in_one) in
        ap (λ q. slot_of (part_bytes new ino q) ((n + i) % 32)) e ∙ ap (λ o. slot_of (unwrap_or o zeros) ((n + i) % 32)) this_part ∙ ap (slot_of (two (part_address one ino p))) f

    pub more_slots : HasSlots new ino (slots ++ more)
    more_slots =
        let long = length-append slots more in
        record {
          each =
              (let front : map (slot_in old ino) (range_with_len 0 n) ≡ map (slot_in new ino) (range_with_len 0 n) =
              map_range_to (slot_in old ino) (slot_in new ino) 0 0 n (λ i low. sym (old_slot (0 + i) (omega (arith, low)))) in
              let back : map (λ i. slot_of (two (part_address one ino p)) (n % 32 + i)) (range_with_len 0 (length more)) ≡ map (slot_in new ino) (range_with_len (0 + n) (length more)) =
              map_range_to (λ i. slot_of (two (part_address one ino p)) (n % 32 + i)) (slot_in new ino) 0 (0 + n) (length more)
              (λ i low. ap (λ x. slot_of (two (part_address one ino p)) (n % 32 + x)) (let e : 0 + i ≡ i = omega arith in e) ∙ sym (new_slot i low) ∙ ap (λ x. slot_in new ino (x + i)) (let e : n ≡ 0 + n = omega arith in e)) in
              ap (λ xs. xs ++ more) (dir.each ∙ front) ∙ ap (λ xs. map (slot_in new ino) (range_with_len 0 n) ++ xs) (here ∙ back)
              ∙ sym (map_range_split (slot_in new ino) 0 n (length more)) ∙ ap (λ k. map (slot_in new ino) (range_with_len 0 k)) (sym long));
          parts = λ q low. elim (cases_eq q p) [
            | inl e ↦ (
              (λ some. (let d : q ≡ n / 32 = e in omega (arith, d, long, some_more))),
              λ within. some_from (part_in new ino q) (two (part_address one ino p)) (ap (part_in new ino) e ∙ this_part),
            )
            | inr apart ↦
                (let was = dir.parts q low in (
                  (λ some. (let l = was.0 (subst (λ (o : Option (List ℕ)). IsSome o) (that_part q apart) some) in omega (arith, l, long))),
                  λ within. subst (λ (o : Option (List ℕ)). IsSome o) (sym (that_part q apart)) (was.1 (let a : q ≢ n / 32 = apart in omega (arith, within, long, in_one, a))),
                ))
          ];
        }
