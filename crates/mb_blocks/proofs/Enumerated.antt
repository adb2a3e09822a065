-- The blocks that an inode holds are as many as its parts cost, however they are listed.
use Rattle.std.proofs.Common.{◌≡◌, ℕ, ◌+◌, ◌-◌, ◌*◌, ◌/◌, ◌%◌, ◌<◌, ◌≤◌, true, List, ◌∷◌, ◌++◌, length, map, refl, ap, subst, ◌∙◌, arith, nat_eq}
use Rattle.std.specs.List.{Contains}
use Rattle.std.proofs.lemmas.Bool.Decides.{nat_tests}
use Rattle.std.proofs.lemmas.List.{length-map, length-append}
use Rattle.mb_tree.specs.Cost.{most_parts, index_blocks}
use Rattle.mb_tree.specs.Places.{Place, Pointers, at, IsPlace, place_of}
use Rattle.mb_tree.specs.Places.Place.{Top, Under}
use Rattle.mb_blocks.specs.Laid.{AreOnce}
use Rattle.mb_blocks.specs.Owners.{HoldsParts}
use Rattle.mb_blocks.proofs.Families.{AreFrom, IsFamily, family, family_from, joined, part_class}
use Rattle.mb_blocks.proofs.Groupings.{group_count, group_from, groups, groups_once, has_in, in_has}
use Rattle.mb_blocks.proofs.PartPlaces.{part_place, place_is, place_once}
use Rattle.mb_blocks.proofs.Shares.{above_held, double_at, double_leaf_down, double_leaf_up, is_in, single_at, triple_at, triple_leaf_down, triple_leaf_up}

pub direct_at : (ino k : ℕ) → k < 10 → place_of ino k ≡ Top ino k
unfolding place_of
direct_at ino k low = grind (arith, nat_tests)

module _ (ps : Pointers) (ino : ℕ) (parts : List ℕ) (holds : HoldsParts ps ino parts) where
  pub mine : nat_eq ino ino ≡ true
  mine = grind (arith, nat_tests)

  pub given_in : (k : ℕ) → is_in parts k ≡ true → (k < most_parts) × (0 < at ps (place_of ino k))
  given_in k is = holds.given k (in_has parts k is)

  pub there_in : (k : ℕ) → k < most_parts → 0 < at ps (place_of ino k) → is_in parts k ≡ true
  there_in k below some = has_in parts k (holds.there k below some)

  pub above : (q : Place) (j : ℕ) → 0 < at ps (Under q j) → 0 < at ps q
  above = above_held parts (10 ∷ parts) 10 (λ k. refl) ps ino given_in there_in holds.hole holds.leads

  pub single_is : (k : ℕ) → 10 ≤ k → k < 138 → place_of ino k ≡ Under (Top ino 10) (k - 10)
  single_is = single_at parts (10 ∷ parts) 10 (λ k. refl) ps ino given_in there_in holds.hole holds.leads

  pub double_is : (k : ℕ) → 138 ≤ k → k < 16522 → place_of ino k ≡ Under (Under (Top ino 11) ((k - 138) / 128)) ((k - 138) % 128)
  double_is = double_at parts (10 ∷ parts) 10 (λ k. refl) ps ino given_in there_in holds.hole holds.leads

  pub triple_is : (k : ℕ) → 16522 ≤ k → place_of ino k ≡ Under (Under (Under (Top ino 12) ((k - 16522) / 16384)) ((k - 16522) / 128 % 128)) ((k - 16522) % 128)
  triple_is = triple_at parts (10 ∷ parts) 10 (λ k. refl) ps ino given_in there_in holds.hole holds.leads

  pub double_up : (g : ℕ) → g < 128 → 0 < at ps (Under (Top ino 11) g) → (k : ℕ) × (is_in parts k ≡ true) × (138 ≤ k) × (k < 16522) × ((k - 138) / 128 ≡ g)
  double_up = double_leaf_up parts (10 ∷ parts) 10 (λ k. refl) ps ino given_in there_in holds.hole holds.leads

  double_down : (k : ℕ) → is_in parts k ≡ true → 138 ≤ k → k < 16522 → 0 < at ps (Under (Top ino 11) ((k - 138) / 128))
  double_down = double_leaf_down parts (10 ∷ parts) 10 (λ k. refl) ps ino given_in there_in holds.hole holds.leads

  pub triple_up : (g h : ℕ) → g < 128 → h < 128 → 0 < at ps (Under (Under (Top ino 12) g) h)
      → (k : ℕ) × (is_in parts k ≡ true) × (16522 ≤ k) × (k < 2113674) × ((k - 16522) / 128 ≡ 128 * g + h)
  triple_up = triple_leaf_up parts (10 ∷ parts) 10 (λ k. refl) ps ino given_in there_in holds.hole holds.leads

  triple_down : (k : ℕ) → is_in parts k ≡ true → 16522 ≤ k → 0 < at ps (Under (Under (Top ino 12) ((k - 16522) / 16384)) ((k - 16522) / 128 % 128))
  triple_down = triple_leaf_down parts (10 ∷ parts) 10 (λ k. refl) ps ino given_in there_in holds.hole holds.leads

  -- ---- the parts, and the index blocks of six kinds

  abbrev pub own_parts : List ℕ
  own_parts = map (λ k. at ps (place_of ino k)) parts

  abbrev pub singles : List ℕ
  singles = map (λ g. at ps (Top ino 10)) (groups 10 138 128 parts)

  abbrev pub double_leaves : List ℕ
  double_leaves = map (λ g. at ps (Under (Top ino 11) g)) (groups 138 16522 128 parts)

  abbrev pub doubles : List ℕ
  doubles = map (λ g. at ps (Top ino 11)) (groups 138 16522 16384 parts)

  abbrev pub triple_leaves : List ℕ
  triple_leaves = map (λ g. at ps (Under (Under (Top ino 12) (g / 128)) (g % 128))) (groups 16522 2113674 128 parts)

  abbrev pub triple_mids : List ℕ
  triple_mids = map (λ g. at ps (Under (Top ino 12) g)) (groups 16522 2113674 16384 parts)

  abbrev pub triples : List ℕ
  triples = map (λ g. at ps (Top ino 12)) (groups 16522 2113674 2097152 parts)

  part_family : IsFamily ps ino holds.apart 0 own_parts
  part_family = family ps ino holds.apart 0 (place_of ino) parts holds.once
      (λ k among. (let g = holds.given k among in
      (place_is (nat_eq ino) ino k mine g.0, g.1, part_class (place_of ino k) (part_place ino k g.0).bottom)))
      (λ k h one two e. (place_once ino k ino h (holds.given k one).0 (holds.given h two).0 e).1)

  single_family : IsFamily ps ino holds.apart 1 singles
  single_family = family ps ino holds.apart 1 (λ g. Top ino 10) (groups 10 138 128 parts) (groups_once 10 138 128 parts)
      (λ g among. (let p = group_from 10 138 128 parts g among in
      ((mine, omega arith), above (Top ino 10) (p.part - 10) (subst (λ x. 0 < at ps x) (single_is p.part p.above p.below) (holds.given p.part p.among).1), refl)))
      (λ g h one two e. (let p = group_from 10 138 128 parts g one in
      let r = group_from 10 138 128 parts h two in
      let a = p.group in let b = p.below in let c = r.group in let d = r.below in
      omega (arith, a, b, c, d)))

  double_leaf_family : IsFamily ps ino holds.apart 4 double_leaves
  double_leaf_family = family ps ino holds.apart 4 (λ g. Under (Top ino 11) g) (groups 138 16522 128 parts) (groups_once 138 16522 128 parts)
      (λ g among. (let p = group_from 138 16522 128 parts g among in
      let a = p.group in let b = p.below in
      (((mine, omega arith), omega arith, omega (arith, a, b)), subst (λ x. 0 < at ps (Under (Top ino 11) x)) a (double_down p.part (has_in parts p.part p.among) p.above b), refl)))
      (λ g h one two e. cc)

  double_family : IsFamily ps ino holds.apart 5 doubles
  double_family = family ps ino holds.apart 5 (λ g. Top ino 11) (groups 138 16522 16384 parts) (groups_once 138 16522 16384 parts)
      (λ g among. (let p = group_from 138 16522 16384 parts g among in
      ((mine, omega arith), above (Top ino 11) ((p.part - 138) / 128) (double_down p.part (has_in parts p.part p.among) p.above p.below), refl)))
      (λ g h one two e. (let p = group_from 138 16522 16384 parts g one in
      let r = group_from 138 16522 16384 parts h two in
      let a = p.group in let b = p.below in let c = r.group in let d = r.below in
      omega (arith, a, b, c, d)))

  triple_leaf_family : IsFamily ps ino holds.apart 7 triple_leaves
  triple_leaf_family = family ps ino holds.apart 7 (λ g. Under (Under (Top ino 12) (g / 128)) (g % 128)) (groups 16522 2113674 128 parts) (groups_once 16522 2113674 128 parts)
      (λ g among. (let p = group_from 16522 2113674 128 parts g among in
      let a = p.group in let b = p.below in
      let e : (p.part - 16522) / 16384 ≡ g / 128 = omega (arith, a) in
      let f : (p.part - 16522) / 128 % 128 ≡ g % 128 = ap (λ x. x % 128) a in (
        (((mine, omega arith), omega arith, omega (arith, a, b)), omega arith, omega arith),
        subst (λ y. 0 < at ps (Under (Under (Top ino 12) (g / 128)) y)) f
            (subst (λ x. 0 < at ps (Under (Under (Top ino 12) x) ((p.part - 16522) / 128 % 128))) e (triple_down p.part (has_in parts p.part p.among) p.above)),
        refl,
      )))
      (λ g h one two e. (let a : g / 128 ≡ h / 128 = cc in let b : g % 128 ≡ h % 128 = cc in omega (arith, a, b)))

  triple_mid_family : IsFamily ps ino holds.apart 8 triple_mids
  triple_mid_family = family ps ino holds.apart 8 (λ g. Under (Top ino 12) g) (groups 16522 2113674 16384 parts) (groups_once 16522 2113674 16384 parts)
      (λ g among. (let p = group_from 16522 2113674 16384 parts g among in
      let a = p.group in let b = p.below in (
        ((mine, omega arith), omega arith, omega (arith, a, b)),
        subst (λ x. 0 < at ps (Under (Top ino 12) x)) a (above (Under (Top ino 12) ((p.part - 16522) / 16384)) ((p.part - 16522) / 128 % 128) (triple_down p.part (has_in parts p.part p.among) p.above)),
        refl,
      )))
      (λ g h one two e. cc)

  triple_family : IsFamily ps ino holds.apart 9 triples
  triple_family = family ps ino holds.apart 9 (λ g. Top ino 12) (groups 16522 2113674 2097152 parts) (groups_once 16522 2113674 2097152 parts)
      (λ g among. (let p = group_from 16522 2113674 2097152 parts g among in (
        (mine, omega arith),
        above (Top ino 12) ((p.part - 16522) / 16384)
            (above (Under (Top ino 12) ((p.part - 16522) / 16384)) ((p.part - 16522) / 128 % 128) (triple_down p.part (has_in parts p.part p.among) p.above)),
        refl,
      )))
      (λ g h one two e. (let p = group_from 16522 2113674 2097152 parts g one in
      let r = group_from 16522 2113674 2097152 parts h two in
      let a = p.group in let b = p.below in let c = r.group in let d = r.below in
      omega (arith, a, b, c, d)))

  -- ---- all of them

  abbrev pub from_mids : List ℕ
  from_mids = triple_mids ++ triples

  abbrev pub from_triple : List ℕ
  from_triple = triple_leaves ++ from_mids

  abbrev pub from_doubles : List ℕ
  from_doubles = doubles ++ from_triple

  abbrev pub from_double : List ℕ
  from_double = double_leaves ++ from_doubles

  abbrev pub from_single : List ℕ
  from_single = singles ++ from_double

  unfoldable pub held_blocks : List ℕ
  held_blocks = own_parts ++ from_single

  all_from : AreFrom ps ino holds.apart 0 held_blocks
  unfolding held_blocks
  all_from =
      joined ps ino holds.apart 0 1 own_parts from_single (omega arith) part_family
      (joined ps ino holds.apart 1 4 singles from_double (omega arith) single_family
      (joined ps ino holds.apart 4 5 double_leaves from_doubles (omega arith) double_leaf_family
      (joined ps ino holds.apart 5 7 doubles from_triple (omega arith) double_family
      (joined ps ino holds.apart 7 8 triple_leaves from_mids (omega arith) triple_leaf_family
      (joined ps ino holds.apart 8 9 triple_mids triples (omega arith) triple_mid_family
      (family_from ps ino holds.apart 9 triples triple_family))))))

  pub held_once : AreOnce held_blocks
  held_once = all_from.once

  pub held_only : (block : ℕ) → Contains held_blocks block → (0 < block) × (q : Place) × IsPlace (nat_eq ino) q × (at ps q ≡ block)
  held_only block among = (let of = (all_from.of block among).2 in (of.some, of.place, of.is, of.here))

  pub held_count : length held_blocks ≡ length parts + index_blocks parts
  unfolding held_blocks
  held_count =
      let a = length-append own_parts from_single in
      let b = length-append singles from_double in
      let c = length-append double_leaves from_doubles in
      let d = length-append doubles from_triple in
      let e = length-append triple_leaves from_mids in
      let f = length-append triple_mids triples in
      let n0 = length-map parts (λ k. at ps (place_of ino k)) in
      let n1 = length-map (groups 10 138 128 parts) (λ g. at ps (Top ino 10)) ∙ group_count 10 138 128 parts in
      let n2 = length-map (groups 138 16522 128 parts) (λ g. at ps (Under (Top ino 11) g)) ∙ group_count 138 16522 128 parts in
      let n3 = length-map (groups 138 16522 16384 parts) (λ g. at ps (Top ino 11)) ∙ group_count 138 16522 16384 parts in
      let n4 = length-map (groups 16522 2113674 128 parts) (λ g. at ps (Under (Under (Top ino 12) (g / 128)) (g % 128))) ∙ group_count 16522 2113674 128 parts in
      let n5 = length-map (groups 16522 2113674 16384 parts) (λ g. at ps (Under (Top ino 12) g)) ∙ group_count 16522 2113674 16384 parts in
      let n6 = length-map (groups 16522 2113674 2097152 parts) (λ g. at ps (Top ino 12)) ∙ group_count 16522 2113674 2097152 parts in
      omega (arith, a, b, c, d, e, f, n0, n1, n2, n3, n4, n5, n6)
