-- Every list of the blocks that an inode holds, each once, is as long as its parts cost.
use Rattle.std.proofs.Common.{◌≡◌, inl, inr, ℕ, ◌+◌, ◌-◌, ◌*◌, ◌/◌, ◌%◌, ◌<◌, ◌≤◌, Bool, true, false, List, length, refl, sym, ap, subst, ◌∙◌, arith, nat_eq}
use Rattle.std.specs.List.{Contains}
use Rattle.std.specs.Cmp.{nat_eq_equiv}
use Rattle.std.proofs.lemmas.Bool.{cases_eq, cases_lt}
use Rattle.std.proofs.lemmas.Bool.Decides.{nat_tests, Decides-eqb}
use Rattle.std.proofs.lemmas.List.Elements.{Contains-append_left, Contains-append_right}
use Rattle.std.proofs.lemmas.Map.Made.{length-from_same_keys, IsDistinct-from_AllPairs}
use Rattle.mb_tree.specs.Blocks.{pointers}
use Rattle.mb_tree.specs.Cost.{most_parts, index_blocks}
use Rattle.mb_tree.specs.Places.{Place, Pointers, at, level, IsPlace, place_of}
use Rattle.mb_tree.specs.Places.Place.{Top, Under}
use Rattle.mb_blocks.specs.Owners.{Enumerates, HoldsParts}
use Rattle.mb_blocks.proofs.Enumerated.{direct_at, double_is, double_leaves, double_up, doubles, from_double, from_doubles, from_mids, from_single, from_triple, held_blocks, held_count, held_once, held_only, mine, own_parts, single_is, singles, triple_is, triple_leaves, triple_mids, triple_up, triples}
use Rattle.mb_blocks.proofs.Families.{map_has}
use Rattle.mb_blocks.proofs.Groupings.{group_has, groups, has_in, in_has}
use Rattle.mb_blocks.proofs.Shares.{is_in}

pub same_test : (a b : Bool) → (a ≡ true → b ≡ true) → (b ≡ true → a ≡ true) → a ≡ b
same_test true true f g = refl
same_test true false f g = sym (f refl)
same_test false true f g = g refl
same_test false false f g = refl

level_few : (has : ℕ → Bool) (q : Place) → IsPlace has q → level q ≤ 3
level_few has (Top i p) h = (let low = h.1 in omega (arith, low))
level_few has (Under q k) h = (let few = level_few has q h.0 in omega (arith, few))

module _ (ps : Pointers) (ino : ℕ) (parts : List ℕ) (holds : HoldsParts ps ino parts) where
  abbrev all : List ℕ
  all = held_blocks ps ino parts holds

  in_parts : (b : ℕ) → Contains (own_parts ps ino parts holds) b → Contains all b
  unfolding held_blocks
  in_parts b h = Contains-append_left (own_parts ps ino parts holds) (from_single ps ino parts holds) b h

  in_single : (b : ℕ) → Contains (from_single ps ino parts holds) b → Contains all b
  unfolding held_blocks
  in_single b h = Contains-append_right (own_parts ps ino parts holds) (from_single ps ino parts holds) b h

  in_double : (b : ℕ) → Contains (from_double ps ino parts holds) b → Contains all b
  in_double b h = in_single b (Contains-append_right (singles ps ino parts holds) (from_double ps ino parts holds) b h)

  in_doubles : (b : ℕ) → Contains (from_doubles ps ino parts holds) b → Contains all b
  in_doubles b h = in_double b (Contains-append_right (double_leaves ps ino parts holds) (from_doubles ps ino parts holds) b h)

  in_triple : (b : ℕ) → Contains (from_triple ps ino parts holds) b → Contains all b
  in_triple b h = in_doubles b (Contains-append_right (doubles ps ino parts holds) (from_triple ps ino parts holds) b h)

  in_mids : (b : ℕ) → Contains (from_mids ps ino parts holds) b → Contains all b
  in_mids b h = in_triple b (Contains-append_right (triple_leaves ps ino parts holds) (from_mids ps ino parts holds) b h)

  -- ---- a part, and each kind of index block

  part_in_all : (k : ℕ) (q : Place) → k < most_parts → place_of ino k ≡ q → 0 < at ps q → Contains all (at ps q)
  part_in_all k q below is some =
      let there = holds.there k below (subst (λ x. 0 < at ps x) (sym is) some) in
      in_parts (at ps q) (subst (λ x. Contains (own_parts ps ino parts holds) (at ps x)) is (map_has (λ j. at ps (place_of ino j)) parts k there))

  single_in_all : 0 < at ps (Top ino 10) → Contains all (at ps (Top ino 10))
  single_in_all held =
      let on = holds.leads (Top ino 10) (mine ps ino parts holds, omega arith) (omega arith) held in
      let j = on.1 in
      let is : place_of ino (10 + on.0) ≡ Under (Top ino 10) on.0 = single_is ps ino parts holds (10 + on.0) (omega arith) (omega (arith, j)) ∙ ap (Under (Top ino 10)) (omega arith) in
      let there = holds.there (10 + on.0) (omega (arith, j)) (subst (λ x. 0 < at ps x) (sym is) on.2) in
      in_single (at ps (Top ino 10)) (Contains-append_left (singles ps ino parts holds) (from_double ps ino parts holds) (at ps (Top ino 10))
      (map_has (λ g. at ps (Top ino 10)) (groups 10 138 128 parts) ((10 + on.0 - 10) / 128) (group_has 10 138 128 parts (10 + on.0) there (omega arith) (omega (arith, j)))))

  leaf_in_all : (g : ℕ) → g < 128 → 0 < at ps (Under (Top ino 11) g) → Contains all (at ps (Under (Top ino 11) g))
  leaf_in_all g few held =
      let k = double_up ps ino parts holds g few held in
      in_double (at ps (Under (Top ino 11) g)) (Contains-append_left (double_leaves ps ino parts holds) (from_doubles ps ino parts holds) (at ps (Under (Top ino 11) g))
      (subst (λ x. Contains (double_leaves ps ino parts holds) (at ps (Under (Top ino 11) x))) k.4
      (map_has (λ x. at ps (Under (Top ino 11) x)) (groups 138 16522 128 parts) ((k.0 - 138) / 128) (group_has 138 16522 128 parts k.0 (in_has parts k.0 k.1) k.2 k.3))))

  double_in_all : 0 < at ps (Top ino 11) → Contains all (at ps (Top ino 11))
  double_in_all held =
      let on = holds.leads (Top ino 11) (mine ps ino parts holds, omega arith) (omega arith) held in
      let k = double_up ps ino parts holds on.0 on.1 on.2 in
      in_doubles (at ps (Top ino 11)) (Contains-append_left (doubles ps ino parts holds) (from_triple ps ino parts holds) (at ps (Top ino 11))
      (map_has (λ x. at ps (Top ino 11)) (groups 138 16522 16384 parts) ((k.0 - 138) / 16384) (group_has 138 16522 16384 parts k.0 (in_has parts k.0 k.1) k.2 k.3)))

  triple_leaf_in_all : (g h : ℕ) → g < 128 → h < 128 → 0 < at ps (Under (Under (Top ino 12) g) h) → Contains all (at ps (Under (Under (Top ino 12) g) h))
  triple_leaf_in_all g h few low held =
      let k = triple_up ps ino parts holds g h few low held in
      let m = k.4 in
      let a : (k.0 - 16522) / 128 / 128 ≡ g = omega (arith, m, low) in
      let b : (k.0 - 16522) / 128 % 128 ≡ h = omega (arith, m, low) in
      in_triple (at ps (Under (Under (Top ino 12) g) h)) (Contains-append_left (triple_leaves ps ino parts holds) (from_mids ps ino parts holds) (at ps (Under (Under (Top ino 12) g) h))
      (subst (λ y. Contains (triple_leaves ps ino parts holds) (at ps (Under (Under (Top ino 12) g) y))) b
      (subst (λ x. Contains (triple_leaves ps ino parts holds) (at ps (Under (Under (Top ino 12) x) ((k.0 - 16522) / 128 % 128)))) a
      (map_has (λ x. at ps (Under (Under (Top ino 12) (x / 128)) (x % 128))) (groups 16522 2113674 128 parts) ((k.0 - 16522) / 128) (group_has 16522 2113674 128 parts k.0 (in_has parts k.0 k.1) k.2 k.3)))))

  triple_mid_in_all : (g : ℕ) → g < 128 → 0 < at ps (Under (Top ino 12) g) → Contains all (at ps (Under (Top ino 12) g))
  triple_mid_in_all g few held =
      let on = holds.leads (Under (Top ino 12) g) ((mine ps ino parts holds, omega arith), omega arith, few) (omega arith) held in
      let k = triple_up ps ino parts holds g on.0 few on.1 on.2 in
      let e : (k.0 - 16522) / 16384 ≡ g = (let m = k.4 in let j = on.1 in omega (arith, m, j)) in
      in_mids (at ps (Under (Top ino 12) g)) (Contains-append_left (triple_mids ps ino parts holds) (triples ps ino parts holds) (at ps (Under (Top ino 12) g))
      (subst (λ x. Contains (triple_mids ps ino parts holds) (at ps (Under (Top ino 12) x))) e
      (map_has (λ x. at ps (Under (Top ino 12) x)) (groups 16522 2113674 16384 parts) ((k.0 - 16522) / 16384) (group_has 16522 2113674 16384 parts k.0 (in_has parts k.0 k.1) k.2 k.3))))

  triple_in_all : 0 < at ps (Top ino 12) → Contains all (at ps (Top ino 12))
  triple_in_all held =
      let one = holds.leads (Top ino 12) (mine ps ino parts holds, omega arith) (omega arith) held in
      let two = holds.leads (Under (Top ino 12) one.0) ((mine ps ino parts holds, omega arith), omega arith, one.1) (omega arith) one.2 in
      let k = triple_up ps ino parts holds one.0 two.0 one.1 two.1 two.2 in
      in_mids (at ps (Top ino 12)) (Contains-append_right (triple_mids ps ino parts holds) (triples ps ino parts holds) (at ps (Top ino 12))
      (map_has (λ x. at ps (Top ino 12)) (groups 16522 2113674 2097152 parts) ((k.0 - 16522) / 2097152) (group_has 16522 2113674 2097152 parts k.0 (in_has parts k.0 k.1) k.2 k.3)))

  -- ---- each place of the inode

  top_in_all : (p : ℕ) → p < 13 → 0 < at ps (Top ino p) → Contains all (at ps (Top ino p))
  top_in_all p low some = elim (cases_lt p 10) [
    | inl direct ↦ part_in_all p (Top ino p) (omega (arith, direct)) (direct_at ino p direct) some
    | inr past ↦ elim (cases_eq p 10) [
      | inl is ↦ subst (λ x. 0 < at ps (Top ino x) → Contains all (at ps (Top ino x))) (sym is) single_in_all some
      | inr off ↦ elim (cases_eq p 11) [
        | inl is ↦ subst (λ x. 0 < at ps (Top ino x) → Contains all (at ps (Top ino x))) (sym is) double_in_all some
        | inr far ↦ subst (λ x. 0 < at ps (Top ino x) → Contains all (at ps (Top ino x))) (let e : 12 ≡ p = omega (arith, past, off, far, low) in e) triple_in_all some
      ]
    ]
  ]

  first_in_all : (p k : ℕ) → p < 13 → 0 < level (Top ino p) → k < 128 → 0 < at ps (Under (Top ino p) k) → Contains all (at ps (Under (Top ino p) k))
  first_in_all p k low up few some = elim (cases_eq p 10) [
    | inl is ↦ subst (λ x. 0 < at ps (Under (Top ino x) k) → Contains all (at ps (Under (Top ino x) k))) (sym is)
        (λ there. part_in_all (10 + k) (Under (Top ino 10) k) (omega (arith, few)) (single_is ps ino parts holds (10 + k) (omega arith) (omega (arith, few)) ∙ ap (Under (Top ino 10)) (omega arith)) there) some
    | inr off ↦ elim (cases_eq p 11) [
      | inl is ↦ subst (λ x. 0 < at ps (Under (Top ino x) k) → Contains all (at ps (Under (Top ino x) k))) (sym is) (leaf_in_all k few) some
      | inr far ↦ subst (λ x. 0 < at ps (Under (Top ino x) k) → Contains all (at ps (Under (Top ino x) k))) (let e : 12 ≡ p = omega (arith, up, off, far, low) in e) (triple_mid_in_all k few) some
    ]
  ]

  second_in_all : (p a b : ℕ) → p < 13 → 0 < level (Under (Top ino p) a) → a < 128 → b < 128 → 0 < at ps (Under (Under (Top ino p) a) b) → Contains all (at ps (Under (Under (Top ino p) a) b))
  second_in_all p a b low up few less some = elim (cases_eq p 11) [
    | inl is ↦ subst (λ x. 0 < at ps (Under (Under (Top ino x) a) b) → Contains all (at ps (Under (Under (Top ino x) a) b))) (sym is)
        (λ there. part_in_all (138 + 128 * a + b) (Under (Under (Top ino 11) a) b) (omega (arith, few, less))
        (double_is ps ino parts holds (138 + 128 * a + b) (omega arith) (omega (arith, few, less))
        ∙ ap (λ x. Under (Under (Top ino 11) x) ((138 + 128 * a + b - 138) % 128)) (let e : (138 + 128 * a + b - 138) / 128 ≡ a = omega (arith, less) in e)
        ∙ ap (Under (Under (Top ino 11) a)) (let e : (138 + 128 * a + b - 138) % 128 ≡ b = omega (arith, less) in e)) there) some
    | inr far ↦ subst (λ x. 0 < at ps (Under (Under (Top ino x) a) b) → Contains all (at ps (Under (Under (Top ino x) a) b))) (let e : 12 ≡ p = omega (arith, up, far, low) in e) (triple_leaf_in_all a b few less) some
  ]

  third_in_all : (p a b c : ℕ) → p < 13 → 0 < level (Under (Under (Top ino p) a) b) → a < 128 → b < 128 → c < 128 → 0 < at ps (Under (Under (Under (Top ino p) a) b) c)
      → Contains all (at ps (Under (Under (Under (Top ino p) a) b) c))
  third_in_all p a b c low up few less small some =
      let k = 16522 + 16384 * a + 128 * b + c in
      let x : (k - 16522) / 16384 ≡ a = omega (arith, less, small) in
      let m : (k - 16522) / 128 ≡ 128 * a + b = omega (arith, small) in
      let y : (k - 16522) / 128 % 128 ≡ b = omega (arith, m, less) in
      let z : (k - 16522) % 128 ≡ c = omega (arith, small) in
      let is : place_of ino k ≡ Under (Under (Under (Top ino 12) a) b) c =
      triple_is ps ino parts holds k (omega arith)
      ∙ ap (λ v. Under (Under (Under (Top ino 12) v) ((k - 16522) / 128 % 128)) ((k - 16522) % 128)) x
      ∙ ap (λ v. Under (Under (Under (Top ino 12) a) v) ((k - 16522) % 128)) y
      ∙ ap (Under (Under (Under (Top ino 12) a) b)) z in
      subst (λ v. 0 < at ps (Under (Under (Under (Top ino v) a) b) c) → Contains all (at ps (Under (Under (Under (Top ino v) a) b) c))) (let e : 12 ≡ p = omega (arith, up, low) in e)
      (part_in_all k (Under (Under (Under (Top ino 12) a) b) c) (omega (arith, few, less, small)) is) some

  owner : (i : ℕ) → nat_eq ino i ≡ true → ino ≡ i
  owner i t = grind (arith, nat_tests)

  held_in_all : (q : Place) → IsPlace (nat_eq ino) q → 0 < at ps q → Contains all (at ps q)
  held_in_all (Top i p) h some = subst (λ x. 0 < at ps (Top x p) → Contains all (at ps (Top x p))) (owner i h.0) (top_in_all p h.1) some
  held_in_all (Under (Top i p) k) h some =
      subst (λ x. 0 < at ps (Under (Top x p) k) → Contains all (at ps (Under (Top x p) k))) (owner i h.0.0) (first_in_all p k h.0.1 h.1 h.2) some
  held_in_all (Under (Under (Top i p) a) b) h some =
      subst (λ x. 0 < at ps (Under (Under (Top x p) a) b) → Contains all (at ps (Under (Under (Top x p) a) b))) (owner i h.0.0.0) (second_in_all p a b h.0.0.1 h.1 h.0.2 h.2) some
  held_in_all (Under (Under (Under (Top i p) a) b) c) h some =
      subst (λ x. 0 < at ps (Under (Under (Under (Top x p) a) b) c) → Contains all (at ps (Under (Under (Under (Top x p) a) b) c))) (owner i h.0.0.0.0)
      (third_in_all p a b c h.0.0.0.1 h.1 h.0.0.2 h.0.2 h.2) some
  held_in_all (Under (Under (Under (Under q a) b) c) d) h some = absurd (let few = level_few (nat_eq ino) q h.0.0.0.0 in let up = h.1 in omega (arith, few, up))

-- a list of all its blocks, each once, is as long as the parts cost
pub cost_enumerated : (blocks : ℕ → List ℕ) (ino : ℕ) (parts held : List ℕ) → HoldsParts (pointers blocks) ino parts → Enumerates blocks ino held → length held ≡ length parts + index_blocks parts
cost_enumerated blocks ino parts held holds list =
    let all = held_blocks (pointers blocks) ino parts holds in
    length-from_same_keys nat_eq_equiv held all (IsDistinct-from_AllPairs Decides-eqb held list.once) (IsDistinct-from_AllPairs Decides-eqb all (held_once (pointers blocks) ino parts holds))
    (λ k. same_test (is_in held k) (is_in all k)
    (λ t. (let only = list.only k (in_has held k t) in
    let some = only.0 in
    let here = only.3 in
    has_in all k (subst (Contains all) here (held_in_all (pointers blocks) ino parts holds only.1 only.2 (omega (arith, some, here))))))
    (λ t. (let only = held_only (pointers blocks) ino parts holds k (in_has all k t) in
    let some = only.0 in
    let here = only.3 in
    has_in held k (subst (Contains held) here (list.all only.1 only.2 (omega (arith, some, here)))))))
    ∙ held_count (pointers blocks) ino parts holds
