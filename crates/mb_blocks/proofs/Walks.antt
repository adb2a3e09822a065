-- The walk by levels gives each block of an inode once, and no other.
use Rattle.std.proofs.Common.{ℕ, zero, suc, ◌≡◌, ◌⊎◌, inl, inr, ◌<◌, ◌≤◌, Bool, true, false, cond, nat_eq, nat_lt, List, [], ◌∷◌, ◌++◌, refl, sym, ap, subst, ◌∙◌, arith}
use Rattle.std.specs.List.{Contains}
use Rattle.std.proofs.lemmas.Bool.{cases_eq}
use Rattle.std.proofs.lemmas.Bool.Decides.{nat_tests}
use Rattle.std.proofs.lemmas.List.Elements.{Contains-get_or, Contains-append_left, Contains-append_right, Contains-append_cases}
use Rattle.mb_tree.specs.Places.{Place, Pointers, at, level, IsPlace}
use Rattle.mb_tree.specs.Places.Place.{Top, Under}
use Rattle.mb_blocks.specs.Laid.{AreOnce}
use Rattle.mb_blocks.specs.Reached.{IsOnWay}
use Rattle.mb_blocks.specs.Walk.{under_block, under_each}
use Rattle.mb_blocks.proofs.Frames.{not_on_own_way}
use Rattle.mb_blocks.proofs.Reached.{on_level_zero}
use Rattle.mb_blocks.proofs.Rearranged.{first_or_later, later, once_cons, once_joined, own}

self : (q : Place) → IsOnWay q q
self (Top i p) = refl
self (Under q k) = inl refl

-- a place below another is below one place of its index block
below_once : (q r : Place) (j k : ℕ) → IsOnWay (Under q j) r → IsOnWay (Under q k) r → j ≡ k
below_once q (Top i p) j k one two = cc
below_once q (Under w i) j k (inl one) (inl two) = cc
below_once q (Under w i) j k (inl one) (inr two) = (let same : w ≡ q = cc in absurd (not_on_own_way q k (subst (IsOnWay (Under q k)) same two)))
below_once q (Under w i) j k (inr one) (inl two) = (let same : w ≡ q = cc in absurd (not_on_own_way q j (subst (IsOnWay (Under q j)) same one)))
below_once q (Under w i) j k (inr one) (inr two) = below_once q w j k one two

pub top_once : (ino : ℕ) (r : Place) (j k : ℕ) → IsOnWay (Top ino j) r → IsOnWay (Top ino k) r → j ≡ k
top_once ino (Top i p) j k one two = cc
top_once ino (Under w i) j k (inl one) two = cc
top_once ino (Under w i) j k (inr one) (inl two) = cc
top_once ino (Under w i) j k (inr one) (inr two) = top_once ino w j k one two

up_from : (q r : Place) (k : ℕ) → IsOnWay (Under q k) r → IsOnWay q r
up_from q (Top i p) k e = cc
up_from q (Under w i) k (inl e) = (let same : w ≡ q = cc in inr (subst (λ x. IsOnWay x w) same (self w)))
up_from q (Under w i) k (inr on) = inr (up_from q w k on)

down_from : (has : ℕ → Bool) (q r : Place) → IsPlace has r → IsOnWay q r → (r ≡ q) ⊎ ((k : ℕ) × (k < 128) × IsOnWay (Under q k) r)
down_from has q (Top i p) is e = inl e
down_from has q (Under w i) is (inl e) = inl e
down_from has q (Under w i) is (inr on) = elim (down_from has q w is.0 on) [
  | inl e ↦ inr (i, is.2, inl (ap (λ x. Under x i) e))
  | inr more ↦ inr (more.0, more.1, inr more.2)
]

module _ (ps : Pointers) (ino : ℕ) (hole : (j : ℕ) → ps.entry 0 j ≡ 0) (apart : (q r : Place) → IsPlace (nat_eq ino) q → IsPlace (nat_eq ino) r → 0 < at ps q → at ps q ≡ at ps r → q ≡ r) where
  -- a block that stands at a place or under it
  pub record Stands (q : Place) (block : ℕ) : Type 0 where
    pub place : Place
    pub is : IsPlace (nat_eq ino) place
    pub on : IsOnWay q place
    pub here : at ps place ≡ block
    pub some : 0 < block

  pub record IsListed (q : Place) (blocks : List ℕ) : Type 0 where
    pub once : AreOnce blocks
    pub of : (block : ℕ) → Contains blocks block → Stands q block
    pub all : (r : Place) → IsPlace (nat_eq ino) r → IsOnWay q r → 0 < at ps r → Contains blocks (at ps r)

  same_place : (q r : Place) (block : ℕ) (one : Stands q block) (two : Stands r block) → one.place ≡ two.place
  same_place q r block one two = (let some = one.some in let here = one.here in apart one.place two.place one.is two.is (omega (arith, some, here)) (one.here ∙ sym two.here))

  above_held : (q r : Place) → IsOnWay q r → 0 < at ps r → 0 < at ps q
  above_held q (Top i p) e some = subst (λ x. 0 < at ps x) e some
  above_held q (Under w k) (inl e) some = subst (λ x. 0 < at ps x) e some
  above_held q (Under w k) (inr on) some = above_held q w on (elim (cases_eq (at ps w) 0) [
    | inl none ↦ absurd (let e : ps.entry (at ps w) k ≡ 0 = ap (λ b. ps.entry b k) none ∙ hole k in omega (arith, some, e))
    | inr held ↦ omega (arith, held)
  ])

  -- ---- some places that lie apart

  module _ (place : ℕ → Place) (few : ℕ) (once : (r : Place) (j k : ℕ) → IsOnWay (place j) r → IsOnWay (place k) r → j ≡ k) (one : ℕ → ℕ → List ℕ)
      (deeper : (k : ℕ) → k < few → 0 < at ps (place k) → IsListed (place k) (one k (at ps (place k)))) where
    pub record IsEach (n : ℕ) (blocks : List ℕ) : Type 0 where
      pub once_each : AreOnce blocks
      pub of_each : (block : ℕ) → Contains blocks block → (k : ℕ) × (k < n) × Stands (place k) block
      pub all_each : (k : ℕ) → k < n → (r : Place) → IsPlace (nat_eq ino) r → IsOnWay (place k) r → 0 < at ps r → Contains blocks (at ps r)

    step : (n : ℕ) (rest : List ℕ) → n < few → IsEach n rest → IsEach (suc n) (cond (nat_lt 0 (at ps (place n))) (one n (at ps (place n))) [] ++ rest)
    step n rest low each =
        elim (nat_lt 0 (at ps (place n))) as (λ b. nat_lt 0 (at ps (place n)) ≡ b → IsEach (suc n) (cond b (one n (at ps (place n))) [] ++ rest)) [
          | true ↦ λ t.
              (let some : 0 < at ps (place n) = grind (arith, nat_tests) in
              let blocks = one n (at ps (place n)) in
              let listed = deeper n low some in
              record {
                once_each = once_joined blocks rest listed.once each.once_each (λ x y in_one in_rest e.
                    (let a = listed.of x in_one in
                    let b = each.of_each y in_rest in
                    let c : Stands (place b.0) x = subst (Stands (place b.0)) (sym e) b.2 in
                    let same = same_place (place n) (place b.0) x a c in
                    let j : n ≡ b.0 = once c.place n b.0 (subst (IsOnWay (place n)) same a.on) c.on in
                    let less = b.1 in
                    omega (arith, j, less)));
                of_each = λ block among. elim (Contains-append_cases blocks rest block among) [
                  | inl left ↦ (n, omega arith, listed.of block left)
                  | inr right ↦ (let b = each.of_each block right in let less = b.1 in (b.0, omega (arith, less), b.2))
                ];
                all_each = λ k less r is on there. elim (cases_eq k n) [
                  | inl e ↦ Contains-append_left blocks rest (at ps r) (listed.all r is (subst (λ x. IsOnWay (place x) r) e on) there)
                  | inr off ↦ Contains-append_right blocks rest (at ps r) (each.all_each k (omega (arith, less, off)) r is on there)
                ];
              })
          | false ↦ λ t.
              (let none : at ps (place n) ≡ 0 = grind (arith, nat_tests) in
              record {
                once_each = each.once_each;
                of_each = λ block among. (let b = each.of_each block among in let less = b.1 in (b.0, omega (arith, less), b.2));
                all_each = λ k less r is on there. elim (cases_eq k n) [
                  | inl e ↦ absurd (let held = above_held (place n) r (subst (λ x. IsOnWay (place x) r) e on) there in omega (arith, held, none))
                  | inr off ↦ each.all_each k (omega (arith, less, off)) r is on there
                ];
              })
        ] refl

    pub each_listed : (n : ℕ) → n ≤ few → IsEach n (under_each one (λ k. at ps (place k)) n)
    unfolding under_each
    each_listed zero low = record {
      once_each = λ i j d below within. absurd (omega (arith, within));
      of_each = λ block among. absurd (let within = among.1 in omega (arith, within));
      all_each = λ k less r is on there. absurd (omega (arith, less));
    }
    each_listed (suc n) low = step n (under_each one (λ k. at ps (place k)) n) (omega (arith, low)) (each_listed n (omega (arith, low)))

  -- ---- level by level

  pub block_listed : (levels : ℕ) (q : Place) → IsPlace (nat_eq ino) q → level q ≡ levels → 0 < at ps q → IsListed q (under_block ps levels (at ps q))
  unfolding under_block
  block_listed zero q is bottom some = record {
    once = λ i j d below within. absurd (omega (arith, below, within));
    of = λ block among. elim (first_or_later (at ps q) block [] among) [
      | inl e ↦ record { place = q; is = is; on = self q; here = e; some = omega (arith, some, e) }
      | inr more ↦ absurd (let within = more.1 in omega (arith, within))
    ];
    all = λ r there on held. (let same : r ≡ q = on_level_zero (nat_eq ino) q r there bottom on in subst (λ x. Contains (at ps q ∷ []) (at ps x)) (sym same) (own (at ps q) []));
  }
  block_listed (suc levels) q is up some =
      let each = each_listed (Under q) 128 (λ r j k. below_once q r j k) (λ place. under_block ps levels)
      (λ k low held. block_listed levels (Under q k) (is, omega (arith, up), low) (omega (arith, up)) held) 128 (omega arith) in
      let kids = under_each (λ place. under_block ps levels) (ps.entry (at ps q)) 128 in
      record {
        once = once_cons (at ps q) kids
            (λ i d within e.
            (let b = each.of_each _ (Contains-get_or kids i d within) in
            let c : Stands (Under q b.0) (at ps q) = subst (Stands (Under q b.0)) (sym e) b.2 in
            let same : c.place ≡ q = (let here = c.here in apart c.place q c.is is (omega (arith, some, here)) here) in
            not_on_own_way q b.0 (subst (IsOnWay (Under q b.0)) same c.on)))
            each.once_each;
        of = λ block among. elim (first_or_later (at ps q) block kids among) [
          | inl e ↦ record { place = q; is = is; on = self q; here = e; some = omega (arith, some, e) }
          | inr more ↦ (let b = each.of_each block more in let c = b.2 in record { place = c.place; is = c.is; on = up_from q c.place b.0 c.on; here = c.here; some = c.some })
        ];
        all = λ r there on held. elim (down_from (nat_eq ino) q r there on) [
          | inl same ↦ subst (λ x. Contains (at ps q ∷ kids) (at ps x)) (sym same) (own (at ps q) kids)
          | inr more ↦ later (at ps q) (at ps r) kids (each.all_each more.0 more.1 r there more.2 held)
        ];
      }
