-- Blocks that one inode holds, listed class by class: by the address of the inode on their way and their level.
use Rattle.std.proofs.Common.{◌≡◌, ◌≢◌, inl, inr, ℕ, ◌+◌, ◌-◌, ◌*◌, ◌<◌, ◌≤◌, true, cond, nat_eq, List, [], ◌∷◌, ◌++◌, map, sym, ap, subst, ◌∙◌, arith}
use Rattle.std.specs.List.{Contains}
use Rattle.std.proofs.lemmas.Bool.Decides.{nat_tests}
use Rattle.std.proofs.lemmas.List.Elements.{All-map, Contains-get_or, Contains-append_cases}
use Rattle.mb_tree.specs.Places.{Place, Pointers, at, level, IsPlace}
use Rattle.mb_tree.specs.Places.Place.{Top, Under}
use Rattle.mb_blocks.specs.Laid.{AreOnce}
use Rattle.mb_blocks.proofs.Rearranged.{first_or_later, first_other, later, once_cons, once_joined, own, rest_once}

abbrev pub first_of : Place → ℕ
first_of (Top ino p) = p
first_of (Under q k) = first_of q

-- 0 for a part; an index block by the address on its way and its level
abbrev pub class_of : Place → ℕ
class_of q = cond (nat_eq (level q) 0) 0 (3 * (first_of q - 10) + level q)

pub part_class : (q : Place) → level q ≡ 0 → class_of q ≡ 0
part_class q none =
    let t : nat_eq (level q) 0 ≡ true = grind (arith, nat_tests) in
    ap (λ b. cond b 0 (3 * (first_of q - 10) + level q)) t

pub map_has : (f : ℕ → ℕ) (xs : List ℕ) (x : ℕ) → Contains xs x → Contains (map f xs) (f x)
map_has f [] x h = absurd (let low = h.1 in omega (arith, low))
map_has f (y ∷ xs) x h = elim (first_or_later y x xs h) [
  | inl is ↦ subst (λ z. Contains (f y ∷ map f xs) (f z)) is (own (f y) (map f xs))
  | inr more ↦ later (f y) (f x) (map f xs) (map_has f xs x more)
]

pub map_from : (f : ℕ → ℕ) (xs : List ℕ) (y : ℕ) → Contains (map f xs) y → (x : ℕ) × Contains xs x × (f x ≡ y)
map_from f [] y h = absurd (let low = h.1 in omega (arith, low))
map_from f (x ∷ xs) y h = elim (first_or_later (f x) y (map f xs) h) [
  | inl is ↦ (x, own x xs, is)
  | inr more ↦ (let r = map_from f xs y more in (r.0, later x r.0 xs r.1, r.2))
]

pub map_once : (f : ℕ → ℕ) (xs : List ℕ) → AreOnce xs → ((x y : ℕ) → Contains xs x → Contains xs y → f x ≡ f y → x ≡ y) → AreOnce (map f xs)
map_once f [] once apart = λ i j d below within. absurd (omega (arith, within))
map_once f (x ∷ xs) once apart =
    once_cons (f x) (map f xs)
    (All-map (λ y. f x ≢ y) f xs (λ i d within e. first_other x xs once i d within (apart x _ (own x xs) (later x _ xs (Contains-get_or xs i d within)) e)))
    (map_once f xs (rest_once x xs once) (λ a b one two. apart a b (later x a xs one) (later x b xs two)))

module _ (ps : Pointers) (ino : ℕ) (apart : (q r : Place) → IsPlace (nat_eq ino) q → IsPlace (nat_eq ino) r → 0 < at ps q → at ps q ≡ at ps r → q ≡ r) where
  -- a block held at a place of a class
  pub record IsClassed (class block : ℕ) : Type 0 where
    pub place : Place
    pub is : IsPlace (nat_eq ino) place
    pub here : at ps place ≡ block
    pub some : 0 < block
    pub kind : class_of place ≡ class

  pub one_class : (c d block : ℕ) → IsClassed c block → IsClassed d block → c ≡ d
  one_class c d block one two =
      let some = one.some in
      let here = one.here in
      let same : one.place ≡ two.place = apart one.place two.place one.is two.is (omega (arith, some, here)) (one.here ∙ sym two.here) in
      sym one.kind ∙ ap class_of same ∙ two.kind

  -- a list of blocks of one class, and of classes from one on
  pub record IsFamily (class : ℕ) (blocks : List ℕ) : Type 0 where
    pub once : AreOnce blocks
    pub of : (block : ℕ) → Contains blocks block → IsClassed class block

  pub record AreFrom (class : ℕ) (blocks : List ℕ) : Type 0 where
    pub once : AreOnce blocks
    pub of : (block : ℕ) → Contains blocks block → (d : ℕ) × (class ≤ d) × IsClassed d block

  pub family_from : (class : ℕ) (blocks : List ℕ) → IsFamily class blocks → AreFrom class blocks
  family_from class blocks is = record { once = is.once; of = λ block among. (class, omega arith, is.of block among) }

  pub joined : (c d : ℕ) (xs ys : List ℕ) → c < d → IsFamily c xs → AreFrom d ys → AreFrom c (xs ++ ys)
  joined c d xs ys less one two = record {
    once = once_joined xs ys one.once two.once (λ x y in_one in_two e.
        (let b = two.of y in_two in
        let above = b.1 in
        let same : c ≡ b.0 = one_class c b.0 x (one.of x in_one) (subst (IsClassed b.0) (sym e) b.2) in
        omega (arith, less, above, same)));
    of = λ block among. elim (Contains-append_cases xs ys block among) [
      | inl left ↦ (c, omega arith, one.of block left)
      | inr right ↦ (let b = two.of block right in let above = b.1 in (b.0, omega (arith, less, above), b.2))
    ];
  }

  -- numbers, each of which names a held place of the class
  pub family : (class : ℕ) (place : ℕ → Place) (items : List ℕ) → AreOnce items
      → ((g : ℕ) → Contains items g → IsPlace (nat_eq ino) (place g) × (0 < at ps (place g)) × (class_of (place g) ≡ class))
      → ((g h : ℕ) → Contains items g → Contains items h → place g ≡ place h → g ≡ h) → IsFamily class (map (λ g. at ps (place g)) items)
  family class place items once held names = record {
    once = map_once (λ g. at ps (place g)) items once (λ g h one two e.
        (let a = held g one in let b = held h two in names g h one two (apart (place g) (place h) a.0 b.0 a.1 e)));
    of = λ block among.
        (let r = map_from (λ g. at ps (place g)) items block among in
        let a = held r.0 r.1 in
        let some = a.1 in
        let here = r.2 in
        record { place = place r.0; is = a.0; here = here; some = omega (arith, some, here); kind = a.2 });
  }
