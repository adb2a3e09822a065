-- The addresses that items meet, as a list of their own: how many they are, and that one inode's are its blocks.
use Rattle.std.proofs.Common.{◌≡◌, inl, inr, ℕ, zero, suc, ◌+◌, ◌-◌, ◌<◌, ◌≤◌, List, [], ◌∷◌, ◌++◌, true, false, nat_eq, length, refl, sym, ap, subst, ◌∙◌, arith, append_assoc, length-append}
use Rattle.std.specs.List.{IsDistinct, Contains, AllByRecursion}
use Rattle.std.proofs.lemmas.Bool.Decides.{nat_tests, Decides-eqb}
use Rattle.std.proofs.lemmas.Map.Keys.{IsDistinct-head, IsDistinct-tail, IsDistinct-cons}
use Rattle.std.proofs.lemmas.Map.Made.{AllPairs-from_IsDistinct}
use Rattle.mb_word.specs.Fields.{inode_block}
use Rattle.mb_tree.specs.Blocks.{pointers}
use Rattle.mb_tree.specs.Counting.{sum_below}
use Rattle.mb_tree.specs.Places.{Place, Top, at, IsPlace}
use Rattle.mb_blocks.specs.Owners.{Enumerates}
use Rattle.mb_blocks.proofs.Groupings.{has_in, in_has}
use Rattle.mb_rules.specs.Items.{Item, Holds, Held, is_met, each_from}
use Rattle.mb_rules.specs.Files.{area_items}
use Rattle.mb_rules.proofs.Walks.{met_after, met_append, each_last}
use Rattle.mb_rules.proofs.Ways.{claimed, claimed_each, claimed_met, met_from, each_claims, claims_way, way_claims, follow}
use Rattle.mb_rules.proofs.Files.{Route, at_extended, extend, own, own_items, route}
use Rattle.mb_rules.proofs.FilesAccepted.{place_extended}

pub met_whole : (items : List Item) (met : List ℕ) → met_after met items ≡ met_after [] items ++ met
met_whole [] met = refl
met_whole (Holds test block rule ∷ items) met = met_whole items met
met_whole (Held address ∷ items) met =
    met_whole items (address ∷ met) ∙ sym (append_assoc (met_after [] items) (address ∷ []) met) ∙ ap (λ xs. xs ++ met) (sym (met_whole items (address ∷ [])))

-- how many addresses items meet
abbrev pub met_count : List Item → ℕ
met_count items = length (met_after [] items)

pub met_length : (items : List Item) (met : List ℕ) → length (met_after met items) ≡ met_count items + length met
met_length items met = ap length (met_whole items met) ∙ length-append (met_after [] items) met

pub count_append : (xs ys : List Item) → met_count (xs ++ ys) ≡ met_count xs + met_count ys
count_append xs ys =
    let both = ap length (met_append [] xs ys) ∙ met_length ys (met_after [] xs) in
    omega (arith, both)

-- the items of the numbers from 1 to n meet as many as g sums up, where 0 has none
pub count_each : (items : ℕ → List Item) (g : ℕ → ℕ) (n : ℕ) → g 0 ≡ 0 → ((k : ℕ) → 1 ≤ k → k ≤ n → met_count (items k) ≡ g k) → met_count (each_from items 1 n) ≡ sum_below g (suc n)
unfolding each_from sum_below
count_each items g zero none each = (let e : 0 ≡ g 0 + 0 = omega (arith, none) in e)
count_each items g (suc n) none each =
    let rest : met_count (each_from items 1 n) ≡ sum_below g (suc n) = count_each items g n none (λ k some low. each k some (omega (arith, low))) in
    let here : met_count (items (1 + n)) ≡ g (suc n) = each (1 + n) (omega arith) (omega arith) ∙ ap g (let e : 1 + n ≡ suc n = omega arith in e) in
    let split : met_count (each_from items 1 (suc n)) ≡ met_count (each_from items 1 n) + met_count (items (1 + n)) = ap met_count (each_last items 1 n) ∙ count_append (each_from items 1 n) (items (1 + n)) in
    let total : met_count (each_from items 1 (suc n)) ≡ g (suc n) + sum_below g (suc n) = omega (arith, rest, here, split) in
    total

-- ---- the front of a list without doubles has none

any_front : (k : ℕ) (xs ys : List ℕ) → AllByRecursion (λ y. nat_eq k y ≡ false) (xs ++ ys) → AllByRecursion (λ y. nat_eq k y ≡ false) xs
any_front k [] ys h = tt
any_front k (x ∷ xs) ys h = (h.0, any_front k xs ys h.1)

pub front_once : (xs ys : List ℕ) → IsDistinct nat_eq (xs ++ ys) → IsDistinct nat_eq xs
unfolding IsDistinct
front_once [] ys h = tt
front_once (x ∷ xs) ys h = IsDistinct-cons nat_eq x xs (any_front x xs ys (IsDistinct-head nat_eq x (xs ++ ys) h)) (front_once xs ys (IsDistinct-tail nat_eq x (xs ++ ys) h))

pub alone_once : (items : List Item) (met : List ℕ) → IsDistinct nat_eq (met_after met items) → IsDistinct nat_eq (met_after [] items)
alone_once items met once = front_once (met_after [] items) met (subst (IsDistinct nat_eq) (met_whole items met) once)

-- ---- what one inode's area claims are the blocks that it holds

module _ (blocks : ℕ → List ℕ) (ino : ℕ) where
  abbrev held : List ℕ
  held = met_after [] (area_items blocks ino)

  owner : (i : ℕ) → nat_eq ino i ≡ true → i ≡ ino
  owner i t = grind (arith, nat_tests)

  same_ino : nat_eq ino ino ≡ true
  same_ino = grind (arith, nat_tests)

  all_claimed : (q : Place) (to : Route blocks (nat_eq ino) q) → 0 < at (pointers blocks) q → Contains held (at (pointers blocks) q)
  all_claimed q to some =
      let leads : at (pointers blocks) q ≡ follow blocks (own blocks to.ino to.place) to.ways = ap (at (pointers blocks)) (sym to.ends) ∙ at_extended blocks (Top to.ino to.place) to.ways in
      let small = to.small in
      let one = claims_way blocks to.ways (to.place - 9) (inode_block to.ino) (own blocks to.ino to.place) to.way (omega (arith, leads, some)) in
      let area : claimed (area_items blocks to.ino) (follow blocks (own blocks to.ino to.place) to.ways) ≡ true =
      claimed_each (own_items blocks to.ino) 0 13 to.place (follow blocks (own blocks to.ino to.place) to.ways) (omega arith) (omega (arith, small)) one in
      let mine : claimed (area_items blocks ino) (at (pointers blocks) q) ≡ true =
      subst (λ i. claimed (area_items blocks i) (at (pointers blocks) q) ≡ true) (owner to.ino to.addressed) (subst (λ x. claimed (area_items blocks to.ino) x ≡ true) (sym leads) area) in
      in_has held (at (pointers blocks) q) (claimed_met (area_items blocks ino) [] (at (pointers blocks) q) mine)

  only_claimed : (block : ℕ) → claimed (area_items blocks ino) block ≡ true → (0 < block) × (q : Place) × IsPlace (nat_eq ino) q × (at (pointers blocks) q ≡ block)
  only_claimed block h =
      let top = each_claims (own_items blocks ino) 0 13 block h in
      let below = top.below in
      let way = way_claims blocks (top.number - 9) (inode_block ino) (own blocks ino top.number) block top.claims in (
        way.some,
        extend (Top ino top.number) way.places,
        place_extended (nat_eq ino) (Top ino top.number) (top.number - 9) way.places refl (same_ino, omega (arith, below)) way.way,
        at_extended blocks (Top ino top.number) way.places ∙ way.leads,
      )

  claimed_alone : (block : ℕ) → is_met held block ≡ true → claimed (area_items blocks ino) block ≡ true
  claimed_alone block h = elim (met_from (area_items blocks ino) [] block h) [ inl is ↦ is | inr wrong ↦ absurd (cc) ]

  pub area_enumerates : IsDistinct nat_eq held → Enumerates blocks ino held
  area_enumerates once = record {
    once = AllPairs-from_IsDistinct Decides-eqb held once;
    all = λ q is some. all_claimed q (route blocks (nat_eq ino) q is) some;
    only = λ block among. only_claimed block (claimed_alone block (has_in held block among));
  }
