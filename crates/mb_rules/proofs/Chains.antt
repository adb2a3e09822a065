-- The free chain: what the scan goes through are its blocks, and its tests hold exactly where it is a chain.
use Rattle.std.proofs.Common.{◌≡◌, inl, inr, ℕ, zero, suc, ◌+◌, ◌-◌, ◌<◌, ◌≤◌, List, [], ◌∷◌, ◌++◌, true, false, nat_eq, nat_le, nat_lt, length, cond, refl, sym, ap, subst, ◌∙◌, ◌||◌, arith, append_assoc, length-append}
use Rattle.std.specs.List.{IsDistinct, AllByRecursion}
use Rattle.std.specs.List.Sorted.{IsPermutation}
use Rattle.std.proofs.lemmas.List.{append-nil}
use Rattle.std.proofs.lemmas.List.Sorted.{IsPermutation-refl, IsPermutation-trans, IsPermutation-sym, IsPermutation-middle, IsPermutation-append_left, IsPermutation-append_comm}
use Rattle.std.proofs.lemmas.Bool.Decides.{nat_tests, eqb_tells}
use Rattle.std.proofs.lemmas.Map.Steps.{length-le_from_distinct_below}
use Rattle.mb_word.specs.Fields.{isize_of, fsize_of, chain_count}
use Rattle.mb_tree.specs.Blocks.{list_in}
use Rattle.mb_tree.specs.Chain.{Listed, after_taking, IsChain}
use Rattle.mb_tree.specs.Volume.{IsOpenToFiles}
use Rattle.mb_rules.specs.Items.{Item, is_met, each_from}
use Rattle.mb_rules.specs.FreeChain.{is_open, free_items, next_items, list_items}
use Rattle.mb_rules.specs.TreeOf.{upper, next_chain, chain_in}
use Rattle.mb_rules.proofs.Walks.{AllHold, met_after, both, met_append, hold_append, hold_left, hold_right, each_hold, hold_each, each_last, once_before}

-- ---- what is met

module _ (blocks : ℕ → List ℕ) (holder : ℕ) where
  pub met_upper : (entry : ℕ → ℕ) (n : ℕ) (met : List ℕ) → met_after met (each_from (λ place. free_items blocks holder (entry place)) 1 n) ≡ upper entry n ++ met
  unfolding each_from upper
  met_upper entry zero met = refl
  met_upper entry (suc n) met =
      let items : ℕ → List Item = λ place. free_items blocks holder (entry place) in
      let next : 1 + n ≡ suc n = omega arith in
      ap (met_after met) (each_last items 1 n ∙ ap (λ k. each_from items 1 n ++ items k) next)
      ∙ met_append met (each_from items 1 n) (items (suc n))
      ∙ ap (λ xs. entry (suc n) ∷ xs) (met_upper entry n met)

-- the last address of a list stands before those of the lists after it
moved : (xs ys met : List ℕ) (block : ℕ) → IsPermutation (ys ++ (block ∷ (xs ++ met))) ((xs ++ (block ∷ ys)) ++ met)
moved xs ys met block =
    let one : IsPermutation (ys ++ (block ∷ xs)) ((block ∷ xs) ++ ys) = IsPermutation-append_comm ys (block ∷ xs) in
    let two : IsPermutation (block ∷ (xs ++ ys)) (xs ++ (block ∷ ys)) = IsPermutation-sym _ _ (IsPermutation-middle xs block ys) in
    let three : IsPermutation (ys ++ (block ∷ xs)) (xs ++ (block ∷ ys)) = IsPermutation-trans _ (block ∷ (xs ++ ys)) _ one two in
    subst (λ zs. IsPermutation zs ((xs ++ (block ∷ ys)) ++ met)) (append_assoc ys (block ∷ xs) met) (IsPermutation-append_left met _ _ three)

module _ (blocks : ℕ → List ℕ) where
  met_next : (lists : ℕ) → ((holder : ℕ) (it : Listed) (met : List ℕ) → IsPermutation (met_after met (list_items blocks lists holder it)) (chain_in blocks lists it ++ met))
      → (holder count entry : ℕ) (xs met : List ℕ)
      → IsPermutation (met_after (xs ++ met) (next_items blocks (λ block. list_items blocks lists block (list_in blocks block)) holder count entry)) ((xs ++ next_chain (λ block. chain_in blocks lists (list_in blocks block)) count entry) ++ met)
  met_next lists deeper holder zero entry xs met = subst (λ ys. IsPermutation (xs ++ met) (ys ++ met)) (sym (append-nil xs)) (IsPermutation-refl (xs ++ met))
  met_next lists deeper holder (suc more) zero xs met = subst (λ ys. IsPermutation (xs ++ met) (ys ++ met)) (sym (append-nil xs)) (IsPermutation-refl (xs ++ met))
  met_next lists deeper holder (suc more) (suc before) xs met =
      IsPermutation-trans _ _ _ (deeper (suc before) (list_in blocks (suc before)) (suc before ∷ (xs ++ met)))
      (moved xs (chain_in blocks lists (list_in blocks (suc before))) met (suc before))

  pub met_lists : (lists holder : ℕ) (it : Listed) (met : List ℕ) → IsPermutation (met_after met (list_items blocks lists holder it)) (chain_in blocks lists it ++ met)
  unfolding list_items chain_in
  met_lists zero holder it met = IsPermutation-refl met
  met_lists (suc lists) holder it met =
      let first : List Item = each_from (λ place. free_items blocks holder (it.entry place)) 1 (it.count - 1) in
      let later : List Item = next_items blocks (λ block. list_items blocks lists block (list_in blocks block)) holder it.count (it.entry 0) in
      let whole : met_after met (first ++ later) ≡ met_after (upper it.entry (it.count - 1) ++ met) later =
      met_append met first later ∙ ap (λ ys. met_after ys later) (met_upper blocks holder it.entry (it.count - 1) met) in
      subst (λ ys. IsPermutation ys ((upper it.entry (it.count - 1) ++ next_chain (λ block. chain_in blocks lists (list_in blocks block)) it.count (it.entry 0)) ++ met)) (sym whole)
      (met_next lists (met_lists lists) holder it.count (it.entry 0) (upper it.entry (it.count - 1)) met)

-- ---- tests that hold make a chain

-- an address of a list that is open is no hole
abbrev pub AreOpen : (ℕ → List ℕ) → List ℕ → Type 0
AreOpen blocks chain = AllByRecursion (IsOpenToFiles blocks) chain

module _ (blocks : ℕ → List ℕ) (low : 3 ≤ isize_of (blocks 1)) where
  pub open_is : (address : ℕ) → is_open blocks address ≡ true → IsOpenToFiles blocks address
  open_is address h =
      let two = both (nat_le (isize_of (blocks 1)) address) (nat_lt address (fsize_of (blocks 1))) h in
      let from = two.0 in
      let below = two.1 in
      record { from = grind (arith, nat_tests); below = grind (arith, nat_tests) }

  pub is_open_to : (address : ℕ) → IsOpenToFiles blocks address → is_open blocks address ≡ true
  is_open_to address h =
      let from = h.from in
      let below = h.below in
      let one : nat_le (isize_of (blocks 1)) address ≡ true = grind (arith, nat_tests) in
      let two : nat_lt address (fsize_of (blocks 1)) ≡ true = grind (arith, nat_tests) in
      rw (one, two) refl

  real : (address : ℕ) → IsOpenToFiles blocks address → 0 < address
  real address h = let from = h.from in omega arith

  -- the places of a list above 0, then the list that is left
  chain_upper : (entry : ℕ → ℕ) (n : ℕ) (rest : List ℕ) → suc n ≤ 50 → ((place : ℕ) → 1 ≤ place → place < 1 + n → IsOpenToFiles blocks (entry place))
      → IsChain (list_in blocks) (record { count = 1; entry = entry }) rest → IsChain (list_in blocks) (record { count = suc n; entry = entry }) (upper entry n ++ rest)
  unfolding upper after_taking
  chain_upper entry zero rest few all has = has
  chain_upper entry (suc n) rest few all has =
      let here : suc (suc n) - 1 ≡ suc n = omega arith in
      let not_last : nat_eq (suc (suc n)) 1 ≡ false = grind (arith, nat_tests) in
      let within : IsOpenToFiles blocks (entry (suc n)) = all (suc n) (omega arith) (omega arith) in (
        record { some = omega arith; few = few; here = ap entry here; real = real (entry (suc n)) within },
        rw (not_last, here) (chain_upper entry n rest (omega arith) (λ place a b. all place a (omega arith)) has),
      )

  pub upper_open : (entry : ℕ → ℕ) (n : ℕ) → ((place : ℕ) → 1 ≤ place → place < 1 + n → IsOpenToFiles blocks (entry place)) → AreOpen blocks (upper entry n)
  unfolding upper
  upper_open entry zero all = tt
  upper_open entry (suc n) all = (all (suc n) (omega arith) (omega arith), upper_open entry n (λ place a b. all place a (omega arith)))

  open_append : (xs ys : List ℕ) → AreOpen blocks xs → AreOpen blocks ys → AreOpen blocks (xs ++ ys)
  open_append [] ys one two = two
  open_append (x ∷ xs) ys one two = (one.0, open_append xs ys one.1 two)

  pub open_below : (xs : List ℕ) (q : ℕ) → AreOpen blocks xs → is_met xs q ≡ true → q < fsize_of (blocks 1)
  open_below [] q all h = absurd (cc)
  open_below (x ∷ xs) q all h =
      elim (nat_eq q x) as (λ b. nat_eq q x ≡ b → (b || is_met xs q) ≡ true → q < fsize_of (blocks 1)) [
        | true ↦ λ same met. let e : q ≡ x = grind (arith, nat_tests) in let below = all.0.below in omega arith
        | false ↦ λ apart met. open_below xs q all.1 met
      ] refl h

  -- what is met is below the first address past the volume
  abbrev pub AreBelow : List ℕ → Type 0
  AreBelow met = (q : ℕ) → is_met met q ≡ true → q < fsize_of (blocks 1)

  pub below_append : (xs ys : List ℕ) → AreOpen blocks xs → AreBelow ys → AreBelow (xs ++ ys)
  below_append [] ys all below q h = below q h
  below_append (x ∷ xs) ys all below q h =
      elim (nat_eq q x) as (λ b. nat_eq q x ≡ b → (b || is_met (xs ++ ys) q) ≡ true → q < fsize_of (blocks 1)) [
        | true ↦ λ same met. let e : q ≡ x = grind (arith, nat_tests) in let bound = all.0.below in omega arith
        | false ↦ λ apart met. below_append xs ys all.1 below q met
      ] refl h

  abbrev pub lists_of : ℕ → ℕ → List Item
  lists_of lists block = list_items blocks lists block (list_in blocks block)

  abbrev pub chains_of : ℕ → ℕ → List ℕ
  chains_of lists block = chain_in blocks lists (list_in blocks block)

  -- the tests of so many lists at most make a chain, as there are more lists than blocks that are not yet met
  abbrev pub MakesChain : ℕ → Type 0
  MakesChain lists = (holder : ℕ) (it : Listed) (met : List ℕ) → it.count ≤ 50 → AllHold (list_items blocks lists holder it)
      → IsDistinct nat_eq (met_after met (list_items blocks lists holder it)) → AreBelow met → fsize_of (blocks 1) < lists + length met
      → IsChain (list_in blocks) it (chain_in blocks lists it) × AreOpen blocks (chain_in blocks lists it)

  free_open : (holder address : ℕ) → AllHold (free_items blocks holder address) → IsOpenToFiles blocks address
  free_open holder address h = open_is address h.0

  makes_next : (lists : ℕ) → MakesChain lists → (holder more z : ℕ) (entry : ℕ → ℕ) (met : List ℕ) → entry 0 ≡ z → suc more ≤ 50
      → ((place : ℕ) → 1 ≤ place → place < 1 + more → IsOpenToFiles blocks (entry place))
      → AllHold (next_items blocks (lists_of lists) holder (suc more) z) → IsDistinct nat_eq (met_after (upper entry more ++ met) (next_items blocks (lists_of lists) holder (suc more) z))
      → AreBelow met → fsize_of (blocks 1) < suc lists + length met
      → IsChain (list_in blocks) (record { count = suc more; entry = entry }) (upper entry more ++ next_chain (chains_of lists) (suc more) z)
      × AreOpen blocks (upper entry more ++ next_chain (chains_of lists) (suc more) z)
  unfolding after_taking
  makes_next lists deeper holder more zero entry met here few all hold once below room =
      (chain_upper entry more [] few all (inr (refl, here)), open_append (upper entry more) [] (upper_open entry more all) tt)
  makes_next lists deeper holder more (suc before) entry met here few all hold once below room =
      let within : IsOpenToFiles blocks (suc before) = open_is (suc before) hold.0 in
      let uppers = upper_open entry more all in
      let count : chain_count (blocks (suc before)) ≤ 50 = (let test = hold.1.0 in grind (arith, nat_tests)) in
      let enough : fsize_of (blocks 1) < lists + length (suc before ∷ (upper entry more ++ met)) = rw length-append (omega arith) in
      let rest = deeper (suc before) (list_in blocks (suc before)) (suc before ∷ (upper entry more ++ met)) count hold.1.1 once (below_append (suc before ∷ upper entry more) met (within, uppers) below) enough in (
        chain_upper entry more _ few all (record { some = omega arith; few = omega arith; here = here; real = omega arith }, rest.0),
        open_append (upper entry more) _ uppers (within, rest.1),
      )

  makes_list : (lists : ℕ) → MakesChain lists → (holder count : ℕ) (entry : ℕ → ℕ) (met : List ℕ) → count ≤ 50
      → AllHold (list_items blocks (suc lists) holder (record { count = count; entry = entry }))
      → IsDistinct nat_eq (met_after met (list_items blocks (suc lists) holder (record { count = count; entry = entry }))) → AreBelow met → fsize_of (blocks 1) < suc lists + length met
      → IsChain (list_in blocks) (record { count = count; entry = entry }) (chain_in blocks (suc lists) (record { count = count; entry = entry }))
      × AreOpen blocks (chain_in blocks (suc lists) (record { count = count; entry = entry }))
  unfolding list_items chain_in upper
  makes_list lists deeper holder zero entry met few hold once below room = (inl refl, tt)
  makes_list lists deeper holder (suc more) entry met few hold once below room =
      let items : ℕ → List Item = λ place. free_items blocks holder (entry place) in
      let later : List Item = next_items blocks (lists_of lists) holder (suc more) (entry 0) in
      let same : suc more - 1 ≡ more = omega arith in
      let hold_all : AllHold (each_from items 1 more ++ later) = subst (λ n. AllHold (each_from items 1 n ++ later)) same hold in
      let once_all : IsDistinct nat_eq (met_after met (each_from items 1 more ++ later)) = subst (λ n. IsDistinct nat_eq (met_after met (each_from items 1 n ++ later))) same once in
      let met_all : met_after met (each_from items 1 more ++ later) ≡ met_after (upper entry more ++ met) later =
      met_append met (each_from items 1 more) later ∙ ap (λ ys. met_after ys later) (met_upper blocks holder entry more met) in
      let all : (place : ℕ) → 1 ≤ place → place < 1 + more → IsOpenToFiles blocks (entry place) =
      λ place a b. free_open holder (entry place) (hold_each items 1 more (hold_left (each_from items 1 more) later hold_all) place a b) in
      let made = makes_next lists deeper holder more (entry 0) entry met refl few all (hold_right (each_from items 1 more) later hold_all) (subst (IsDistinct nat_eq) met_all once_all) below room in
      subst (λ n. IsChain (list_in blocks) (record { count = suc more; entry = entry }) (upper entry n ++ next_chain (chains_of lists) (suc more) (entry 0)) × AreOpen blocks (upper entry n ++ next_chain (chains_of lists) (suc more) (entry 0)))
      (sym same) made

  pub makes_chain : (lists : ℕ) → MakesChain lists
  makes_chain zero holder it met few hold once below room =
      let bound : length met ≤ fsize_of (blocks 1) = length-le_from_distinct_below met (fsize_of (blocks 1)) (once_before met (list_items blocks zero holder it) once) below in
      absurd (omega arith)
  makes_chain (suc lists) holder it met few hold once below room = makes_list lists (makes_chain lists) holder it.count it.entry met few hold once below room

  -- ---- and a chain makes the tests hold

  open_left : (xs ys : List ℕ) → AreOpen blocks (xs ++ ys) → AreOpen blocks xs
  open_left [] ys all = tt
  open_left (x ∷ xs) ys all = (all.0, open_left xs ys all.1)

  open_right : (xs ys : List ℕ) → AreOpen blocks (xs ++ ys) → AreOpen blocks ys
  open_right [] ys all = all
  open_right (x ∷ xs) ys all = open_right xs ys all.1

  open_upper : (entry : ℕ → ℕ) (n : ℕ) → AreOpen blocks (upper entry n) → (place : ℕ) → 1 ≤ place → place < 1 + n → IsOpenToFiles blocks (entry place)
  unfolding upper
  open_upper entry zero all place a b = absurd (omega arith)
  open_upper entry (suc n) all place a b =
      elim (eqb_tells place (suc n)) [
        | inl here ↦ subst (λ k. IsOpenToFiles blocks (entry k)) (sym here.1) all.0
        | inr apart ↦ let other = apart.1 in open_upper entry n all.1 place a (omega arith)
      ]

  -- a list whose places above 0 were taken
  pub record Splits (entry : ℕ → ℕ) (n : ℕ) (chain : List ℕ) : Type 0 where
    pub rest : List ℕ
    pub whole : chain ≡ upper entry n ++ rest
    pub last : IsChain (list_in blocks) (record { count = 1; entry = entry }) rest

  splits : (entry : ℕ → ℕ) (n : ℕ) (chain : List ℕ) → IsChain (list_in blocks) (record { count = suc n; entry = entry }) chain → Splits entry n chain
  unfolding upper after_taking
  splits entry zero chain has = record { rest = chain; whole = refl; last = has }
  splits entry (suc n) [] (inl none) = absurd (omega arith)
  splits entry (suc n) [] (inr last) = absurd (let one = last.0 in omega arith)
  splits entry (suc n) (block ∷ chain) has =
      let here : suc (suc n) - 1 ≡ suc n = omega arith in
      let not_last : nat_eq (suc (suc n)) 1 ≡ false = grind (arith, nat_tests) in
      let left : IsChain (list_in blocks) (record { count = suc n; entry = entry }) chain =
      subst (λ k. IsChain (list_in blocks) (record { count = k; entry = entry }) chain) here
      (subst (λ b. IsChain (list_in blocks) (cond b (list_in blocks block) (record { count = suc (suc n) - 1; entry = entry })) chain) not_last has.1) in
      let more = splits entry n chain left in
      let same : entry (suc n) ≡ block = ap entry (sym here) ∙ has.0.here in
      record { rest = more.rest; whole = ap (λ b. b ∷ chain) (sym same) ∙ ap (λ xs. entry (suc n) ∷ xs) more.whole; last = more.last }

  few_listed : (it : Listed) (chain : List ℕ) → IsChain (list_in blocks) it chain → it.count ≤ 50
  few_listed it [] (inl none) = omega arith
  few_listed it [] (inr last) = let one = last.0 in omega arith
  few_listed it (block ∷ chain) has = has.0.few

  abbrev pub HoldsFor : ℕ → Type 0
  HoldsFor lists = (holder : ℕ) (it : Listed) (chain : List ℕ) → IsChain (list_in blocks) it chain → AreOpen blocks chain → length chain < lists
      → AllHold (list_items blocks lists holder it) × (chain_in blocks lists it ≡ chain)

  holds_next : (lists : ℕ) → HoldsFor lists → (holder more : ℕ) (entry : ℕ → ℕ) (rest : List ℕ) → IsChain (list_in blocks) (record { count = 1; entry = entry }) rest → AreOpen blocks rest → length rest < suc lists
      → AllHold (next_items blocks (lists_of lists) holder (suc more) (entry 0)) × (next_chain (chains_of lists) (suc more) (entry 0) ≡ rest)
  unfolding after_taking
  holds_next lists deeper holder more entry [] (inl none) within room = absurd (omega arith)
  holds_next lists deeper holder more entry [] (inr last) within room =
      subst (λ z. AllHold (next_items blocks (lists_of lists) holder (suc more) z) × (next_chain (chains_of lists) (suc more) z ≡ [])) (sym last.1) (tt, refl)
  holds_next lists deeper holder more entry (zero ∷ rest) has within room = absurd (let some = has.0.real in omega arith)
  holds_next lists deeper holder more entry (suc before ∷ rest) has within room =
      let few = few_listed (list_in blocks (suc before)) rest has.1 in
      let test : nat_le (chain_count (blocks (suc before))) 50 ≡ true = grind (arith, nat_tests) in
      let left = deeper (suc before) (list_in blocks (suc before)) rest has.1 within.1 (omega arith) in
      subst (λ z. AllHold (next_items blocks (lists_of lists) holder (suc more) z) × (next_chain (chains_of lists) (suc more) z ≡ suc before ∷ rest)) (sym has.0.here)
      ((is_open_to (suc before) within.0, (test, left.0)), ap (λ xs. suc before ∷ xs) left.1)

  holds_list : (lists : ℕ) → HoldsFor lists → (holder count : ℕ) (entry : ℕ → ℕ) (chain : List ℕ) → IsChain (list_in blocks) (record { count = count; entry = entry }) chain → AreOpen blocks chain → length chain < suc lists
      → AllHold (list_items blocks (suc lists) holder (record { count = count; entry = entry })) × (chain_in blocks (suc lists) (record { count = count; entry = entry }) ≡ chain)
  unfolding list_items chain_in upper each_from
  holds_list lists deeper holder zero entry [] has within room = (tt, refl)
  holds_list lists deeper holder zero entry (block ∷ chain) has within room = absurd (let some = has.0.some in omega arith)
  holds_list lists deeper holder (suc more) entry chain has within room =
      let items : ℕ → List Item = λ place. free_items blocks holder (entry place) in
      let same : suc more - 1 ≡ more = omega arith in
      let parts = splits entry more chain has in
      let both_open : AreOpen blocks (upper entry more ++ parts.rest) = subst (AreOpen blocks) parts.whole within in
      let shorter : length chain ≡ length (upper entry more) + length parts.rest = ap length parts.whole ∙ length-append (upper entry more) parts.rest in
      let next = holds_next lists deeper holder more entry parts.rest parts.last (open_right (upper entry more) parts.rest both_open) (omega arith) in
      let all = open_upper entry more (open_left (upper entry more) parts.rest both_open) in
      let each : AllHold (each_from items 1 more) = each_hold items 1 more (λ place a b. (is_open_to (entry place) (all place a b), tt)) in
      subst (λ n. AllHold (each_from items 1 n ++ next_items blocks (lists_of lists) holder (suc more) (entry 0)) × (upper entry n ++ next_chain (chains_of lists) (suc more) (entry 0) ≡ chain)) (sym same)
      (hold_append (each_from items 1 more) _ each next.0, ap (λ xs. upper entry more ++ xs) next.1 ∙ sym parts.whole)

  pub chain_holds : (lists : ℕ) → HoldsFor lists
  chain_holds zero holder it chain has within room = absurd (omega arith)
  chain_holds (suc lists) holder it chain has within room = holds_list lists (chain_holds lists) holder it.count it.entry chain has within room
