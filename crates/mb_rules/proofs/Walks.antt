-- A walk goes through exactly where all tests hold and each address is met once.
use Rattle.std.proofs.Common.{◌≡◌, ℕ, zero, suc, ◌+◌, ◌<◌, ◌≤◌, ◌⊎◌, inl, inr, List, [], ◌∷◌, ◌++◌, Bool, true, false, ◌||◌, ◌&&◌, nat_eq, Result, Ok, Err, refl, sym, ap, subst, ◌∙◌, arith, append_assoc}
use Rattle.std.proofs.lemmas.List.{append-nil}
use Rattle.std.proofs.lemmas.Bool.Decides.{leb_tells}
use Rattle.std.specs.List.{AllByRecursion, IsDistinct}
use Rattle.std.proofs.lemmas.Map.Keys.{IsDistinct-head, IsDistinct-tail, IsDistinct-cons}
use Rattle.mb_rules.specs.Items.{Finding, Item, Holds, Held, is_met, walked, walked_on, each_from}

abbrev pub AllHold : List Item → Type 0
AllHold [] = Unit {0}
AllHold (Holds test block rule ∷ items) = (test ≡ true) × AllHold items
AllHold (Held address ∷ items) = AllHold items

-- the addresses met in the end, the last one first
abbrev pub met_after : List ℕ → List Item → List ℕ
met_after met [] = met
met_after met (Holds test block rule ∷ items) = met_after met items
met_after met (Held address ∷ items) = met_after (address ∷ met) items

pub both : (a b : Bool) → (a && b) ≡ true → (a ≡ true) × (b ≡ true)
both true b h = (refl, h)
both false b h = absurd (cc)

pub neither : (a b : Bool) → (a || b) ≡ false → (a ≡ false) × (b ≡ false)
neither true b h = absurd (cc)
neither false b h = (refl, h)

pub apart_all : (address : ℕ) (met : List ℕ) → is_met met address ≡ false → AllByRecursion (λ y. nat_eq address y ≡ false) met
apart_all address [] h = tt
apart_all address (x ∷ xs) h = let two = neither (nat_eq address x) (is_met xs address) h in (two.0, apart_all address xs two.1)

pub all_apart : (address : ℕ) (met : List ℕ) → AllByRecursion (λ y. nat_eq address y ≡ false) met → is_met met address ≡ false
all_apart address [] h = refl
all_apart address (x ∷ xs) h = rw (h.0, all_apart address xs h.1) refl

-- ---- where a walk ends well

walked_true : (met : List ℕ) (test : Bool) (block rule : ℕ) (items : List Item) (ys : List ℕ) → walked met (Holds test block rule ∷ items) ≡ Ok ys → (test ≡ true) × (walked met items ≡ Ok ys)
unfolding walked
walked_true met true block rule items ys h = (refl, h)
walked_true met false block rule items ys h = absurd (cc)

abbrev walked_at : List ℕ → ℕ → List Item → Bool → Result (List ℕ) Finding
walked_at met address items b = elim b [ true ↦ Err (record { block = address; rule = 7 }) | false ↦ walked (address ∷ met) items ]

walked_new : (met : List ℕ) (address : ℕ) (items : List Item) (ys : List ℕ) → walked met (Held address ∷ items) ≡ Ok ys → (is_met met address ≡ false) × (walked (address ∷ met) items ≡ Ok ys)
unfolding walked
walked_new met address items ys h =
    elim (is_met met address) as (λ b. walked_at met address items b ≡ Ok ys → (b ≡ false) × (walked (address ∷ met) items ≡ Ok ys)) [
      | true ↦ λ wrong. absurd (cc)
      | false ↦ λ right. (refl, right)
    ] h

ended : (met ys : List ℕ) → walked met [] ≡ Ok ys → met ≡ ys
unfolding walked
ended met ys h = cc

pub walk_holds : (met : List ℕ) (items : List Item) (ys : List ℕ) → walked met items ≡ Ok ys → AllHold items × (met_after met items ≡ ys)
walk_holds met [] ys h = (tt, ended met ys h)
walk_holds met (Holds test block rule ∷ items) ys h =
    let one = walked_true met test block rule items ys h in
    let rest = walk_holds met items ys one.1 in
    ((one.0, rest.0), rest.1)
walk_holds met (Held address ∷ items) ys h = walk_holds (address ∷ met) items ys (walked_new met address items ys h).1

pub walk_once : (met : List ℕ) (items : List Item) (ys : List ℕ) → walked met items ≡ Ok ys → IsDistinct nat_eq met → IsDistinct nat_eq (met_after met items)
walk_once met [] ys h once = once
walk_once met (Holds test block rule ∷ items) ys h once = walk_once met items ys (walked_true met test block rule items ys h).1 once
walk_once met (Held address ∷ items) ys h once =
    let new = walked_new met address items ys h in
    walk_once (address ∷ met) items ys new.1 (IsDistinct-cons nat_eq address met (apart_all address met new.0) once)

-- ---- and the other way

pub once_before : (met : List ℕ) (items : List Item) → IsDistinct nat_eq (met_after met items) → IsDistinct nat_eq met
once_before met [] once = once
once_before met (Holds test block rule ∷ items) once = once_before met items once
once_before met (Held address ∷ items) once = IsDistinct-tail nat_eq address met (once_before (address ∷ met) items once)

pub walks : (met : List ℕ) (items : List Item) → AllHold items → IsDistinct nat_eq (met_after met items) → walked met items ≡ Ok (met_after met items)
unfolding walked
walks met [] hold once = refl
walks met (Holds test block rule ∷ items) hold once = rw (walked, hold.0) (walks met items hold.1 once)
walks met (Held address ∷ items) hold once =
    let new : is_met met address ≡ false = all_apart address met (IsDistinct-head nat_eq address met (once_before (address ∷ met) items once)) in
    rw (walked, new) (walks (address ∷ met) items hold once)

-- ---- items one after another

pub met_append : (met : List ℕ) (xs ys : List Item) → met_after met (xs ++ ys) ≡ met_after (met_after met xs) ys
met_append met [] ys = refl
met_append met (Holds test block rule ∷ xs) ys = met_append met xs ys
met_append met (Held address ∷ xs) ys = met_append (address ∷ met) xs ys

pub hold_append : (xs ys : List Item) → AllHold xs → AllHold ys → AllHold (xs ++ ys)
hold_append [] ys one two = two
hold_append (Holds test block rule ∷ xs) ys one two = (one.0, hold_append xs ys one.1 two)
hold_append (Held address ∷ xs) ys one two = hold_append xs ys one two

pub hold_left : (xs ys : List Item) → AllHold (xs ++ ys) → AllHold xs
hold_left [] ys all = tt
hold_left (Holds test block rule ∷ xs) ys all = (all.0, hold_left xs ys all.1)
hold_left (Held address ∷ xs) ys all = hold_left xs ys all

pub hold_right : (xs ys : List Item) → AllHold (xs ++ ys) → AllHold ys
hold_right [] ys all = all
hold_right (Holds test block rule ∷ xs) ys all = hold_right xs ys all.1
hold_right (Held address ∷ xs) ys all = hold_right xs ys all

split : (low k : ℕ) → low ≤ k → (low ≡ k) ⊎ (low + 1 ≤ k)
split low k h = elim (leb_tells k low) [ inl now ↦ inl (let le = now.1 in omega arith) | inr later ↦ inr (let lt = later.1 in omega arith) ]

module _ (items : ℕ → List Item) where
  pub each_hold : (low n : ℕ) → ((k : ℕ) → low ≤ k → k < low + n → AllHold (items k)) → AllHold (each_from items low n)
  unfolding each_from
  each_hold low zero all = tt
  each_hold low (suc n) all = hold_append (items low) (each_from items (low + 1) n) (all low (omega arith) (omega arith)) (each_hold (low + 1) n (λ k a b. all k (omega arith) (omega arith)))

  pub hold_each : (low n : ℕ) → AllHold (each_from items low n) → (k : ℕ) → low ≤ k → k < low + n → AllHold (items k)
  unfolding each_from
  hold_each low zero all k a b = absurd (omega arith)
  hold_each low (suc n) all k a b =
      elim (split low k a) [
        | inl here ↦ subst (λ j. AllHold (items j)) here (hold_left (items low) (each_from items (low + 1) n) all)
        | inr past ↦ hold_each (low + 1) n (hold_right (items low) (each_from items (low + 1) n) all) k past (omega arith)
      ]

  pub each_last : (low n : ℕ) → each_from items low (suc n) ≡ each_from items low n ++ items (low + n)
  unfolding each_from
  each_last low zero = append-nil (items low) ∙ (let e : low ≡ low + 0 = omega arith in ap items e)
  each_last low (suc n) =
      let e : (low + 1) + n ≡ low + suc n = omega arith in
      ap (λ xs. items low ++ xs) (each_last (low + 1) n ∙ ap (λ k. each_from items (low + 1) n ++ items k) e)
      ∙ sym (append_assoc (items low) (each_from items (low + 1) n) (items (low + suc n)))

-- two ways on from the same items
pub walk_alike : (met : List ℕ) (xs ys zs : List Item) → ((after : List ℕ) → walked met xs ≡ Ok after → walked after ys ≡ walked after zs) → walked met (xs ++ ys) ≡ walked met (xs ++ zs)
unfolding walked
walk_alike met [] ys zs same = same met refl
walk_alike met (Holds true block rule ∷ xs) ys zs same = walk_alike met xs ys zs same
walk_alike met (Holds false block rule ∷ xs) ys zs same = refl
walk_alike met (Held address ∷ xs) ys zs same =
    elim (is_met met address) as (λ b. ((after : List ℕ) → walked_at met address xs b ≡ Ok after → walked after ys ≡ walked after zs) → walked_at met address (xs ++ ys) b ≡ walked_at met address (xs ++ zs) b) [
      | true ↦ λ alike. refl
      | false ↦ λ alike. walk_alike (address ∷ met) xs ys zs alike
    ] same

pub walk_append : (met : List ℕ) (xs ys : List Item) → walked met (xs ++ ys) ≡ walked_on (walked met xs) ys
unfolding walked
walk_append met [] ys = refl
walk_append met (Holds true block rule ∷ xs) ys = walk_append met xs ys
walk_append met (Holds false block rule ∷ xs) ys = refl
walk_append met (Held address ∷ xs) ys =
    elim (is_met met address) as (λ b. walked_at met address (xs ++ ys) b ≡ walked_on (walked_at met address xs b) ys) [
      | true ↦ refl
      | false ↦ walk_append (address ∷ met) xs ys
    ]
