-- A map copied key by key.
use Rattle.std.proofs.Common.{◌≡◌, inl, inr, ℕ, ◌+◌, ◌<◌, ◌≤◌, Bool, true, false, ◌||◌, if◌then◌else◌, List, [], ◌∷◌, length, take, get_or, map, refl, sym, ap, ◌∙◌, arith, Option, Some, None, is_some, nat_eq}
use Rattle.std.proofs.lemmas.List.{take_all}
use Rattle.std.proofs.lemmas.List.Folds.{list_any_more}
use Rattle.std.proofs.Math.Bool.{or-true, or-false}
use Rattle.std.proofs.lemmas.Bool.Decides.{nat_tests}
use Rattle.std.specs.FinMap as fin
use Rattle.std.specs.FinMap.{contains_key-keys, get-empty}
use Rattle.std.specs.List.{list_any}
use Rattle.std.specs.List.Sorted.{IsStrictlySortedBy}
use Rattle.std.specs.Cmp.{unsigned_tied}
use Rattle.std.specs.Ordering.{nat_cmp, eq_by_cmp}
use Rattle.mb_tree.proofs.FiniteMaps.{Numbered, same, get_here, get_there, one_or_not, entries_view}

any_tied : (q : ℕ) (ks : List ℕ) → list_any (eq_by_cmp nat_cmp q) ks ≡ list_any (nat_eq q) ks
any_tied q [] = refl
any_tied q (k ∷ ks) = λ i. unsigned_tied q k i || any_tied q ks i

module _ {X : Type 0} where
  pub keys_view : (es : List (ℕ × X)) (ks : List ℕ) (m : Numbered X) → fin.from_entries es ≡ m → IsStrictlySortedBy nat_cmp (map (λ e. e.0) es) → ks ≡ map (λ e. e.0) es → ks ≡ fin.keys m
  keys_view es ks m e h k = k ∙ ap (map (λ e. e.0)) (sym (entries_view es h)) ∙ ap fin.keys e

  pub copied_none : (m : Numbered X) (empty : Numbered X) → empty ≡ fin.empty → (q : ℕ) → fin.get empty q ≡ None
  copied_none m empty e q = ap (λ n. fin.get n q) e ∙ get-empty nat_cmp q

  pub copied_more : (m copy next : Numbered X) (ks : List ℕ) (i d : ℕ) (v w : X) → i < length ks → fin.get m (get_or ks i d) ≡ Some v → w ≡ v → next ≡ fin.insert copy (get_or ks i d) w
      → ((q : ℕ) → fin.get copy q ≡ (if list_any (nat_eq q) (take i ks) then fin.get m q else None))
      → (q : ℕ) → fin.get next q ≡ (if list_any (nat_eq q) (take (i + 1) ks) then fin.get m q else None)
  copied_more m copy next ks i d v w h has is_copy n inv q =
      let k : ℕ = get_or ks i d in
      let more : (p : ℕ → Bool) → list_any p (take (i + 1) ks) ≡ (list_any p (take i ks) || p k) = λ p. list_any_more p ks i d h in
      let hit : nat_eq k k ≡ true = grind (arith, nat_tests) in
      let here : list_any (nat_eq k) (take (i + 1) ks) ≡ true = more (nat_eq k) ∙ ap (λ b. list_any (nat_eq k) (take i ks) || b) hit ∙ or-true _ in
      ap (λ m. fin.get m q) n ∙ elim (one_or_not q k) [
        | inl is ↦ rw is (get_here copy k w ∙ ap Some is_copy ∙ sym has ∙ ap (λ b. if b then fin.get m k else None) (sym here))
        | inr not ↦
            let miss : nat_eq q k ≡ false = grind (arith, nat_tests) in
            let as_before : list_any (nat_eq q) (take (i + 1) ks) ≡ list_any (nat_eq q) (take i ks) = more (nat_eq q) ∙ ap (λ b. list_any (nat_eq q) (take i ks) || b) miss ∙ or-false _ in
            get_there copy k w q not ∙ inv q ∙ ap (λ b. if b then fin.get m q else None) (sym as_before)
      ]

  kept : (b : Bool) (o : Option X) → is_some o ≡ b → (if b then o else None) ≡ o
  kept true o e = refl
  kept false None e = refl
  kept false (Some x) e = cc

  pub copied_all : (m copy : Numbered X) (ks : List ℕ) (i : ℕ) → ks ≡ fin.keys m → length ks ≤ i
      → ((q : ℕ) → fin.get copy q ≡ (if list_any (nat_eq q) (take i ks) then fin.get m q else None)) → copy ≡ m
  copied_all m copy ks i e h inv = same copy m (λ q.
      inv q ∙ ap (λ l. if list_any (nat_eq q) l then fin.get m q else None) (take_all i ks h ∙ e)
      ∙ kept _ _ (contains_key-keys m q ∙ any_tied q (fin.keys m)))
