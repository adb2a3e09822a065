-- Keys dropped one after another where they are lost.
use Rattle.std.proofs.Common.{◌≡◌, ◌≢◌, inl, inr, ℕ, ◌+◌, ◌<◌, ◌≤◌, Bool, true, false, cond, not, ◌&&◌, ◌||◌, if◌then◌else◌, List, length, take, get_or, refl, sym, ap, ◌∙◌, arith, Option, None, nat_eq}
use Rattle.std.proofs.lemmas.List.{take_all}
use Rattle.std.proofs.lemmas.Bool.Decides.{nat_tests}
use Rattle.std.specs.FinMap as fin
use Rattle.std.specs.FinMap.{get-retain_keys, nat_cmp-IsAntisymmetric}
use Rattle.std.specs.List.{list_any}
use Rattle.mb_tree.specs.Maps.{Numbered}
use Rattle.mb_tree.proofs.FiniteMaps.{same, gone_here, gone_there, one_or_not}
use Rattle.std.proofs.lemmas.List.Folds.{list_any_more}
use Rattle.std.proofs.Math.Bool.{or-true, or-false, and-false}

module _ {X : Type 0} (base : Numbered X) (lost : ℕ → Bool) (inos : List ℕ) where
  -- after the first i numbers
  abbrev pub AreDropped : Numbered X → ℕ → Type 0
  AreDropped nodes i = (q : ℕ) → fin.get nodes q ≡ (if list_any (nat_eq q) (take i inos) && lost q then None else fin.get base q)

  abbrev if_lost : ℕ → Bool → Bool → Option X
  if_lost q seen is = if seen && is then None else fin.get base q

  here : (i d q : ℕ) → i < length inos → q ≡ get_or inos i d → list_any (nat_eq q) (take (i + 1) inos) ≡ true
  here i d q h e =
      let hit : nat_eq q (get_or inos i d) ≡ true = grind (arith, nat_tests) in
      list_any_more (nat_eq q) inos i d h ∙ ap (λ b. list_any (nat_eq q) (take i inos) || b) hit ∙ or-true _

  apart : (i d q : ℕ) → i < length inos → q ≢ get_or inos i d → list_any (nat_eq q) (take (i + 1) inos) ≡ list_any (nat_eq q) (take i inos)
  apart i d q h e =
      let miss : nat_eq q (get_or inos i d) ≡ false = grind (arith, nat_tests) in
      list_any_more (nat_eq q) inos i d h ∙ ap (λ b. list_any (nat_eq q) (take i inos) || b) miss ∙ or-false _

  pub none_dropped : (nodes : Numbered X) → nodes ≡ base → AreDropped nodes 0
  none_dropped nodes e q = ap (λ m. fin.get m q) e

  pub one_dropped : (nodes next : Numbered X) (i d key : ℕ) → i < length inos → key ≡ get_or inos i d → lost (get_or inos i d) ≡ true → next ≡ fin.remove nodes key → AreDropped nodes i → AreDropped next (i + 1)
  one_dropped nodes next i d key h k is gone inv q = ap (λ m. fin.get m q) (gone ∙ ap (fin.remove nodes) k) ∙ elim (one_or_not q (get_or inos i d)) [
    | inl e ↦
        let lost_q : lost q ≡ true = ap lost e ∙ is in
        ap (fin.get (fin.remove nodes (get_or inos i d))) e ∙ gone_here nodes (get_or inos i d) ∙ (λ j. if_lost q (sym (here i d q h e) j) (sym lost_q j))
    | inr not ↦ gone_there nodes (get_or inos i d) q not ∙ inv q ∙ ap (λ b. if_lost q b (lost q)) (sym (apart i d q h not))
  ]

  pub one_kept : (nodes : Numbered X) (i d : ℕ) → i < length inos → lost (get_or inos i d) ≡ false → AreDropped nodes i → AreDropped nodes (i + 1)
  one_kept nodes i d h is inv q = inv q ∙ elim (one_or_not q (get_or inos i d)) [
    | inl e ↦
        let lost_q : lost q ≡ false = ap lost e ∙ is in
        ap (λ b. if_lost q (list_any (nat_eq q) (take i inos)) b) lost_q
        ∙ ap (λ b. if b then None else fin.get base q) (and-false (list_any (nat_eq q) (take i inos)) ∙ sym (and-false (list_any (nat_eq q) (take (i + 1) inos))))
        ∙ ap (λ b. if_lost q (list_any (nat_eq q) (take (i + 1) inos)) b) (sym lost_q)
    | inr not ↦ ap (λ b. if_lost q b (lost q)) (sym (apart i d q h not))
  ]

  turned : (b : Bool) (o : Option X) → (if b then None else o) ≡ cond (not b) o None
  turned true o = refl
  turned false o = refl

  pub all_dropped : (nodes : Numbered X) (i : ℕ) → length inos ≤ i → AreDropped nodes i → nodes ≡ fin.retain_keys base (λ ino. not (list_any (nat_eq ino) inos && lost ino))
  all_dropped nodes i h inv = same _ _ (λ q.
      inv q ∙ ap (λ l. if_lost q (list_any (nat_eq q) l) (lost q)) (take_all i inos h) ∙ turned (list_any (nat_eq q) inos && lost q) (fin.get base q)
      ∙ sym (get-retain_keys base (λ ino. not (list_any (nat_eq ino) inos && lost ino)) q (λ x t. ap (λ ino. not (list_any (nat_eq ino) inos && lost ino)) (sym (nat_cmp-IsAntisymmetric q x t)))))
