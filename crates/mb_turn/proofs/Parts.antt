-- Making the table, cutting a seat in two and making two seats one keep the rule; and what is known at the end.
use Rattle.std.proofs.Common.{◌≡◌, ◌≢◌, ℕ, zero, suc, ◌+◌, ◌<◌, ◌≤◌, eqb, ne_eqb, Bool, true, false, List, [], ◌∷◌, ◌++◌, length, length-append, get_or, set, sym, ap, refl, ◌∙◌, ⊎_elim, subst, arith}
use Rattle.std.specs.Prelude.{Option, Some}
use Rattle.std.proofs.lemmas.Bool.Decides.{eqb_tells}
use mathlib.Core.Option.{some, some-injective, some-ne-none}
use lib.ListN.{get_elem?}
use Rattle.atomic_table.specs.Table.{State, Splits, Joins, opening, Final, Seen}
use Rattle.atomic_table.proofs.Lists.{at_set, at_snoc}
use Rattle.mb_kinds.specs.declared.Entry.{Entry}
use Rattle.mb_kinds.specs.declared.Stand.{Stand}
use Rattle.mb_turn.specs.Passes.{EachIn, Follows}
use Rattle.mb_turn.specs.Rule.{total, one_if, width, holding, shares, sights_from, first_view, Fits, Kept}
use Rattle.mb_turn.specs.Steps.{head_sights, tail_sights, head_of, tail_of, both_of, blank}
use Rattle.mb_turn.specs.declared.sight.LastSeen.{LastSeen}
use Rattle.mb_turn.specs.declared.sight.SeatView.{SeatView}
use Rattle.mb_turn.specs.declared.sight.Key.{Key}
use Rattle.mb_turn.proofs.Sums.{total_set, total_append, total_two, total_some}
use Rattle.mb_turn.proofs.Lists.{each_append}
use Rattle.mb_turn.proofs.Knowing.{follows_itself}
use Rattle.mb_turn.proofs.Views.{one_holds}

module _ {A : Type 0} (f : A → ℕ) where
  -- a sum stays where an element is cut in two, and where two are made one
  cut_total : (xs : List A) (id : ℕ) (v l r : A) → get_elem? xs id ≡ some v → f l + f r ≡ f v → total f (set xs id l ++ r ∷ []) ≡ total f xs
  cut_total xs id v l r at parts = let a = total_append f (set xs id l) (r ∷ []) in let b = total_set f xs id v l at in omega arith

  join_total : (xs : List A) (id other : ℕ) (v w both spent : A) → get_elem? xs id ≡ some v → get_elem? (set xs id both) other ≡ some w → f both + f spent ≡ f v + f w
      → total f (set (set xs id both) other spent) ≡ total f xs
  join_total xs id other v w both spent at at' parts = let a = total_set f xs id v both at in let b = total_set f (set xs id both) other w spent at' in omega arith

one_at_most : (b : Bool) → one_if b ≤ 1
one_at_most true = omega arith
one_at_most false = omega arith

-- two numbers of which one is below the other are no sight of one caller
none_equal : (a c : ℕ) → a ≢ c → one_if (eqb a c) ≡ 0
none_equal a c apart = ap one_if (ne_eqb a c apart)

module _ {T : Type 0} where
  from_below : (callers a n : ℕ) (value : T) → a + n ≡ callers → EachIn (λ (x : LastSeen T). x.caller < callers) (sights_from a n value)
  from_below callers a zero value e = tt
  from_below callers a (suc n) value e = (omega arith, from_below callers (a + 1) n value (omega arith))

  pub from_length : (a n : ℕ) (value : T) → length (sights_from a n value) ≡ n
  from_length a zero value = refl
  from_length a (suc n) value = ap suc (from_length (a + 1) n value)

  from_before : (c a n : ℕ) (value : T) → c < a → total (λ (x : LastSeen T). one_if (eqb x.caller c)) (sights_from a n value) ≡ 0
  from_before c a zero value h = refl
  from_before c a (suc n) value h = let e = from_before c (a + 1) n value (omega arith) in let z = none_equal a c (λ e. omega arith) in omega arith

  from_once : (c a n : ℕ) (value : T) → total (λ (x : LastSeen T). one_if (eqb x.caller c)) (sights_from a n value) ≤ 1
  from_once c a zero value = omega arith
  from_once c a (suc n) value =
      let rest = from_once c (a + 1) n value in
      ⊎_elim
      (λ p. let z = from_before c (a + 1) n value (let e = p.1 in omega arith) in let o = one_at_most (eqb a c) in omega arith)
      (λ p. let z = ap one_if p.0 in omega arith)
      (eqb_tells a c)

  tail_width : (xs : List (LastSeen T)) → length (tail_sights xs) + length (head_sights xs) ≡ length xs
  tail_width [] = refl
  tail_width (x ∷ xs) = omega arith

  tail_total : (f : LastSeen T → ℕ) (xs : List (LastSeen T)) → total f (tail_sights xs) + total f (head_sights xs) ≡ total f xs
  tail_total f [] = refl
  tail_total f (x ∷ xs) = omega arith

  tail_each : (P : LastSeen T → Type 0) (xs : List (LastSeen T)) → EachIn P xs → EachIn P (tail_sights xs)
  tail_each P [] p = tt
  tail_each P (x ∷ xs) p = p.1

  head_each : (P : LastSeen T → Type 0) (xs : List (LastSeen T)) → EachIn P xs → EachIn P (head_sights xs)
  head_each P [] p = tt
  head_each P (x ∷ xs) p = (p.0, tt)

module _ {T Origin : Type 0} (list : T → List Entry) (stand : T → ℕ → Option Stand) (origin : T → Origin) (tally : T → ℕ) where
  from_follow : (a n : ℕ) (value : T) → EachIn (λ (x : LastSeen T). Follows list stand origin tally x.caller x.value value) (sights_from a n value)
  from_follow a zero value = tt
  from_follow a (suc n) value = (follows_itself list stand origin tally a value, from_follow (a + 1) n value)

  only : {A : Type 0} (x v : A) (i : ℕ) → get_elem? (x ∷ []) i ≡ some v → x ≡ v
  only x v zero at = some-injective x v at
  only x v (suc i) at = absurd (some-ne-none v (sym at))

  -- a new table, with the value at home and one seat that has seen it for each caller
  pub opens : (key : Key T) (value : T) (count : ℕ) → count ≡ length (list value) → key.first.value ≡ value
      → Kept list stand origin tally key (opening (0 ∷ count ∷ []) (Some value ∷ []) (first_view key))
  opens key value count is first = record {
    now = value;
    words = refl;
    count = is;
    turn = omega arith;
    holders = refl;
    widths = (let e = from_length 0 key.callers key.first.value in omega arith);
    apart = (λ c. let e = from_once c 0 key.callers key.first.value in omega arith);
    home = λ z. refl;
    fits = (λ id v at.
        subst (Fits list stand origin tally key.callers value) (only (first_view key) v id at) (record {
          sights = (let P : T → Type 0 = λ t. EachIn (λ (x : LastSeen T). Follows list stand origin tally x.caller x.value t) (sights_from 0 key.callers key.first.value) in subst P first (from_follow 0 key.callers key.first.value));
          numbers = from_below key.callers 0 key.callers key.first.value (omega arith);
          held_is = λ h. cc;
        }));
  }

  pub splits : (key : Key T) (id : ℕ) (v : SeatView T) → v.holds ≡ false → Splits (Kept list stand origin tally key) id v (tail_of v) (head_of v)
  splits key id v idle s k at =
      let z : holding v ≡ 0 = ap one_if idle in
      let f = k.fits id v at in
      record {
        now = k.now;
        words = k.words;
        count = k.count;
        turn = k.turn;
        holders = cut_total holding s.views id v (tail_of v) (head_of v) at (omega arith) ∙ k.holders;
        widths = cut_total width s.views id v (tail_of v) (head_of v) at (tail_width v.sights) ∙ k.widths;
        apart = (λ c. let e = cut_total (shares c) s.views id v (tail_of v) (head_of v) at (tail_total _ v.sights) in let a = k.apart c in omega arith);
        home = k.home;
        fits = (λ j u at'.
            ⊎_elim
            (λ old. ⊎_elim
            (λ p. subst (Fits list stand origin tally key.callers k.now) p.1 (record { sights = tail_each _ v.sights f.sights; numbers = tail_each _ v.sights f.numbers; held_is = λ h. cc }))
            (λ p. k.fits j u p.1)
            (at_set s.views id j (tail_of v) u old))
            (λ new. subst (Fits list stand origin tally key.callers k.now) new (record { sights = head_each _ v.sights f.sights; numbers = head_each _ v.sights f.numbers; held_is = λ h. cc }))
            (at_snoc (set s.views id (tail_of v)) (head_of v) u j at'));
      }

  pub joins : (key : Key T) (id : ℕ) (v : SeatView T) (other : ℕ) (w : SeatView T) → v.holds ≡ false → w.holds ≡ false → Joins (Kept list stand origin tally key) id v other w (both_of v w) blank
  joins key id v other w idle idle' s k at apart at' =
      let z : holding v ≡ 0 = ap one_if idle in
      let z' : holding w ≡ 0 = ap one_if idle' in
      let f = k.fits id v at in
      let g = k.fits other w (⊎_elim (λ p. absurd (apart p.0)) (λ p. p.1) (at_set s.views id other (both_of v w) w at')) in
      record {
        now = k.now;
        words = k.words;
        count = k.count;
        turn = k.turn;
        holders = join_total holding s.views id other v w (both_of v w) blank at at' (omega arith) ∙ k.holders;
        widths = join_total width s.views id other v w (both_of v w) blank at at' (omega (arith, length-append v.sights w.sights)) ∙ k.widths;
        apart = (λ c. let t = total_append (λ (x : LastSeen T). one_if (eqb x.caller c)) v.sights w.sights in
            let e = join_total (shares c) s.views id other v w (both_of v w) blank at at' (omega arith) in let a = k.apart c in omega arith);
        home = k.home;
        fits = (λ j u at''.
            ⊎_elim
            (λ p. subst (Fits list stand origin tally key.callers k.now) p.1 (record { sights = tt; numbers = tt; held_is = λ h. cc }))
            (λ p. ⊎_elim
            (λ q. subst (Fits list stand origin tally key.callers k.now) q.1 (record { sights = each_append _ v.sights w.sights f.sights g.sights; numbers = each_append _ v.sights w.sights f.numbers g.numbers; held_is = λ h. cc }))
            (λ q. k.fits j u q.1)
            (at_set s.views id j (both_of v w) u p.1))
            (at_set (set s.views id (both_of v w)) other j blank u at''));
      }

  -- a seat with a sight of every caller leaves none that could have the turn
  all_idle : (key : Key T) (s : State (Option T) (SeatView T)) (k : Kept list stand origin tally key s) (id : ℕ) (v : SeatView T) → get_elem? s.views id ≡ some v → v.holds ≡ false → width v ≡ key.callers
      → 0 < total holding s.views → ⊥
  all_idle key s k id v at idle all some_holds =
      let t = total_some holding s.views some_holds in
      let h : t.1.holds ≡ true = one_holds t.1.holds t.3 in
      let one = ((k.fits t.0 t.1 t.2).held_is h).0 in
      let apart : id ≢ t.0 = λ e. let same : v ≡ t.1 = some-injective v t.1 (sym at ∙ ap (get_elem? s.views) e ∙ t.2) in let b = sym idle ∙ ap (λ (u : SeatView T). u.holds) same ∙ h in cc in
      let two = total_two width s.views id t.0 v t.1 apart at t.2 in
      let w = k.widths in
      omega arith

  pub closes : (key : Key T) (id : ℕ) (v : SeatView T) (words : List ℕ) (slots : List (Option T)) → v.holds ≡ false → width v ≡ key.callers
      → Final (Seen (Kept list stand origin tally key) id v) words slots
      → (value : T) × (get_elem? slots 0 ≡ some (Some value)) × EachIn (λ (x : LastSeen T). Follows list stand origin tally x.caller x.value value) v.sights
  closes key id v words slots idle all end =
      let s = end.0 in
      let k = end.1.0 in
      let at = end.1.1 in
      let free : get_or s.words 0 0 ≡ 0 = none_left (get_or s.words 0 0) k.turn (λ one. all_idle key s k id v at idle all (let h = k.holders in omega arith)) in
      (k.now, end.4 0 (Some k.now) (k.home free), (k.fits id v at).sights)
    where
      none_left : (n : ℕ) → n ≤ 1 → n ≢ 1 → n ≡ 0
      none_left zero h other = refl
      none_left (suc n) h other = absurd (other (omega arith))
