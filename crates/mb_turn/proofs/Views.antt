-- The views of a turn's table after a change of one of them, and what is known where one of them has the turn.
use Rattle.std.proofs.Common.{◌≡◌, ◌≢◌, ℕ, ◌+◌, ◌<◌, ◌≤◌, eqb, eq-eqb, Bool, true, false, List, [], ◌∷◌, length, get_or, set, sym, ap, refl, ⊎_elim, subst, arith}
use Rattle.std.specs.Prelude.{Option, Some}
use mathlib.Core.Option.{some}
use lib.ListN.{get_elem?}
use Rattle.atomic_table.specs.Table.{State}
use Rattle.atomic_table.proofs.Lists.{at_set}
use Rattle.mb_kinds.specs.declared.Entry.{Entry}
use Rattle.mb_kinds.specs.declared.Stand.{Stand}
use Rattle.mb_turn.specs.Passes.{EachIn}
use Rattle.mb_turn.specs.Rule.{total, one_if, held, width, holding, shares, Fits, Kept}
use Rattle.mb_turn.specs.declared.sight.LastSeen.{LastSeen}
use Rattle.mb_turn.specs.declared.sight.SeatView.{SeatView}
use Rattle.mb_turn.specs.declared.sight.Key.{Key}
use Rattle.mb_turn.proofs.Sums.{total_set, total_at, total_two}

-- a sight's caller has itself once
pub one_same : (caller : ℕ) → one_if (eqb caller caller) ≡ 1
one_same caller = ap one_if (eq-eqb caller caller refl)

pub holds_one : (b : Bool) → b ≡ true → one_if b ≡ 1
holds_one b e = ap one_if e

pub one_holds : (b : Bool) → 0 < one_if b → b ≡ true
one_holds true h = refl
one_holds false h = absurd (omega arith)

-- who holds nothing has not the turn
pub none_holds : (b : Bool) → one_if b ≡ 0 → b ≡ true → {A : Type 0} → A
none_holds b z e = let h = holds_one b e in absurd (omega arith)

module _ {T : Type 0} where
  -- a list of sights with none of a caller's
  pub apart_from : (caller : ℕ) (xs : List (LastSeen T)) → total (λ (x : LastSeen T). one_if (eqb x.caller caller)) xs ≡ 0 → EachIn (λ (x : LastSeen T). x.caller ≢ caller) xs
  apart_from caller [] z = tt
  apart_from caller (x ∷ xs) z = ((λ e. let h : one_if (eqb x.caller caller) ≡ 1 = holds_one _ (eq-eqb x.caller caller e) in absurd (omega arith)), apart_from caller xs (omega arith))

module _ {T Origin : Type 0} (list : T → List Entry) (stand : T → ℕ → Option Stand) (origin : T → Origin) (tally : T → ℕ) where
  -- The rule after a change of one view, with new words, homes and value: the premises are the facts that differ
  pub renewed : (key : Key T) (s : State (Option T) (SeatView T)) (k : Kept list stand origin tally key s) (id : ℕ) (v w : SeatView T) → get_elem? s.views id ≡ some v
      → (words : List ℕ) (homes : List _) (now : T)
      → length words ≡ 2 → get_or words 1 0 ≡ length (list now) → get_or words 0 0 ≤ 1
      → holding w + get_or s.words 0 0 ≡ holding v + get_or words 0 0
      → width w ≡ width v → ((c : ℕ) → shares c w ≡ shares c v)
      → (get_or words 0 0 ≡ 0 → get_elem? homes 0 ≡ some (some (Some now)))
      → Fits list stand origin tally key.callers now w
      → ((j : ℕ) (u : SeatView T) → j ≢ id → get_elem? s.views j ≡ some u → Fits list stand origin tally key.callers now u)
      → Kept list stand origin tally key (record { words = words; homes = homes; views = set s.views id w })
  renewed key s k id v w at words homes now two count turn hold wide share home here there = record {
    now = now;
    words = two;
    count = count;
    turn = turn;
    holders = (let e = total_set holding s.views id v w at in let h = k.holders in omega arith);
    widths = (let e = total_set width s.views id v w at in let h = k.widths in omega arith);
    apart = (λ c. let e = total_set (shares c) s.views id v w at in let h = k.apart c in let i = share c in omega arith);
    home = home;
    fits = (λ j u at'. ⊎_elim (λ p. subst (Fits list stand origin tally key.callers now) p.1 here) (λ p. there j u p.0 p.1) (at_set s.views id j w u at'));
  }

  -- who has the turn finds word 0 at 1 and saw the value that the rule speaks of; no other view has the turn, or a sight of this caller
  pub record Alone (key : Key T) (s : State (Option T) (SeatView T)) (k : Kept list stand origin tally key s) (id caller : ℕ) (value : T) : Type 0 where
    pub turn : get_or s.words 0 0 ≡ 1
    pub same : value ≡ k.now
    pub others : (j : ℕ) (u : SeatView T) → j ≢ id → get_elem? s.views j ≡ some u → (holding u ≡ 0) × EachIn (λ (x : LastSeen T). x.caller ≢ caller) u.sights

  pub holds_alone : (key : Key T) (s : State (Option T) (SeatView T)) (k : Kept list stand origin tally key s) (id caller : ℕ) (value : T)
      → get_elem? s.views id ≡ some (held caller value) → Alone key s k id caller value
  holds_alone key s k id caller value at = record {
    turn = (let h = total_at holding s.views id (held caller value) at in let e = k.holders in let t = k.turn in omega arith);
    same = ((k.fits id (held caller value) at).held_is refl).1.0;
    others = (λ j u apart at'.
        let h = total_two holding s.views id j (held caller value) u (λ e. apart (sym e)) at at' in
        let e = k.holders in
        let t = k.turn in
        let g = total_two (shares caller) s.views id j (held caller value) u (λ e. apart (sym e)) at at' in
        let a = k.apart caller in
        let o = one_same caller in
        (omega arith, apart_from caller u.sights (omega arith)));
  }
