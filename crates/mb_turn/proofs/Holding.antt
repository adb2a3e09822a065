-- The steps on word 0 and word 1 keep the rule: taking the turn, publishing the count, giving the turn up.
use Rattle.std.proofs.Common.{◌≡◌, ◌≢◌, ℕ, eqb, List, [], ◌∷◌, length, get_or, set, sym, ap, refl, ◌∙◌, subst, arith}
use Rattle.std.specs.Prelude.{Option, Some}
use mathlib.Core.Option.{some, none}
use lib.ListN.{get_elem?}
use prog.Atomic.{either}
use Rattle.atomic_table.specs.Table.{State, Me, Act, keeps, takes, gives, Valid, Allows, stepped, carried_after}
use Rattle.atomic_table.proofs.Lists.{set_here, exchanged}
use Rattle.mb_kinds.specs.declared.Entry.{Entry}
use Rattle.mb_kinds.specs.declared.Stand.{Stand}
use Rattle.mb_turn.specs.Passes.{EachIn, Follows, Adds}
use Rattle.mb_turn.specs.Rule.{free, held, Fits, Kept}
use Rattle.mb_turn.specs.Steps.{took, published, given}
use Rattle.mb_turn.specs.declared.sight.LastSeen.{LastSeen}
use Rattle.mb_turn.specs.declared.sight.SeatView.{SeatView}
use Rattle.mb_turn.specs.declared.sight.Key.{Key}
use Rattle.mb_turn.proofs.Lists.{word_0, word_1}
use Rattle.mb_turn.proofs.Knowing.{follows_itself, follows_trans, adds_follows}
use Rattle.mb_turn.proofs.Views.{renewed, holds_alone, none_holds}

module _ {T Origin : Type 0} (list : T → List Entry) (stand : T → ℕ → Option Stand) (origin : T → Origin) (tally : T → ℕ) where
  -- what a step that makes word i become n owes, with the act and the view that it picks
  Goes : (key : Key T) (s : State (Option T) (SeatView T)) (i n id : ℕ) (me : Me (Option T) (SeatView T)) (then : Me (Option T) (SeatView T) → Type 0) → Type 0
  Goes key s i n id me then =
      (w : SeatView T) × (a : Act (Option T)) × Valid s.homes me.1 a × Kept list stand origin tally key (stepped s i n id me.1 w a) × then (w, carried_after me.1 a)

  took_it : (key : Key T) (id caller : ℕ) (saw : T) (s : State (Option T) (SeatView T)) (k : Kept list stand origin tally key s) → get_elem? s.views id ≡ some (free caller saw) → get_or s.words 0 0 ≡ 0
      → Goes key s 0 1 id (free caller saw, []) (took list stand origin tally (free caller saw, []) (get_or s.words 0 0))
  unfolding Goes
  took_it key id caller saw s k at zero_is =
      let f = k.fits id (free caller saw) at in
      let ws = word_0 s.words 1 k.words in (
        held caller k.now,
        takes 0 (Some k.now),
        k.home zero_is,
        renewed list stand origin tally key s k id (free caller saw) (held caller k.now) at (set s.words 0 1) (set s.homes 0 none) k.now
            ws.0 (ws.2 ∙ k.count) (let e = ws.1 in omega arith) (let e = ws.1 in omega arith) refl (λ c. refl)
            (λ z. let e = ws.1 in absurd (omega arith))
            (record { sights = (follows_itself list stand origin tally caller k.now, tt); numbers = f.numbers; held_is = λ _. (refl, (refl, tt)) })
            (λ j u apart at'. k.fits j u at'),
        (((λ _. (k.now, f.sights.0, refl)), tt), λ ne. absurd (ne zero_is)),
      )

  let_be : (key : Key T) (id caller : ℕ) (saw : T) (s : State (Option T) (SeatView T)) (k : Kept list stand origin tally key s) → get_elem? s.views id ≡ some (free caller saw) → get_or s.words 0 0 ≢ 0
      → Goes key s 0 (get_or s.words 0 0) id (free caller saw, []) (took list stand origin tally (free caller saw, []) (get_or s.words 0 0))
  unfolding Goes
  let_be key id caller saw s k at not_zero =
      let ws = word_0 s.words (get_or s.words 0 0) k.words in (
        free caller saw,
        keeps,
        tt,
        renewed list stand origin tally key s k id (free caller saw) (free caller saw) at (set s.words 0 (get_or s.words 0 0)) s.homes k.now
            ws.0 (ws.2 ∙ k.count) (let e = ws.1 in let t = k.turn in omega arith) (let e = ws.1 in omega arith) refl (λ c. refl)
            (λ z. absurd (not_zero (sym ws.1 ∙ z)))
            (k.fits id (free caller saw) at)
            (λ j u apart at'. k.fits j u at'),
        (((λ z. absurd (not_zero z)), tt), λ _. refl),
      )

  pub takes_at : (key : Key T) (slots id caller : ℕ) (saw : T) (me : Me (Option T) (SeatView T)) → me ≡ (free caller saw, [])
      → Allows (Kept list stand origin tally key) slots id me 0 (λ n. either (eqb n 0) 1 n) (took list stand origin tally me)
  unfolding Goes
  takes_at key slots id caller saw me is =
      let P : Me (Option T) (SeatView T) → Type 0 = λ m. Allows (Kept list stand origin tally key) slots id m 0 (λ n. either (eqb n 0) 1 n) (took list stand origin tally m) in
      subst P (sym is) (λ s k long at small.
      exchanged (get_or s.words 0 0) 0 1 (λ n. Goes key s 0 n id (free caller saw, []) (took list stand origin tally (free caller saw, []) (get_or s.words 0 0)))
      (took_it key id caller saw s k at) (let_be key id caller saw s k at))

  -- the value that a pass with the turn puts into its slot becomes the one that the rule speaks of
  publishes : (key : Key T) (slots id caller : ℕ) (saw value : T) (n : ℕ) → n ≡ length (list value) → Adds list stand origin tally caller saw value
      → Allows (Kept list stand origin tally key) slots id (held caller saw, (0, Some value) ∷ []) 1 (λ _. n) (λ _. published (held caller saw, (0, Some value) ∷ []))
  publishes key slots id caller saw value n is adds s k long at small =
      let alone = holds_alone list stand origin tally key s k id caller saw at in
      let f = k.fits id (held caller saw) at in
      let ws = word_1 s.words n k.words in
      let adds_now : Adds list stand origin tally caller k.now value = subst (λ (t : T). Adds list stand origin tally caller t value) alone.same adds in (
        held caller value,
        keeps,
        tt,
        renewed list stand origin tally key s k id (held caller saw) (held caller value) at (set s.words 1 n) s.homes value
            ws.0 (ws.2 ∙ is) (let e = ws.1 in let t = k.turn in omega arith) (let e = ws.1 in omega arith) refl (λ c. refl)
            (λ z. let e = ws.1 in let t = alone.turn in absurd (omega arith))
            (record { sights = (follows_itself list stand origin tally caller value, tt); numbers = f.numbers; held_is = λ _. (refl, (refl, tt)) })
            (λ j u apart at'.
            let o = alone.others j u apart at' in
            let g = k.fits j u at' in
            record {
              sights = goes_on caller k.now value adds_now u.sights o.1 g.sights;
              numbers = g.numbers;
              held_is = λ h. none_holds u.holds o.0 h;
            }),
        ((refl, tt), tt),
      )
    where
      goes_on : (caller : ℕ) (now value : T) → Adds list stand origin tally caller now value → (xs : List (LastSeen T)) → EachIn (λ (x : LastSeen T). x.caller ≢ caller) xs
          → EachIn (λ (x : LastSeen T). Follows list stand origin tally x.caller x.value now) xs → EachIn (λ (x : LastSeen T). Follows list stand origin tally x.caller x.value value) xs
      goes_on caller now value adds [] apart follow = tt
      goes_on caller now value adds (x ∷ xs) apart follow =
          (follows_trans list stand origin tally x.caller x.value now value follow.0 (adds_follows list stand origin tally caller x.caller now value apart.0 adds), goes_on caller now value adds xs apart.1 follow.1)

  pub publishes_at : (key : Key T) (slots id caller : ℕ) (saw value : T) (n : ℕ) (me : Me (Option T) (SeatView T)) → me ≡ (held caller saw, (0, Some value) ∷ [])
      → n ≡ length (list value) → Adds list stand origin tally caller saw value
      → Allows (Kept list stand origin tally key) slots id me 1 (λ _. n) (λ _. published me)
  publishes_at key slots id caller saw value n me is count adds =
      let P : Me (Option T) (SeatView T) → Type 0 = λ m. Allows (Kept list stand origin tally key) slots id m 1 (λ _. n) (λ _. published m) in
      subst P (sym is) (publishes key slots id caller saw value n count adds)

  -- with the value at home and its count published, the turn is free
  gives_up : (key : Key T) (id caller : ℕ) (value : T) → Allows (Kept list stand origin tally key) 1 id (held caller value, (0, Some value) ∷ []) 0 (λ _. 0) (λ _. given (held caller value, (0, Some value) ∷ []))
  gives_up key id caller value s k long at small =
      let alone = holds_alone list stand origin tally key s k id caller value at in
      let f = k.fits id (held caller value) at in
      let ws = word_0 s.words 0 k.words in (
        free caller value,
        gives,
        tt,
        renewed list stand origin tally key s k id (held caller value) (free caller value) at (set s.words 0 0) (set s.homes 0 (some (Some value))) value
            ws.0 (ws.2 ∙ k.count ∙ ap (λ t. length (list t)) (sym alone.same)) (let e = ws.1 in omega arith) (let e = ws.1 in let t = alone.turn in omega arith) refl (λ c. refl)
            (λ z. set_here s.homes 0 (some (Some value)) (omega arith))
            (record { sights = (follows_itself list stand origin tally caller value, tt); numbers = f.numbers; held_is = λ h. cc })
            (λ j u apart at'. subst (λ (t : T). Fits list stand origin tally key.callers t u) (sym alone.same) (k.fits j u at')),
        (refl, tt),
      )

  pub gives_at : (key : Key T) (slots id caller : ℕ) (value : T) (me : Me (Option T) (SeatView T)) → me ≡ (held caller value, (0, Some value) ∷ []) → slots ≡ 1
      → Allows (Kept list stand origin tally key) slots id me 0 (λ _. 0) (λ _. given me)
  gives_at key slots id caller value me is one =
      let P : Me (Option T) (SeatView T) → Type 0 = λ m. Allows (Kept list stand origin tally key) slots id m 0 (λ _. 0) (λ _. given m) in
      let Q : ℕ → Type 0 = λ n. Allows (Kept list stand origin tally key) n id (held caller value, (0, Some value) ∷ []) 0 (λ _. 0) (λ _. given (held caller value, (0, Some value) ∷ [])) in
      subst P (sym is) (subst Q (sym one) (gives_up key id caller value))
