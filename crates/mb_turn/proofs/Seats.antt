-- What a seat knows between the steps of one call, and what a pass's clauses say of its card and its seat.
use Rattle.std.proofs.Common.{◌≡◌, ◌≤◌, ℕ, zero, suc, ◌+◌, Bool, true, false, List, [], ◌∷◌, ◌++◌, map, length, sym, ap, refl, ◌∙◌, subst, arith}
use Rattle.std.specs.Prelude.{Option, Some, None}
use Rattle.std.proofs.lemmas.List.{length-map}
use Rattle.std.proofs.lemmas.List.FromFn.{map-range_with_len_more}
use Rattle.std.specs.List.{range_with_len}
use mathlib.Core.Option.{some, some-injective}
use lib.ListN.{get_elem?}
use Rattle.mb_kinds.specs.Own.{own}
use Rattle.atomic_table.specs.Seated.{TableId}
use Rattle.atomic_table.specs.Table.{Me, rest, Final, Seen}
use Rattle.mb_kinds.specs.declared.Entry.{Entry}
use Rattle.mb_kinds.specs.declared.Stand.{Stand}
use Rattle.mb_turn.specs.Passes.{EachIn, Known, known, ContinuesBy, OthersStand, Adds, Follows}
use Rattle.mb_turn.specs.Rule.{held, idle, resting, sight, sights_from, sight_of_card, sight_of_pass, Kept}
use Rattle.mb_turn.specs.declared.sight.LastSeen.{LastSeen}
use Rattle.mb_turn.specs.declared.sight.SeatView.{SeatView}
use Rattle.mb_turn.specs.declared.sight.Key.{Key}
use Rattle.mb_turn.proofs.Knowing.{own_grows}
use Rattle.mb_turn.proofs.Parts.{closes}

module _ {T : Type 0} where
  pub rests_held : (me : Me (Option T) (SeatView T)) (caller : ℕ) (value : T) → me ≡ resting caller value me.0.holds → me.0.holds ≡ true → me ≡ (held caller value, (0, None) ∷ [])
  rests_held me caller value rests held_is = rests ∙ ap (λ b. resting caller value b) held_is

  -- a value is put into the slot that a seat has
  pub filled : (me after : Me (Option T) (SeatView T)) (caller : ℕ) (saw value : T) (x : Option T) → me ≡ (held caller saw, (0, x) ∷ []) → after ≡ (me.0, (0, Some value) ∷ rest me.1) → after ≡ (held caller saw, (0, Some value) ∷ [])
  filled me after caller saw value x e e' = e' ∙ ap (λ (m : Me (Option T) (SeatView T)). (m.0, (0, Some value) ∷ rest m.1)) e

module _ {A B : Type 0} (f : A → B) where
  pub each_mapped : (P : B → Type 0) (xs : List A) → EachIn P (map f xs) → EachIn (λ (x : A). P (f x)) xs
  each_mapped P [] p = tt
  each_mapped P (x ∷ xs) p = (p.0, each_mapped P xs p.1)

module _ {T Origin : Type 0} (list : T → List Entry) (stand : T → ℕ → Option Stand) (origin : T → Origin) (tally : T → ℕ) where
  -- what `give` asks, of the card and of the seat
  pub adds_known : (table : TableId) (caller : ℕ) (saw value : T) (holds : Bool) (pass : Known T) → known table caller saw holds ≡ pass
      → origin value ≡ origin pass.value → ContinuesBy pass.caller (list pass.value) (list value) → OthersStand stand pass.caller pass.value value → tally value ≤ tally pass.value
      → Adds list stand origin tally caller saw value
  adds_known table caller saw value holds pass is same entries others fewer =
      let P : Known T → Type 0 = λ p. Adds list stand origin tally p.caller p.value value in
      subst P (sym is) (record { same = same; entries = entries; others = others; fewer = fewer })

module _ {T : Type 0} where
  pub has_slot : (me : Me (Option T) (SeatView T)) (v : SeatView T) (x : Option T) → me ≡ (v, (0, x) ∷ []) → me.1 ≡ (0, x) ∷ rest me.1
  has_slot me v x e = ap (λ (m : Me (Option T) (SeatView T)). m.1) e ∙ ap (λ (m : Me (Option T) (SeatView T)). (0, x) ∷ rest m.1) (sym e)

  pub more_cards : (value : T) (old new : List (ℕ × T)) (card : ℕ × T) (n : ℕ) → new ≡ old ++ card ∷ [] → old ≡ map (λ (caller : ℕ). (caller, value)) (range_with_len 0 n) → card ≡ (n, value)
      → new ≡ map (λ (caller : ℕ). (caller, value)) (range_with_len 0 (n + 1))
  more_cards value old new card n pushed so_far is =
      pushed ∙ ap (λ (l : List (ℕ × T)). l ++ card ∷ []) so_far ∙ ap (λ (x : ℕ × T). map (λ (caller : ℕ). (caller, value)) (range_with_len 0 n) ++ x ∷ []) is
      ∙ sym (map-range_with_len_more (λ (caller : ℕ). (caller, value)) 0 n n (omega arith))

  -- the first seat has the sights of the cards
  pub card_sights : (a n : ℕ) (value : T) → map sight_of_card (map (λ (caller : ℕ). (caller, value)) (range_with_len a n)) ≡ sights_from a n value
  card_sights a zero value = refl
  card_sights a (suc n) value = ap (λ l. sight a value ∷ l) (card_sights (a + 1) n value)

  pub card_passes : (table : TableId) (value : T) (callers : List ℕ) → map (λ (card : ℕ × T). known table card.0 card.1 false) (map (λ (caller : ℕ). (caller, value)) callers) ≡ map (λ (caller : ℕ). known table caller value false) callers
  card_passes table value [] = refl
  card_passes table value (c ∷ callers) = ap (λ l. known table c value false ∷ l) (card_passes table value callers)

  -- what a caller added is what its pass's own entries grow by
  pub grown : (list : T → List Entry) (card : ℕ × T) (value : T) (pass : Known T) (new : List Entry) → card ≡ (pass.caller, value)
      → ContinuesBy pass.caller (list pass.value) (list value) → list value ≡ list pass.value ++ new → own (list card.1) card.0 ≡ own (list pass.value) pass.caller ++ new
  grown list card value pass new is entries e = ap (λ (x : ℕ × T). own (list x.1) x.0) is ∙ own_grows (list pass.value) (list value) new pass.caller entries e

module _ {T Origin : Type 0} (list : T → List Entry) (stand : T → ℕ → Option Stand) (origin : T → Origin) (tally : T → ℕ) where
  pub closed_with : (key : Key T) (id : ℕ) (me : Me (Option T) (SeatView T)) (passes : List (Known T)) (words : List ℕ) (slots : List (Option T)) (x : Option T)
      → me ≡ (idle (map sight_of_pass passes), []) → length passes ≡ key.callers → Final (Seen (Kept list stand origin tally key) id me.0) words slots → get_elem? slots 0 ≡ some x
      → (value : T) × (x ≡ Some value) × EachIn (λ (pass : Known T). Follows list stand origin tally pass.caller pass.value value) passes
  closed_with key id me passes words slots x is all end at =
      let P : Me (Option T) (SeatView T) → Type 0 = λ m. Final (Seen (Kept list stand origin tally key) id m.0) words slots in
      let r = closes list stand origin tally key id (idle (map sight_of_pass passes)) words slots refl (length-map passes sight_of_pass ∙ all) (subst P is end) in
      (r.0, some-injective x (Some r.0) (sym at ∙ r.1), each_mapped sight_of_pass (λ (s : LastSeen T). Follows list stand origin tally s.caller s.value r.0) passes r.2)

  -- the value that the last pass finds follows what each of them saw
  pub closed_at : (key : Key T) (id : ℕ) (me : Me (Option T) (SeatView T)) (passes : List (Known T)) (words : List ℕ) (slots : List (Option T)) (x : Option T) (value : T)
      → me ≡ (idle (map sight_of_pass passes), []) → length passes ≡ key.callers → Final (Seen (Kept list stand origin tally key) id me.0) words slots → get_elem? slots 0 ≡ some x → x ≡ Some value
      → EachIn (λ (pass : Known T). Follows list stand origin tally pass.caller pass.value value) passes
  closed_at key id me passes words slots x value is all end at there =
      let r = closed_with key id me passes words slots x is all end at in
      let same : r.0 ≡ value = some_inside r.0 value (sym r.1 ∙ there) in
      let P : T → Type 0 = λ v. EachIn (λ (pass : Known T). Follows list stand origin tally pass.caller pass.value v) passes in
      subst P same r.2
    where
      some_inside : (a b : T) → Some a ≡ Some b → a ≡ b
      some_inside a b e = cc

  -- the same of the card that sees the value, and of the seat into whose slot the value goes
  pub adds_card : (caller number : ℕ) (saw value : T) (card : ℕ × T) (me : Me (Option T) (SeatView T)) → card ≡ (number, value) → number ≡ caller
      → Adds list stand origin tally caller saw value → me ≡ (held caller saw, (0, Some value) ∷ [])
      → (took : T) × Adds list stand origin tally card.0 took card.1 × (me ≡ (held card.0 took, (0, Some card.1) ∷ []))
  adds_card caller number saw value card me is same adds seat =
      let e : card ≡ (caller, value) = is ∙ ap (λ (n : ℕ). (n, value)) same in
      let P : ℕ × T → Type 0 = λ x. Adds list stand origin tally x.0 saw x.1 × (me ≡ (held x.0 saw, (0, Some x.1) ∷ [])) in
      let r = subst P (sym e) (adds, seat) in
      (saw, r.0, r.1)
