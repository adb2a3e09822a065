-- The first moments under an order, character by character.
use Rattle.std.proofs.Common.{◌≡◌, ◌⊎◌, List, [], ◌∷◌, ◌++◌, ℕ, zero, suc, ◌+◌, ◌<◌, ◌≤◌, Bool, true, false, cond, length, map, filter, nat_eq, inl, inr, refl, ap, sym, subst, ◌∙◌, arith, Option, None, Some, IfSome, slice_get, get_or, take, length-append}
use Rattle.std.proofs.lemmas.Bool.{eq-eqb}
use Rattle.std.proofs.lemmas.Option.{same_Some, slice_get-get_or, slice_get_past, slice_get_within}
use Rattle.std.proofs.lemmas.List.{length-map, take_more}
use Rattle.mb_edge.specs.declared.crossings.Crossing.{Crossing}
use Rattle.mb_jobs.specs.declared.jobs.Caller.{Caller}
use Rattle.mb_jobs.specs.declared.jobs.JobCall.{JobCall}
use Rattle.mb_kinds.specs.declared.entries.Entry.{Entry}
use Rattle.mb_run.specs.Drives.{IsComplete}
use Rattle.mb_run.specs.Firsts.{HasFirst, KeepsFirsts}
use Rattle.mb_run.specs.Letters.{BeginsByLetter, HasBegunBy, HasCalls, letters_of}
use Rattle.mb_run.specs.Runs.{FirstsRise, first_at, is_letter_of, letter_of}
use Rattle.mb_run.specs.Served.{calls_in, calls_of}
use Rattle.mb_run.specs.Sights.{Limits, Sight}
use Rattle.mb_run.specs.declared.runner.Runner.{Runner}

-- ---- where a letter first stands

pub first_within : (seen : List ℕ) (letter : ℕ) → first_at seen letter ≤ length seen
first_within [] letter = omega arith
first_within (character ∷ seen) letter = elim (is_letter_of letter character) as (λ b. cond b 0 (1 + first_at seen letter) ≤ length (character ∷ seen)) [
  | true ↦ omega arith
  | false ↦ (let rest = first_within seen letter in omega (arith, rest))
]

-- it stood there already
first_stays : (seen : List ℕ) (character letter : ℕ) → first_at seen letter < length seen → first_at (seen ++ character ∷ []) letter ≡ first_at seen letter
first_stays [] character letter there = absurd (omega (arith, there))
first_stays (first ∷ seen) character letter there = by_first (is_letter_of letter first) (first_stays seen character letter) there where
  by_first : (b : Bool) → (first_at seen letter < length seen → first_at (seen ++ character ∷ []) letter ≡ first_at seen letter) → cond b 0 (1 + first_at seen letter) < length (first ∷ seen) → cond b 0 (1 + first_at (seen ++ character ∷ []) letter) ≡ cond b 0 (1 + first_at seen letter)
  by_first true rest there = refl
  by_first false rest there = ap (λ n. 1 + n) (rest (omega (arith, there)))

-- it did not
first_comes : (seen : List ℕ) (character letter : ℕ) → length seen ≤ first_at seen letter → first_at (seen ++ character ∷ []) letter ≡ length seen + cond (is_letter_of letter character) 0 1
first_comes [] character letter past = elim (is_letter_of letter character) as (λ b. cond b 0 (1 + 0) ≡ 0 + cond b 0 1) [ true ↦ refl | false ↦ refl ]
first_comes (first ∷ seen) character letter past = by_first (is_letter_of letter first) (first_comes seen character letter) past where
  by_first : (b : Bool) → (length seen ≤ first_at seen letter → first_at (seen ++ character ∷ []) letter ≡ length seen + cond (is_letter_of letter character) 0 1) → length (first ∷ seen) ≤ cond b 0 (1 + first_at seen letter) → cond b 0 (1 + first_at (seen ++ character ∷ []) letter) ≡ length (first ∷ seen) + cond (is_letter_of letter character) 0 1
  by_first true rest past = absurd (omega (arith, past))
  by_first false rest past = (let comes = rest (omega (arith, past)) in omega (arith, comes))

-- ---- one character more

module _ (letters : List ℕ) (calls : List JobCall) (seen : List ℕ) (character : ℕ) (old new : Sight) (before : HasBegunBy letters calls seen old) (keeps : KeepsFirsts old new) (begins : BeginsByLetter letters calls character old new)
    (config : new.config ≡ old.config) where
  size : length (seen ++ character ∷ []) ≡ length seen + 1
  size = length-append seen (character ∷ [])

  start : new.config.start ≡ old.config.start
  start = ap (λ (l : Limits). l.start) config

  callers : new.config.callers ≡ old.config.callers
  callers = ap (λ (l : Limits). l.callers) config

  -- a letter that had not stood there by now, and does not now, still has not
  comes_by : (b : Bool) (letter : ℕ) → is_letter_of letter character ≡ b → length seen ≤ first_at seen letter → first_at (seen ++ character ∷ []) letter ≡ length seen + cond b 0 1
  comes_by b letter is past = first_comes seen character letter past ∙ ap (λ c. length seen + cond c 0 1) is

  -- where the letter stands now
  stood_or_not : (letter : ℕ) → ((first_at seen letter < length seen) × (first_at (seen ++ character ∷ []) letter ≡ first_at seen letter))
      ⊎ ((length seen ≤ first_at seen letter) × (((is_letter_of letter character ≡ true) × (first_at (seen ++ character ∷ []) letter ≡ length seen)) ⊎ ((is_letter_of letter character ≡ false) × (first_at (seen ++ character ∷ []) letter ≡ length seen + 1))))
  stood_or_not letter = elim (below_or (first_at seen letter) (length seen)) [
    | inl there ↦ inl (there, first_stays seen character letter there)
    | inr past ↦ inr (past, by_letter (is_letter_of letter character) refl past)
  ] where
    below_or : (m n : ℕ) → (m < n) ⊎ (n ≤ m)
    below_or m n = search arith

    by_letter : (b : Bool) → is_letter_of letter character ≡ b → length seen ≤ first_at seen letter
        → ((is_letter_of letter character ≡ true) × (first_at (seen ++ character ∷ []) letter ≡ length seen)) ⊎ ((is_letter_of letter character ≡ false) × (first_at (seen ++ character ∷ []) letter ≡ length seen + 1))
    by_letter true is past = (let now = comes_by true letter is past in inl (is, omega (arith, now)))
    by_letter false is past = inr (is, comes_by false letter is past)

  not_later : (caller moment letter : ℕ) → letter_of letters caller ≡ Some letter → length seen ≤ first_at seen letter → HasFirst old caller moment → ⊥
  not_later caller moment letter has past first = before.empty caller moment first (before.later caller letter has past)

  rises_on : (one other first second low high : ℕ) → HasCalls calls one → HasFirst new one first → HasFirst new other second → letter_of letters one ≡ Some low → letter_of letters other ≡ Some high
      → first_at (seen ++ character ∷ []) low < first_at (seen ++ character ∷ []) high → first < second
  rises_on one other first second low high called here there lower higher less = elim (keeps.firsts one first here) [
    | inl was ↦ elim (keeps.firsts other second there) [
      | inl also ↦ elim (stood_or_not low) [
        | inl stood ↦ elim (stood_or_not high) [
          | inl both ↦ before.rises one other first second low high called was also lower higher (omega (arith, less, stood.1, both.1))
          | inr not_yet ↦ before.rises one other first second low high called was also lower higher (omega (arith, stood.0, not_yet.0))
        ]
        | inr not_yet ↦ absurd (not_later one first low lower not_yet.0 was)
      ]
      | inr came ↦ (let most = before.below one first was in omega (arith, most, came.above))
    ]
    | inr came ↦ elim (stood_or_not low) [
      | inl stood ↦ absurd (before.seen_is one low lower stood.0 called came.none)
      | inr not_yet ↦ elim (stood_or_not high) [
        | inl stood ↦ absurd (elim not_yet.1 [ inl now ↦ omega (arith, less, stood.0, stood.1, now.1) | inr never ↦ omega (arith, less, stood.0, stood.1, never.1) ])
        | inr neither ↦ elim neither.1 [
          | inl now ↦ absurd (elim not_yet.1 [ inl both ↦ omega (arith, less, now.1, both.1) | inr never ↦ omega (arith, less, now.1, never.1) ])
          | inr never ↦ elim (keeps.firsts other second there) [
            | inl also ↦ absurd (not_later other second high higher neither.0 also)
            | inr begun ↦ absurd (begun.some (begins.others other high higher never.0 begun.none))
          ]
        ]
      ]
    ]
  ]

  pub begun_on : HasBegunBy letters calls (seen ++ character ∷ []) new
  begun_on = record {
    within = λ caller moment has. elim (keeps.firsts caller moment has) [
      | inl was ↦ (let low = before.within caller moment was in omega (arith, low, callers))
      | inr came ↦ omega (arith, came.within, callers)
    ];
    below = λ caller moment has. elim (keeps.firsts caller moment has) [
      | inl was ↦ (let low = before.below caller moment was in omega (arith, low, start, keeps.begun))
      | inr came ↦ omega (arith, came.below, start)
    ];
    empty = λ caller moment has nil. elim (keeps.firsts caller moment has) [
      | inl was ↦ before.empty caller moment was (keeps.none caller nil)
      | inr came ↦ came.some nil
    ];
    seen_is = λ caller letter has there. elim (stood_or_not letter) [
      | inl stood ↦ (λ called nil. before.seen_is caller letter has stood.0 called (keeps.none caller nil))
      | inr past ↦ elim past.1 [
        | inl now ↦ begins.mine caller letter has now.0
        | inr never ↦ absurd (omega (arith, there, never.1, size))
      ]
    ];
    later = λ caller letter has past. elim (stood_or_not letter) [
      | inl stood ↦ absurd (omega (arith, stood.0, stood.1, past, size))
      | inr not_yet ↦ elim not_yet.1 [
        | inl now ↦ absurd (omega (arith, now.1, past, size))
        | inr never ↦ begins.others caller letter has never.0 (before.later caller letter has not_yet.0)
      ]
    ];
    rises = rises_on;
  }

-- the same of the characters of an order
pub begun_take : (letters : List ℕ) (calls : List JobCall) (order : List ℕ) (index : ℕ) (old new : Sight) → HasBegunBy letters calls (take index order) old → KeepsFirsts old new → BeginsByLetter letters calls (get_or order index 0) old new
    → new.config ≡ old.config → index < length order → HasBegunBy letters calls (take (index + 1) order) new
begun_take letters calls order index old new before keeps begins config within =
    subst (λ (seen : List ℕ). HasBegunBy letters calls seen new) (sym (take_more order index 0 within)) (begun_on letters calls (take index order) (get_or order index 0) old new before keeps begins config)

-- ---- after the order

no_letter : (letter : ℕ) → None ≡ Some letter → ⊥
no_letter letter same = cc

no_entry : (entry : Entry) → None ≡ Some entry → ⊥
no_entry entry same = cc

-- a caller with an entry has a call among those of the history
pub entry_calls : (history : List Entry) (place : ℕ) (entry : Entry) (caller : ℕ) → slice_get history place ≡ Some entry → entry.caller ≡ caller → 0 < length (calls_in history caller)
entry_calls [] place entry caller here own = absurd (no_entry entry (sym (slice_get_past [] place (omega arith)) ∙ here))
entry_calls (first ∷ history) zero entry caller here own =
    let is : first ≡ entry = same_Some first entry here in
    rw (eq-eqb first.caller caller (ap (λ (e : Entry). e.caller) is ∙ own)) (omega arith)
entry_calls (first ∷ history) (suc place) entry caller here own =
    let rest = entry_calls history place entry caller here own in
    elim (nat_eq first.caller caller) as (λ b. 0 < length (map (λ (e : Entry). e.call) (cond b (first ∷ filter (λ (e : Entry). nat_eq e.caller caller) history) (filter (λ (e : Entry). nat_eq e.caller caller) history)))) [
      | true ↦ omega arith
      | false ↦ rest
    ]

module _ (letters : List ℕ) (calls : List JobCall) (order : List ℕ) (old new : Sight) (ordered : HasBegunBy letters calls order old) (keeps : KeepsFirsts old new) (size : length letters ≡ old.config.callers)
    (own : (caller : ℕ) → caller < length letters → calls_in new.history caller ≡ calls_of calls caller) where
  declared : (caller moment : ℕ) → HasFirst new caller moment → caller < length letters
  declared caller moment has = elim (keeps.firsts caller moment has) [
    | inl was ↦ (let low = ordered.within caller moment was in omega (arith, low, size))
    | inr came ↦ omega (arith, came.within, size)
  ]

  called : (place : ℕ) (entry : Entry) → slice_get new.history place ≡ Some entry → entry.caller < length letters → HasCalls calls entry.caller
  called place entry here low = subst (λ cs. 0 < length cs) (own entry.caller low) (entry_calls new.history place entry entry.caller here refl)

  rises_by : (i : ℕ) (one : Entry) (first second low high other : ℕ) → slice_get new.history i ≡ Some one → HasFirst new one.caller first → HasFirst new other second → letter_of letters one.caller ≡ Some low → letter_of letters other ≡ Some high
      → first_at order low < first_at order high → first < second
  rises_by i one first second low high other here has there lower higher less =
      let has_calls = called i one here (slice_get_within letters one.caller low lower) in
      elim (keeps.firsts one.caller first has) [
        | inl was ↦ elim (keeps.firsts other second there) [
          | inl also ↦ ordered.rises one.caller other first second low high has_calls was also lower higher less
          | inr came ↦ (let most = ordered.below one.caller first was in omega (arith, most, came.above))
        ]
        | inr came ↦ (let most = first_within order high in absurd (ordered.seen_is one.caller low lower (omega (arith, less, most)) has_calls came.none))
      ]

  -- where the letter of a caller stands, if it has one
  abbrev IsPlaced : Option ℕ → ℕ → Type 0
  IsPlaced letter place = IfSome letter (λ (is : ℕ). first_at order is ≡ place)

  lettered : (caller : ℕ) → letter_of letters caller ≡ None → caller < length letters → ⊥
  lettered caller none low = no_letter (get_or letters caller 0) (sym none ∙ slice_get-get_or letters caller 0 low)

  by_letters : (i : ℕ) (one other : Entry) (before after : ℕ) (first second : Option ℕ) → letter_of letters one.caller ≡ first → letter_of letters other.caller ≡ second → slice_get new.history i ≡ Some one
      → HasFirst new one.caller one.moment → HasFirst new other.caller other.moment → IsPlaced first before → IsPlaced second after → before < after → one.moment < other.moment
  by_letters i one other before after None second lower higher here has there at then less = absurd (lettered one.caller lower (declared one.caller one.moment has))
  by_letters i one other before after (Some low) None lower higher here has there at then less = absurd (lettered other.caller higher (declared other.caller other.moment there))
  by_letters i one other before after (Some low) (Some high) lower higher here has there at then less =
      rises_by i one one.moment other.moment low high other.caller here has there lower higher (omega (arith, at, then, less))

  pub firsts_rise : FirstsRise order letters new.history
  firsts_rise i j one other before after here there at then less =
      by_letters i one other before after (letter_of letters one.caller) (letter_of letters other.caller) refl refl here
      (inl (record { place = i; entry = one; here = here; own = refl; ordinal = at.0; given = refl }))
      (inl (record { place = j; entry = other; here = there; own = refl; ordinal = then.0; given = refl })) at.1 then.1 less

-- the same after the calls that the order left
pub order_rises : (callers : List Caller) (calls : List JobCall) (order : List ℕ) (test : Option (Crossing → Bool)) (mid new : Sight) (was now : List Runner) → HasBegunBy (letters_of callers) calls order mid → KeepsFirsts mid new → length was ≡ mid.config.callers → length callers ≡ length was
    → IsComplete calls (length now) test new → length now ≡ length was → FirstsRise order (letters_of callers) new.history
order_rises callers calls order test mid new was now ordered keeps declared few done same =
    let size : length (letters_of callers) ≡ length callers = length-map callers (λ (c : Caller). c.letter) in
    firsts_rise (letters_of callers) calls order mid new ordered keeps (size ∙ few ∙ declared) (λ caller low. (let below : caller < length now = omega (arith, low, size, few, same) in done.own_calls caller below))
