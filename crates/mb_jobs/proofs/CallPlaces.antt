-- The places of calls among their callers' calls, one call further on.
use Rattle.std.proofs.Common.{List, [], ◌∷◌, ◌++◌, ℕ, zero, suc, ◌+◌, ◌<◌, ◌≡◌, true, false, cond, nat_eq, drop, take, set, get_or, length, replicate, refl, ap, sym, ◌∙◌, inl, inr, append_assoc, arith, ne_eqb}
use Rattle.std.specs.Prelude.{slice_index}
use Rattle.std.proofs.lemmas.Bool.{cases_eq}
use Rattle.std.proofs.lemmas.List.{drop_more, get_or-set_other, get_or-set_same, length-set, take_more}
use Rattle.std.proofs.lemmas.List.Sums.{sum_by_push}
use Rattle.mb_jobs.specs.declared.jobs.JobCall.{JobCall}
use Rattle.mb_jobs.specs.Lists.{calls_of, ordinals, ordinals_after}

all_zero : (n place : ℕ) → slice_index (replicate n 0) place ≡ 0
all_zero zero place = refl
all_zero (suc n) zero = refl
all_zero (suc n) (suc place) = all_zero n place

-- how far the places have come: those of the calls so far, and how many calls each caller has among them
pub record Placed (calls : List JobCall) (counts places : List ℕ) (i : ℕ) : Type 0 where
  pub rest : places ++ ordinals_after (take i calls) (drop i calls) ≡ ordinals calls
  pub room : length counts ≡ 256
  pub each : (caller : ℕ) → slice_index counts caller ≡ calls_of (take i calls) caller

pub Placed-start : (calls : List JobCall) → Placed calls (replicate 256 0) [] 0
Placed-start calls = record { rest = refl; room = refl; each = λ caller. all_zero 256 caller }

-- one call more among some
one_more : (before : List JobCall) (call : JobCall) (caller : ℕ) → calls_of (before ++ call ∷ []) caller ≡ calls_of before caller + cond (nat_eq call.caller caller) 1 0
one_more before call caller = sum_by_push (λ (call : JobCall). cond (nat_eq call.caller caller) 1 0) before call

each_more : (counts : List ℕ) (before : List JobCall) (call : JobCall) (caller : ℕ) → call.caller < length counts
    → ((caller : ℕ) → slice_index counts caller ≡ calls_of before caller)
    → slice_index (set counts call.caller (slice_index counts call.caller + 1)) caller ≡ calls_of (before ++ call ∷ []) caller
each_more counts before call caller inside each =
    elim (cases_eq caller call.caller) [
      | inl same ↦
          let here : nat_eq call.caller caller ≡ true = grind (arith, same) in
          let more = one_more before call caller in
          let now : slice_index (set counts call.caller (slice_index counts call.caller + 1)) caller ≡ slice_index counts call.caller + 1 = rw same (get_or-set_same counts call.caller (slice_index counts call.caller + 1) 0 inside) in
          now ∙ rw (← same) (ap (λ n. n + 1) (each caller)) ∙ sym (rw here at more)
      | inr differ ↦
          let apart : nat_eq call.caller caller ≡ false = ne_eqb call.caller caller (λ e. differ (sym e)) in
          let more = one_more before call caller in
          get_or-set_other counts call.caller caller (slice_index counts call.caller + 1) 0 differ ∙ each caller ∙ omega (arith, rw apart at more)
    ]

pub Placed-more : (calls : List JobCall) (counts places : List ℕ) (i : ℕ) (call : JobCall) → i < length calls → call ≡ get_or calls i call → call.caller < 256
    → Placed calls counts places i → Placed calls (set counts call.caller (slice_index counts call.caller + 1)) (places ++ (slice_index counts call.caller + 1) ∷ []) (i + 1)
Placed-more calls counts places i call inside here below placed =
    let behind : take (i + 1) calls ≡ take i calls ++ call ∷ [] = take_more calls i call inside ∙ ap (λ (c : JobCall). take i calls ++ c ∷ []) (sym here) in
    let opened = rw (drop_more calls i call inside) at placed.rest in
    let named = rw (← here) at opened in
    let number : calls_of (take i calls) call.caller ≡ slice_index counts call.caller = sym (placed.each call.caller) in
    let counted = rw number at named in
    record {
      rest = rw behind (append_assoc places ((slice_index counts call.caller + 1) ∷ []) (ordinals_after (take i calls ++ call ∷ []) (drop (i + 1) calls)) ∙ counted);
      room = length-set counts call.caller (slice_index counts call.caller + 1) ∙ placed.room;
      each = λ caller. rw behind (each_more counts (take i calls) call caller (rw placed.room below) placed.each);
    }
