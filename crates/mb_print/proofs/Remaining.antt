-- Each caller's remaining calls, seen from the caller's place in the whole list.
use Rattle.std.proofs.Common.{List, [], ◌∷◌, ◌++◌, ℕ, ◌+◌, ◌<◌, ◌≤◌, ◌≡◌, ◌≢◌, Bool, true, false, cond, nat_eq, length, drop, get_or, replicate, zero, suc, refl, ap, sym, ◌∙◌, inl, inr, append_assoc, ne_eqb}
use Rattle.std.specs.Prelude.{slice_index}
use Rattle.std.proofs.lemmas.Bool.{cases_Bool, cases_eq, eqb-true}
use Rattle.std.proofs.lemmas.List.{append-nil, drop_all, drop_more}
use Rattle.mb_kinds.specs.declared.entries.Entry.{Entry}
use Rattle.mb_jobs.specs.declared.jobs.Caller.{Caller}
use Rattle.mb_jobs.specs.declared.jobs.JobCall.{JobCall}
use Rattle.mb_print.specs.Places.{head_text, left_of, own_calls}
use Rattle.mb_print.specs.Transcript.{first_text, letter_text, line_text, lines_from, without_first}

first_step : (is : Bool) (call : JobCall) (text : List ℕ) (own : List JobCall) → text ≡ head_text own → cond is call.text text ≡ head_text (cond is (call ∷ own) own)
first_step true call text own same = refl
first_step false call text own same = same

pub first_text-own : (caller : ℕ) (calls : List JobCall) → first_text caller calls ≡ head_text (own_calls caller calls)
first_text-own caller [] = refl
first_text-own caller (call ∷ more) = first_step (nat_eq call.caller caller) call (first_text caller more) (own_calls caller more) (first_text-own caller more)

pub own-without_first : (caller : ℕ) (calls : List JobCall) → own_calls caller (without_first caller calls) ≡ drop 1 (own_calls caller calls)
own-without_first caller [] = refl
own-without_first caller (call ∷ more) =
    elim (cases_Bool (nat_eq call.caller caller)) [
      | inl is ↦ rw is
      | inr is_not ↦ rw is_not (rw is_not (own-without_first caller more))
    ]

other_step : (is : Bool) (call : JobCall) (xs ys : List JobCall) → xs ≡ ys → cond is (call ∷ xs) xs ≡ cond is (call ∷ ys) ys
other_step is call xs ys same = ap (λ zs. cond is (call ∷ zs) zs) same

pub own-without_first_other : (caller other : ℕ) (calls : List JobCall) → other ≢ caller → own_calls other (without_first caller calls) ≡ own_calls other calls
own-without_first_other caller other [] differ = refl
own-without_first_other caller other (call ∷ more) differ =
    elim (cases_Bool (nat_eq call.caller caller)) [
      | inl is ↦
          let same = eqb-true call.caller caller is in
          let apart : nat_eq call.caller other ≡ false = ne_eqb call.caller other (λ e. differ (sym e ∙ same)) in
          rw (is, apart)
      | inr is_not ↦ rw is_not (other_step (nat_eq call.caller other) call (own_calls other (without_first caller more)) (own_calls other more) (own-without_first_other caller other more differ))
    ]

-- how far a transcript has come: some calls remain, each caller's of them are those from its place on, and their lines are still to be printed
pub record Goes (callers : List Caller) (calls : List JobCall) (history : List Entry) (places : List ℕ) (index : ℕ) (out : List ℕ) : Type 0 where
  pub remaining : List JobCall
  pub left : (caller : ℕ) → own_calls caller remaining ≡ left_of calls places caller
  pub rest : out ++ lines_from callers remaining (index + 1) (drop index history) ≡ lines_from callers calls 1 history

pub Goes-start : (callers : List Caller) (calls : List JobCall) (history : List Entry) (places : List ℕ) → ((caller : ℕ) → slice_index places caller ≡ 0) → Goes callers calls history places 0 []
Goes-start callers calls history places zeros = record {
  remaining = calls;
  left = λ caller. rw (zeros caller);
  rest = refl;
}

pub Goes-more : (callers : List Caller) (calls : List JobCall) (history : List Entry) (places moved : List ℕ) (index : ℕ) (out text : List ℕ) (entry : Entry) → index < length history → entry ≡ get_or history index entry
    → text ≡ head_text (left_of calls places entry.caller)
    → left_of calls moved entry.caller ≡ drop 1 (left_of calls places entry.caller)
    → ((other : ℕ) → other ≢ entry.caller → left_of calls moved other ≡ left_of calls places other)
    → Goes callers calls history places index out
    → Goes callers calls history moved (index + 1) (out ++ line_text (index + 1) (letter_text callers entry.caller) text entry.reply)
Goes-more callers calls history places moved index out text entry inside here first taken others goes = record {
  remaining = without_first entry.caller goes.remaining;
  left = λ caller.
      elim (cases_eq caller entry.caller) [
        | inl same ↦ rw same (own-without_first entry.caller goes.remaining ∙ ap (drop 1) (goes.left entry.caller) ∙ sym taken)
        | inr differ ↦ own-without_first_other entry.caller caller goes.remaining differ ∙ goes.left caller ∙ sym (others caller differ)
      ];
  rest =
      let opened = rw (drop_more history index entry inside) at goes.rest in
      let named = rw (← here) at opened in
      let words : first_text entry.caller goes.remaining ≡ text = first_text-own entry.caller goes.remaining ∙ ap head_text (goes.left entry.caller) ∙ sym first in
      append_assoc out (line_text (index + 1) (letter_text callers entry.caller) text entry.reply) (lines_from callers (without_first entry.caller goes.remaining) (index + 1 + 1) (drop (index + 1) history)) ∙ rw words at named;
}

pub Goes-end : (callers : List Caller) (calls : List JobCall) (history : List Entry) (places : List ℕ) (index : ℕ) (out : List ℕ) → length history ≤ index → Goes callers calls history places index out → out ≡ lines_from callers calls 1 history
Goes-end callers calls history places index out past goes =
    let done = rw (drop_all index history past) at goes.rest in
    sym (append-nil out) ∙ done

pub zero_anywhere : (n place : ℕ) → slice_index (replicate n 0) place ≡ 0
zero_anywhere zero place = refl
zero_anywhere (suc n) zero = refl
zero_anywhere (suc n) (suc place) = zero_anywhere n place
