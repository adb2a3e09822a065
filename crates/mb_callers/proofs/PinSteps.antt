-- One pin more is noted.
use Rattle.std.proofs.Common.{List, [], ◌∷◌, ◌++◌, ℕ, ◌+◌, ◌≡◌, Bool, true, false, cond, nat_eq, Some, refl, ap, sym, ◌∙◌, arith, slice_get, drop}
use Rattle.std.proofs.lemmas.Bool.Decides.{nat_tests}
use Rattle.mb_cache.proofs.PageLoops.{next_first}
use Rattle.mb_cache.specs.State.{CacheState}
use Rattle.mb_cache.specs.Kept.{CopyList, KeptBlock}
use Rattle.mb_callers.specs.Pins.{pin_steps}
use Rattle.mb_core_spec.specs.Callers.{one_if, total}
use Rattle.mb_core_spec.specs.Flights.{is_pin}
use Rattle.mb_gate.specs.declared.ulogs.Undo.{Undo}
use Rattle.mb_gate.specs.declared.ulogs.Undo.TheVariants as undo

push_rest : (log : List Undo) (step : Undo) (rest : List Undo) → (log ++ step ∷ []) ++ rest ≡ log ++ step ∷ rest
push_rest [] step rest = refl
push_rest (one ∷ log) step rest = ap (λ l. one ∷ l) (push_rest log step rest)

pub noted_more : (log new goal : List Undo) (reads : CopyList) (at : ℕ) (read : ℕ × KeptBlock) → log ++ pin_steps (drop at reads) ≡ goal → slice_get reads at ≡ Some read → new ≡ log ++ undo.Pinned read.0 ∷ []
    → new ++ pin_steps (drop (at + 1) reads) ≡ goal
noted_more log new goal reads at read so_far here one =
    ap (λ l. l ++ pin_steps (drop (at + 1) reads)) one ∙ push_rest log (undo.Pinned read.0) (pin_steps (drop (at + 1) reads)) ∙ ap (λ r. log ++ pin_steps r) (sym (next_first reads at read here)) ∙ so_far

one_pin : (test : Bool) (left n m s : ℕ) → left ≡ cond test (n + 1) n → n + (one_if test + m) ≡ s → left + m ≡ s
one_pin true left n m s is sum = omega (arith, is, sum)
one_pin false left n m s is sum = omega (arith, is, sum)

pub pinned_more : (now new goal : ℕ → ℕ) (reads : CopyList) (at : ℕ) (read : ℕ × KeptBlock) → ((block : ℕ) → now block + total (is_pin block) (pin_steps (drop at reads)) ≡ goal block) → slice_get reads at ≡ Some read
    → ((other : ℕ) → new other ≡ cond (nat_eq read.0 other) (now other + 1) (now other)) → (block : ℕ) → new block + total (is_pin block) (pin_steps (drop (at + 1) reads)) ≡ goal block
pinned_more now new goal reads at read so_far here each block =
    let swap : nat_eq block read.0 ≡ nat_eq read.0 block = grind (arith, nat_tests) in
    let first : total (is_pin block) (pin_steps (drop at reads)) ≡ one_if (nat_eq block read.0) + total (is_pin block) (pin_steps (drop (at + 1) reads)) = ap (λ r. total (is_pin block) (pin_steps r)) (next_first reads at read here) in
    one_pin (nat_eq read.0 block) (new block) (now block) (total (is_pin block) (pin_steps (drop (at + 1) reads))) (goal block) (each block)
    (ap (λ b. now block + (one_if b + total (is_pin block) (pin_steps (drop (at + 1) reads)))) (sym swap) ∙ ap (λ n. now block + n) (sym first) ∙ so_far block)

-- two changes of the pins one after the other change the pins alone
pub only_pins : {D : Type 0} (old mid new : CacheState D) → mid ≡ record old { pins = mid.pins; room = record old.room { pins = mid.room.pins } } → new ≡ record mid { pins = new.pins; room = record mid.room { pins = new.room.pins } }
    → new ≡ record old { pins = new.pins; room = record old.room { pins = new.room.pins } }
only_pins {D} old mid new first second = second ∙ ap (λ (k : CacheState D). record k { pins = new.pins; room = record k.room { pins = new.room.pins } }) first
