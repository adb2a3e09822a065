-- A log without its newest step.
use Rattle.std.proofs.Common.{List, [], ◌∷◌, ◌++◌, ℕ, ◌+◌, ◌-◌, ◌≡◌, ◌<◌, ◌≤◌, length, length-append, Bool, true, false, cond, nat_eq, refl, ap, ◌∙◌, arith}
use Rattle.std.proofs.lemmas.Bool.Decides.{nat_tests}
use Rattle.mb_core_spec.specs.Callers.{one_if, total}
use Rattle.mb_core_spec.specs.Flights.{is_pin}
use Rattle.mb_gate.specs.declared.ulogs.Undo.{Undo}
use Rattle.mb_gate.specs.declared.ulogs.Undo.TheVariants as undo

pins_more : (block : ℕ) (steps : List Undo) (step : Undo) → total (is_pin block) (steps ++ step ∷ []) ≡ total (is_pin block) steps + is_pin block step
pins_more block [] step = omega arith
pins_more block (first ∷ steps) step = let rest = pins_more block steps step in omega (arith, rest)

-- the room of a log and its steps together, when the newest step is taken out
pub popped_room : (steps rest : List Undo) (spare left : ℕ) (step : Undo) (whole : ℕ) → whole ≤ length steps + spare → steps ≡ rest ++ step ∷ [] → spare + 1 ≤ left → whole ≤ length rest + left
popped_room steps rest spare left step whole room is more =
    let long : length steps ≡ length rest + 1 = ap length is ∙ length-append rest (step ∷ []) in
    omega (arith, room, long, more)

-- and when one is added
pub pushed_room : (steps more : List Undo) (spare left : ℕ) (step : Undo) (whole : ℕ) → whole ≤ length steps + spare → more ≡ steps ++ step ∷ [] → spare ≤ left + 1 → whole ≤ length more + left
pushed_room steps more spare left step whole room is less =
    let long : length more ≡ length steps + 1 = ap length is ∙ length-append steps (step ∷ []) in
    omega (arith, room, long, less)

module _ (now start : ℕ → ℕ) (whole steps rest : List Undo) (so_far : (block : ℕ) → now block + total (is_pin block) whole ≡ start block + total (is_pin block) steps) where
  -- a step that is no pin
  pub passed : (step : Undo) → steps ≡ rest ++ step ∷ [] → ((block : ℕ) → is_pin block step ≡ 0) → (block : ℕ) → now block + total (is_pin block) whole ≡ start block + total (is_pin block) rest
  passed step is none block = let more = ap (total (is_pin block)) is ∙ pins_more block rest step in omega (arith, so_far block, more, none block)

  -- a pin is one of the log's
  pub pinned : (at : ℕ) (step : Undo) → steps ≡ rest ++ step ∷ [] → step ≡ undo.Pinned at → ((block : ℕ) → total (is_pin block) whole ≤ start block) → 0 < now at
  pinned at step is pin covers =
      let more = ap (total (is_pin at)) is ∙ pins_more at rest step in
      let one : is_pin at step ≡ 1 = ap (is_pin at) pin ∙ ap one_if (let same : nat_eq at at ≡ true = grind (arith, nat_tests) in same) in
      omega (arith, so_far at, more, one, covers at)

  less_none : (test : Bool) (left : ℕ) (n m w s : ℕ) → left ≡ cond test (n - 1) n → (test ≡ true → 0 < n) → n + w ≡ s + (m + one_if test) → left + w ≡ s + m
  less_none true left n m w s is some sum = omega (arith, is, some refl, sum)
  less_none false left n m w s is some sum = omega (arith, is, sum)

  pub unpinned : (at : ℕ) (step : Undo) (left : ℕ → ℕ) → steps ≡ rest ++ step ∷ [] → step ≡ undo.Pinned at → ((block : ℕ) → left block ≡ cond (nat_eq at block) (now block - 1) (now block)) → 0 < now at
      → (block : ℕ) → left block + total (is_pin block) whole ≡ start block + total (is_pin block) rest
  unpinned at step left is pin each some block =
      let more = ap (total (is_pin block)) is ∙ pins_more block rest step in
      let one : is_pin block step ≡ one_if (nat_eq at block) = ap (is_pin block) pin ∙ ap one_if (let swap : nat_eq block at ≡ nat_eq at block = grind (arith, nat_tests) in swap) in
      less_none (nat_eq at block) (left block) (now block) (total (is_pin block) rest) (total (is_pin block) whole) (start block) (each block)
      (λ same. let e : at ≡ block = grind (arith, nat_tests) in let equal : now at ≡ now block = ap now e in omega (arith, equal, some))
      (omega (arith, so_far block, more, one))
