use Rattle.std.proofs.Common.{◌≤◌, max, ◌+◌, ◌*◌, ◌-◌, ℕ, List, length, ◌≡◌, [], Ok}
use Rattle.mb_word.specs.Numbers.{word_at, long_at}
use Rattle.mb_rules.specs.Items.{each_from, walked}
use Rattle.mb_rules.specs.FreeChain.{free_items}
use Rattle.mb_check_files.specs.Passes.{Stands, AreBounds}
use Rattle.mb_check_files.proofs.chains.upper.Given as goal

-- the places so far were gone through, and the flags stand for what was met
abbrev pub invariant-loop-place : goal.invariant-loop-place
invariant-loop-place l = (l.place ≤ max 1 l.count) × ((blocks : ℕ → List ℕ) (list : List ℕ) → AreBounds blocks l.bounds → Stands l.fn.met list
    → (after : List ℕ) × (walked list (each_from (λ place. free_items blocks l.holder (long_at l.bytes (l.base + 2 + 4 * place))) 1 (l.place - 1)) ≡ Ok after) × Stands l.met after)
