use Rattle.std.proofs.Common.{◌≡◌, ℕ, take, if◌then◌else◌, nat_eq, None}
use Rattle.std.specs.FinMap as fin
use Rattle.std.specs.List.{list_any}
use Rattle.mb_tree.proofs.maps.MapCopied.copied.Given as goal

-- the copy answers as the map does at the keys so far, and has no other
abbrev pub invariant-loop-key : goal.invariant-loop-key
invariant-loop-key g l = (q : ℕ) → fin.get l.copy q ≡ (if list_any (nat_eq q) (take l.key-index l.key-items) then fin.get l.self q else None)
