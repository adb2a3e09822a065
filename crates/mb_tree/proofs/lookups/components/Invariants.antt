use Rattle.std.proofs.Common.{◌≡◌, ◌++◌, ◌==◌, List, ℕ, not, length, map, filter, drop, Bor}
use Rattle.mb_tree.specs.Lookup.{padded}
use Rattle.mb_tree.proofs.lookups.components.Given as goal

abbrev pub invariant-loop-piece : goal.invariant-loop-piece
invariant-loop-piece l = l.names.items ++ map padded (filter (λ piece. not (length piece == 0)) (map (λ (piece : Bor (List ℕ)). piece.now) (drop l.piece-index l.piece-items))) ≡ map padded (filter (λ piece. not (length piece == 0)) (map (λ (piece : Bor (List ℕ)). piece.now) l.piece-items))
