-- Blocks that somebody keeps as they were seen, each with the stamp that its block had.
use Rattle.std.specs.Prelude.{List, ℕ, Option, option_map, nat_eq}
use Rattle.std.specs.Map.{lookup}

-- the bytes of a block with the stamp that it had
pub record KeptBlock : Type 0 where
  pub bytes : List ℕ
  pub stamp : ℕ

-- blocks with their copies, each block once
abbrev pub CopyList : Type 0
CopyList = List (ℕ × KeptBlock)

-- the copy of a block, where there is one
abbrev pub kept_at : CopyList → ℕ → Option KeptBlock
kept_at copies block = lookup (nat_eq block) copies

-- the view that copies are
abbrev pub shown : CopyList → ℕ → Option (List ℕ)
shown copies block = option_map (λ (kept : KeptBlock). kept.bytes) (kept_at copies block)
