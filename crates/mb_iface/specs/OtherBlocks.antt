-- Single blocks that are asked for.
use Rattle.std.specs.Prelude.{List, ℕ, ◌<◌}
use Rattle.std.specs.List.{AllByRecursion}

-- numbers of which none is past the last block that a volume can have
abbrev pub AreBlocks : List ℕ → Type 0
AreBlocks blocks = AllByRecursion (λ (block : ℕ). block < 262144) blocks
