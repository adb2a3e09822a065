-- The lines that commands print, each ended by a newline (10).
use Rattle.std.specs.Prelude.{List, [], ◌∷◌, ◌++◌, ℕ, codes, decimal}

-- `made B blocks I inodes`
abbrev pub made_line : ℕ → ℕ → List ℕ
made_line blocks inodes = codes "made " ++ decimal blocks ++ codes " blocks " ++ decimal inodes ++ codes " inodes" ++ 10 ∷ []

-- `sound nodes N held H free F`: N inodes in use before nameless ones are reclaimed, H blocks that they hold, F free blocks
abbrev pub sound_line : ℕ → ℕ → ℕ → List ℕ
sound_line nodes held free = codes "sound nodes " ++ decimal nodes ++ codes " held " ++ decimal held ++ codes " free " ++ decimal free ++ 10 ∷ []

-- `volume refused: block B rule R`
abbrev pub refused_line : ℕ → ℕ → List ℕ
refused_line block rule = codes "volume refused: block " ++ decimal block ++ codes " rule " ++ decimal rule ++ 10 ∷ []
