-- What a directory's search asks for before it is begun.
use Rattle.std.specs.Prelude.{List, ℕ, Option, IfSome}
use Rattle.mb_kinds.specs.Changed.{ChangeList}
use Rattle.mb_iface.specs.Needs.{IsNeed}
use Rattle.mb_iface.specs.declared.replies.Need.{Need}
use Rattle.mb_namei.specs.Directories.{IsBlockOf}
use Rattle.mb_namei.specs.Searching.{OnDirectory}

-- a block of the directory that the view lacks
abbrev pub LacksPart : (ℕ → Option (List ℕ)) → ChangeList → ℕ → Option Need → Type 0
LacksPart shown changes dir result = IfSome result (λ need. IsNeed shown need × ((size : ℕ) → OnDirectory shown changes dir size (λ blocks slots. IsBlockOf blocks dir need.first)))
