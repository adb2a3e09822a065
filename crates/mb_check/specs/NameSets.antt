-- The names of the used slots of one directory so far.
use Rattle.std.specs.Prelude.{ℕ, List, Bool, bytes_eq}
use Rattle.std.specs.List.{list_any}
use Rattle.mb_check.specs.declared.names.NameSet.{NameSet}

-- a name is among them
abbrev pub has_name : NameSet → List ℕ → Bool
has_name set name = list_any (bytes_eq name) set.names.keys
