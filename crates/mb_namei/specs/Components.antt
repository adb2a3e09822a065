-- A path taken apart from its front.
use Rattle.std.specs.Prelude.{List, [], ◌∷◌, ℕ, ◌<◌, ◌≡◌, length, Option, Some, None}
use Rattle.mb_tree.specs.Lookup.{components}
use Rattle.mb_namei.specs.declared.components.Component.{Component}

-- the first component of a path and what is behind it, which is shorter; or the path has none
abbrev pub IsFirstOf : List ℕ → Option Component → Type 0
IsFirstOf path None = components path ≡ []
IsFirstOf path (Some first) = (components path ≡ first.name ∷ components first.rest.now) × (length first.rest.now < length path)
