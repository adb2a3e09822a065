use Rattle.std.proofs.Common.{◌≡◌, ℕ, List, ◌++◌, drop, map, option_map}
use Rattle.toml.specs.View.{items_view}
use Rattle.mb_jobs.specs.Keys.{texts_of}
use Rattle.mb_jobs.proofs.tables.texts_of_array.Given as goal

abbrev pub invariant-values : goal.invariant-values
invariant-values l =
    option_map (λ (more : List (List ℕ)). map (λ text. text.now) l.texts.items ++ more) (texts_of (items_view (drop l.value-index l.array.items))) ≡ texts_of (items_view l.array.items)
