use Rattle.std.proofs.Common.{◌≡◌, ℕ, List, ◌++◌, option_map}
use Rattle.std.specs.Vec.Iter.{into_iter_items}
use Rattle.toml.specs.View.{items_view}
use Rattle.mb_jobs.specs.Keys.{texts_of}
use Rattle.mb_jobs.proofs.tables.texts_out_of_array.Given as goal

abbrev pub invariant-values : goal.invariant-values
invariant-values l =
    option_map (λ (more : List (List ℕ)). l.texts.items ++ more) (texts_of (items_view (into_iter_items l.value-iterator))) ≡ texts_of (items_view (into_iter_items l.initial.value-iterator))
