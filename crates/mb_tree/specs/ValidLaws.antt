-- Laws of valid machines: where they come from, and that histories keep them.
use Rattle.std.specs.Prelude.{List, ℕ}
use Rattle.std.specs.List.{AllByRecursion}
use Rattle.mb_kinds.specs.declared.credentials.Cred.{Cred}
use Rattle.mb_kinds.specs.declared.entries.Entry.{Entry}
use Rattle.mb_tree.specs.Trees.{IsSound}
use Rattle.mb_tree.specs.Machines.{IsValid}
use Rattle.mb_tree.specs.Opening.{opening}
use Rattle.mb_tree.specs.History.{after, Legal}
use Rattle.mb_tree.specs.SessionLaws.{IsCall}
use Rattle.mb_tree.specs.declared.machines.Machine.{Machine}
use Rattle.mb_tree.specs.declared.trees.Tree.{Tree}

-- what the callers find on a volume of a sound tree is a valid machine
abbrev pub OpeningValid : Type 0
OpeningValid = (tree : Tree) (callers : List Cred) → IsSound tree → IsValid (opening tree callers)

-- a legal history of calls keeps a valid machine valid
abbrev pub HistoryValid : Type 0
HistoryValid = (machine : Machine) (start : ℕ) (history : List Entry) → IsValid machine → AllByRecursion (λ (entry : Entry). IsCall entry.call) history
    → Legal machine start history → IsValid (after machine history)
