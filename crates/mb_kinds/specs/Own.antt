-- Which entries of a history are a caller's own.
use Rattle.std.specs.Prelude.{List, ℕ, ◌++◌, ◌≡◌, filter, nat_eq}
use Rattle.mb_kinds.specs.declared.entries.Entry.{Entry}

-- the entries of that caller, in order
abbrev pub own : List Entry → ℕ → List Entry
own history caller = filter (λ (e : Entry). nat_eq e.caller caller) history

-- what is a caller's own in two histories, one after the other
abbrev pub OwnAppends : Type 0
OwnAppends = (front back : List Entry) (caller : ℕ) → own (front ++ back) caller ≡ own front caller ++ own back caller
