-- How what a function of the model returns stands for the answer of its definition: want of memory alone is
-- free.
use Rattle.std.specs.Prelude.{◌≡◌, Result, Ok, Err, IsOkAnd}
use Rattle.mb_kinds.specs.declared.replies.Reply.{Reply}
use Rattle.mb_tree.specs.Answers.{Answer}
use Rattle.mb_tree.specs.Effect.{TreeAndOpens}
use Rattle.mb_tree.specs.declared.trees.Tree.{Tree}
use Rattle.mb_tree.specs.declared.machines.Machine.{Machine}
use Rattle.mb_tree.specs.declared.stops.Stop.{Stop}
use Rattle.mb_tree.specs.declared.stops.Stop.TheVariants.{NoMemory, Refused}

-- a refusal is the answer's
abbrev pub Stops : {Y : Type 0} → Stop → Answer Y → Type 0
Stops NoMemory answer = Unit {0}
Stops (Refused e) answer = answer ≡ Err e

-- what is given is the answer's, seen by view
abbrev pub Gives : {X Y : Type 0} → (X → Y) → Result X Stop → Answer Y → Type 0
Gives view (Ok x) answer = answer ≡ Ok (view x)
Gives view (Err stop) answer = Stops stop answer

-- a change of the tree is done, or nothing is
abbrev pub GivesTree : {X : Type 0} → Result X Stop → Tree → Tree → Answer TreeAndOpens → Type 0
GivesTree (Ok x) old new answer = IsOkAnd answer (λ (held : TreeAndOpens). held.tree ≡ new)
GivesTree (Err stop) old new answer = Stops stop answer × (new ≡ old)

-- a call is served, or the machine is as before
abbrev pub Serves : Result Reply Stop → Machine → Machine → Answer (Reply × Machine) → Type 0
Serves (Ok reply) old new answer = answer ≡ Ok (reply, new)
Serves (Err stop) old new answer = Stops stop answer × (new ≡ old)
