-- Legal histories of calls keep a valid machine valid.
use Rattle.std.proofs.Common.{List, [], ◌∷◌}
use Rattle.std.specs.List.{AllByRecursion}
use Rattle.mb_kinds.specs.declared.entries.Entry.{Entry}
use Rattle.mb_kinds.specs.declared.replies.Reply.{Reply}
use Rattle.mb_kinds.specs.declared.replies.Reply.TheVariants.{Num, Got, Info, Refused, Restart, Device, Failed}
use Rattle.mb_tree.specs.Machines.{IsValid}
use Rattle.mb_tree.specs.History.{stepped, past_reply, past, after, IsStep, Runs, AreRuns}
use Rattle.mb_tree.specs.SessionLaws.{IsCall}
use Rattle.mb_tree.specs.ValidLaws.{HistoryValid}
use Rattle.mb_tree.specs.declared.machines.Machine.{Machine}
use Rattle.mb_tree.proofs.ValidKept.{valid_kept}

step_valid : (machine : Machine) (entry : Entry) → IsValid machine → IsCall entry.call → IsStep machine entry → IsValid (stepped machine entry).1
unfolding stepped
step_valid machine entry valid good run = valid_kept machine entry.caller entry.call entry.moment entry.pick valid good run.lawful

pub past_valid : (machine : Machine) (entry : Entry) (reply : Reply) → IsValid machine → IsCall entry.call → Runs machine entry reply → IsValid (past_reply machine (stepped machine entry).1 reply)
past_valid machine entry (Num number) valid good run = step_valid machine entry valid good run
past_valid machine entry (Got bytes) valid good run = step_valid machine entry valid good run
past_valid machine entry (Info stat) valid good run = step_valid machine entry valid good run
past_valid machine entry (Refused e) valid good run = step_valid machine entry valid good run
past_valid machine entry (Restart first second) valid good run = valid
past_valid machine entry Device valid good run = valid
past_valid machine entry (Failed faults) valid good run = valid

runs_valid : (machine : Machine) (history : List Entry) → IsValid machine → AllByRecursion (λ (entry : Entry). IsCall entry.call) history → AreRuns machine history → IsValid (after machine history)
runs_valid machine [] valid good runs = valid
runs_valid machine (entry ∷ entries) valid good runs = runs_valid (past machine entry) entries (past_valid machine entry entry.reply valid good.0 runs.0) good.1 runs.1

pub history_valid : HistoryValid
history_valid machine start history valid good legal = runs_valid machine history valid good legal.runs
