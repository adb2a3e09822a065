-- Which lists of entries are histories of a machine, and the machine after them.
use Rattle.std.specs.Prelude.{List, [], ◌∷◌, ℕ, ◌≡◌, ◌≢◌, ◌<◌, length, take, None}
use Rattle.std.specs.List.{AllByRecursion}
use Rattle.mb_kinds.specs.declared.entries.Entry.{Entry}
use Rattle.mb_kinds.specs.declared.replies.Reply.{Reply}
use Rattle.mb_kinds.specs.declared.replies.Reply.TheVariants.{Num, Got, Info, Refused, Restart, Device, Failed}
use Rattle.mb_tree.specs.Step.{step, IsLawful}
use Rattle.mb_tree.specs.declared.machines.Machine.{Machine}

-- the step of an entry's call
unfoldable pub stepped : Machine → Entry → Reply × Machine
stepped machine entry = step machine entry.caller entry.call entry.moment entry.pick

-- the machine past an entry with that reply: a call that a fault or the disk ended did nothing
abbrev pub past_reply : Machine → Machine → Reply → Machine
past_reply machine next (Num number) = next
past_reply machine next (Got bytes) = next
past_reply machine next (Info stat) = next
past_reply machine next (Refused e) = next
past_reply machine next (Restart first second) = machine
past_reply machine next Device = machine
past_reply machine next (Failed faults) = machine

abbrev pub past : Machine → Entry → Machine
past machine entry = past_reply machine (stepped machine entry).1 entry.reply

-- the machine after a history, and after its first count entries
abbrev pub after : Machine → List Entry → Machine
after machine [] = machine
after machine (entry ∷ entries) = after (past machine entry) entries

abbrev pub after_first : Machine → List Entry → ℕ → Machine
after_first machine entries count = after machine (take count entries)

-- the call of a declared caller, that is one with a seat, with the step's reply on a lawful pick
pub record IsStep (machine : Machine) (entry : Entry) : Type 0 where
  pub declared : entry.caller < length machine.seats
  pub lawful : IsLawful machine entry.caller entry.call entry.moment entry.pick
  pub answer : (stepped machine entry).0 ≡ entry.reply

-- the call of a declared caller that a fault or the disk ended: no number was picked
pub record IsUnserved (machine : Machine) (entry : Entry) : Type 0 where
  pub declared : entry.caller < length machine.seats
  pub unpicked : entry.pick ≡ None

-- an entry's reply fits the machine before it: a plain reply is the step's, any other leaves the call unserved
abbrev pub Runs : Machine → Entry → Reply → Type 0
Runs machine entry (Num number) = IsStep machine entry
Runs machine entry (Got bytes) = IsStep machine entry
Runs machine entry (Info stat) = IsStep machine entry
Runs machine entry (Refused e) = IsStep machine entry
Runs machine entry (Restart first second) = IsUnserved machine entry
Runs machine entry Device = IsUnserved machine entry
Runs machine entry (Failed faults) = IsUnserved machine entry

-- entry after entry
abbrev pub AreRuns : Machine → List Entry → Type 0
AreRuns machine [] = Unit {0}
AreRuns machine (entry ∷ entries) = Runs machine entry entry.reply × AreRuns (past machine entry) entries

abbrev pub IsFailed : Reply → Type 0
IsFailed (Failed faults) = Unit {0}
IsFailed _ = ⊥

-- an entry and a later one: no two moments are equal, a caller's moments rise, and after a failed entry only
-- failed ones come
pub record Follows (entry later : Entry) : Type 0 where
  pub apart : later.moment ≢ entry.moment
  pub rising : later.caller ≡ entry.caller → entry.moment < later.moment
  pub failed : IsFailed entry.reply → IsFailed later.reply

abbrev pub AreInOrder : List Entry → Type 0
AreInOrder [] = Unit {0}
AreInOrder (entry ∷ entries) = AllByRecursion (Follows entry) entries × AreInOrder entries

pub record Legal (machine : Machine) (start : ℕ) (history : List Entry) : Type 0 where
  pub runs : AreRuns machine history
  pub above : AllByRecursion (λ (entry : Entry). start < entry.moment) history
  pub order : AreInOrder history
