-- Copies of the sessions and of the table of open files.
use Rattle.std.specs.Prelude.{List, ℕ, ◌≡◌, Bool, true, false, Option, None, Some, Decides, length}
use Rattle.mb_edge.specs.Damage.{OpenCounts}
use Rattle.mb_tree.specs.declared.seats.Seat.{Seat}
use Rattle.mb_core_spec.specs.Copies.{LiveTables, TableCopy, TablesAreFresh}
use Rattle.mb_callers.specs.declared.tables.Made.{Made}
use Rattle.mb_callers.specs.declared.tables.TablesNow.{TablesNow}

-- the tables, as they are kept
abbrev pub as_copy : TablesNow → TableCopy
as_copy now = record { sessions = now.sessions.now; opens = now.opens.now; stamp = now.stamp }

-- the copy that a place for one has; one that was given back stays there for its room
abbrev pub held_if : Bool → Option TableCopy → Option TableCopy
held_if true held = held
held_if false held = None

-- what was made for the sessions of a copy is they, or nothing where the held ones are of as many callers
abbrev pub AreSessionsFor : Option TableCopy → TableCopy → Option (List Seat) → Type 0
AreSessionsFor held now (Some fresh) = fresh ≡ now.sessions
AreSessionsFor None now None = ⊥
AreSessionsFor (Some kept) now None = length kept.sessions ≡ length now.sessions

-- what was made for the counts of a copy is they, or nothing where the held ones are the same
abbrev pub AreOpensFor : Option TableCopy → TableCopy → Option OpenCounts → Type 0
AreOpensFor held now (Some fresh) = fresh ≡ now.opens
AreOpensFor None now None = ⊥
AreOpensFor (Some kept) now None = kept.opens ≡ now.opens

-- with what was made, the place for a copy can hold one of the tables
pub record IsMadeFor (held : Option TableCopy) (now : TableCopy) (made : Made) : Type 0 where
  pub sessions : AreSessionsFor held now made.sessions
  pub opens : AreOpensFor held now made.opens

-- tables that were handed out did not change since, for a call that may depend on other callers' sessions or not
abbrev pub AreTablesFresh : Bool → ℕ → LiveTables → Option TableCopy → Option TableCopy → Type 0
AreTablesFresh shared caller live kept None = Unit {0}
AreTablesFresh shared caller live None (Some given) = ⊥
AreTablesFresh shared caller live (Some kept) (Some given) = TablesAreFresh shared caller live kept given

-- whatever the live tables of the present stamp are
abbrev pub DecidesTables : Bool → Bool → ℕ → ℕ → Option TableCopy → Option TableCopy → Type 0
DecidesTables result shared caller stamp kept given = (live : LiveTables) → live.stamp ≡ stamp → Decides result (AreTablesFresh shared caller live kept given)
