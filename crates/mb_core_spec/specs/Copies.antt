-- The copies that a call in flight keeps of what it gathered, and when they are still what is seen.
use Rattle.std.specs.Prelude.{List, [], ℕ, ◌≡◌, ◌≤◌, Bool, true, false, Option, None, Some, map, slice_get}
use Rattle.mb_edge.specs.Damage.{OpenCounts}
use Rattle.mb_tree.specs.declared.seats.Seat.{Seat}
use Rattle.mb_cache.specs.Kept.{CopyList, KeptBlock, kept_at}
use Rattle.mb_cache.specs.Stamps.{Stamps, stamp_of}

-- a copy of all sessions and of the table of open files, with the stamp that they had
pub record TableCopy : Type 0 where
  pub sessions : List Seat
  pub opens : OpenCounts
  pub stamp : ℕ

-- what a caller gathered: blocks other than block 0, and the tables
pub record PagesState : Type 0 where
  pub blocks : CopyList
  pub tables : Option TableCopy

-- nothing gathered
abbrev pub no_pages : PagesState
no_pages = record { blocks = []; tables = None }

-- ---- blocks

-- no copy has a stamp that is still to come
abbrev pub AreOld : Stamps → CopyList → Type 0
AreOld stamps copies = (block : ℕ) (kept : KeptBlock) → kept_at copies block ≡ Some kept → kept.stamp ≤ stamp_of stamps block

-- a copy with the present stamp is what is seen
abbrev pub AreTrue : (ℕ → List ℕ) → Stamps → CopyList → Type 0
AreTrue view stamps copies = (block : ℕ) (kept : KeptBlock) → kept_at copies block ≡ Some kept → kept.stamp ≡ stamp_of stamps block → view block ≡ kept.bytes

-- a block that was handed out is one that the flight keeps, and it did not change since
pub record IsFresh (copies : CopyList) (stamps : Stamps) (block : ℕ) (page : KeptBlock) : Type 0 where
  pub copy : KeptBlock
  pub has : kept_at copies block ≡ Some copy
  pub bytes : copy.bytes ≡ page.bytes
  pub stamp : copy.stamp ≡ stamp_of stamps block

abbrev pub AreFresh : CopyList → Stamps → CopyList → Type 0
AreFresh copies stamps pages = (block : ℕ) (page : KeptBlock) → kept_at pages block ≡ Some page → IsFresh copies stamps block page

-- ---- the tables

-- the sessions as they are and as they were at the last checkpoint, the table of open files, and how often the
-- tables changed in a way that another call could see
pub record LiveTables : Type 0 where
  pub sessions : List Seat
  pub saved : List Seat
  pub opens : OpenCounts
  pub stamp : ℕ

-- a caller's own session is the same in both
abbrev pub HasOwn : ℕ → List Seat → List Seat → Type 0
HasOwn caller given sessions = slice_get given caller ≡ slice_get sessions caller

-- the current directory of each caller
abbrev pub cwds : List Seat → List ℕ
cwds sessions = map (λ (seat : Seat). seat.cwd) sessions

-- a caller's copy of the tables has its own session, and with the present stamp the present counts of open files and
-- current directories
pub record KeepsTables (caller : ℕ) (live : LiveTables) (kept : TableCopy) : Type 0 where
  pub own : HasOwn caller kept.sessions live.sessions
  pub old : kept.stamp ≤ live.stamp
  pub opens : kept.stamp ≡ live.stamp → kept.opens ≡ live.opens
  pub directories : kept.stamp ≡ live.stamp → cwds kept.sessions ≡ cwds live.sessions

-- tables that were handed out did not change since: for a call whose answer depends on no other session the caller's
-- own part is all that counts
abbrev pub TablesAreFresh : Bool → ℕ → LiveTables → TableCopy → TableCopy → Type 0
TablesAreFresh false caller live kept given = HasOwn caller given.sessions kept.sessions
TablesAreFresh true caller live kept given = (given.sessions ≡ kept.sessions) × (given.opens ≡ kept.opens) × (kept.stamp ≡ live.stamp)

-- ---- what a call in flight keeps, on every disk

abbrev pub TablesAgree : ℕ → LiveTables → Option TableCopy → Type 0
TablesAgree caller live None = Unit {0}
TablesAgree caller live (Some kept) = KeepsTables caller live kept

pub record KeepsCopies (caller : ℕ) (stamps : Stamps) (live : LiveTables) (pages : PagesState) : Type 0 where
  pub old : AreOld stamps pages.blocks
  pub tables : TablesAgree caller live pages.tables

-- while a call has the right to commit alone, each copy that it keeps has the present stamp
pub record HoldsFloor (stamps : Stamps) (live : LiveTables) (pages : PagesState) : Type 0 where
  pub blocks : (block : ℕ) (kept : KeptBlock) → kept_at pages.blocks block ≡ Some kept → kept.stamp ≡ stamp_of stamps block
  pub tables : (kept : TableCopy) → pages.tables ≡ Some kept → kept.stamp ≡ live.stamp
