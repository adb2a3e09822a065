-- What gathering comes to for the core and for who drives the call, and what the search for a stale block tells.
use Rattle.std.specs.Prelude.{ℕ, ◌+◌, ◌≡◌, ◌≤◌, ◌⊎◌, Bool, Option, Some, IsSome}
use Rattle.mb_kinds.specs.Image.{Image}
use Rattle.mb_iface.specs.declared.replies.Need.{Need}
use Rattle.mb_cache.specs.Pages.{under}
use Rattle.mb_cache.specs.Stamps.{Stamps, stamp_of}
use Rattle.mb_cache.specs.State.{CacheState}
use Rattle.mb_core_spec.specs.Callers.{total}
use Rattle.mb_cache.specs.Kept.{KeptBlock, kept_at, shown}
use Rattle.mb_core_spec.specs.Copies.{AreFresh, HoldsFloor, LiveTables, PagesState, TableCopy, TablesAreFresh}
use Rattle.mb_core_spec.specs.Events.{Gathers}
use Rattle.mb_core_spec.specs.Flights.{is_pin}
use Rattle.mb_core_spec.specs.State.{CallerState}
use Rattle.mb_callers.specs.Gathering.{GathersBlocks, GathersTables}
use Rattle.mb_callers.specs.Stale.{AllFresh, IsLeastStale}

-- ---- gathering

-- what the core's event asks: each copy is an old one, or has the present stamp and what is seen; and the new pins are those
-- of the undo log
pub record IsGathering {D : Type 0} (told : D → Option Image) (old new : CacheState D) (live : LiveTables) (mine kept : CallerState) : Type 0 where
  pub state : kept ≡ record mine { undo = kept.undo; pages = kept.pages }
  pub gathers : Gathers old.stamps live mine.pages kept.pages
  pub pinned : (block : ℕ) → stamp_of new.pins block + total (is_pin block) mine.undo ≡ stamp_of old.pins block + total (is_pin block) kept.undo
  pub reads : (image : Image) → told old.disk ≡ Some image → (block : ℕ) (copy : KeptBlock) → kept_at kept.pages.blocks block ≡ Some copy
      → (kept_at mine.pages.blocks block ≡ Some copy) ⊎ ((under (under image old.sealed) old.current).at block ≡ copy.bytes)

-- what pages had they have, and what was asked for first
pub record HasMore (first : ℕ) (old new : PagesState) : Type 0 where
  pub blocks : (block : ℕ) → IsSome (shown old.blocks block) → IsSome (shown new.blocks block)
  pub tables : IsSome old.tables → IsSome new.tables
  pub block_there : 1 ≤ first → IsSome (shown new.blocks first)
  pub tables_there : first ≡ 0 → IsSome new.tables

-- for the core, the caller's copies and the pages alike; pages that were the copies are
pub record Gathered {D : Type 0} (told : D → Option Image) (old new : CacheState D) (live : LiveTables) (first : ℕ) (mine kept : CallerState) (pages got : PagesState) : Type 0 where
  pub event : IsGathering told old new live mine kept
  pub copies : HasMore first mine.pages kept.pages
  pub more : HasMore first pages got
  pub alike : pages ≡ mine.pages → got ≡ kept.pages

abbrev pub BlocksGathered : {D : Type 0} → (D → Option Image) → Type 0
BlocksGathered {D} told = (old new : CacheState D) (live : LiveTables) (need : Need) (mine kept : CallerState) (pages got : PagesState)
    → GathersBlocks told old new need mine kept pages got → 1 ≤ need.first → 1 ≤ need.count → Gathered told old new live need.first mine kept pages got

abbrev pub TablesGathered : {D : Type 0} → (D → Option Image) → Type 0
TablesGathered {D} told = (old new : CacheState D) (live : LiveTables) (mine kept : CallerState) (pages got : PagesState)
    → GathersTables old new (record { sessions = live.sessions; opens = live.opens; stamp = live.stamp }) mine kept pages got → Gathered told old new live 0 mine kept pages got

-- ---- stale blocks

-- nothing stale: what the core's event asks of a call that finishes
pub record AreAllFresh (shared : Bool) (caller : ℕ) (stamps : Stamps) (live : LiveTables) (mine pages : PagesState) : Type 0 where
  pub blocks : AreFresh mine.blocks stamps pages.blocks
  pub tables : (given : TableCopy) → pages.tables ≡ Some given → (kept : TableCopy) × (mine.tables ≡ Some kept) × TablesAreFresh shared caller live kept given

abbrev pub FreshFinishes : Type 0
FreshFinishes = (shared : Bool) (caller : ℕ) (stamps : Stamps) (live : LiveTables) (mine pages : PagesState) → AllFresh shared caller stamps live mine pages → AreAllFresh shared caller stamps live mine pages

-- where the pages are the copies, who has the right to commit alone meets no stale block
abbrev pub FloorMeetsNoStale : Type 0
FloorMeetsNoStale = (shared : Bool) (caller : ℕ) (stamps : Stamps) (live : LiveTables) (mine : PagesState) → HoldsFloor stamps live mine → AllFresh shared caller stamps live mine mine

-- and then no block is the least stale one
abbrev pub FreshIsNotStale : Type 0
FreshIsNotStale = (shared : Bool) (caller : ℕ) (stamps : Stamps) (live : LiveTables) (mine pages : PagesState) (block : ℕ) → AllFresh shared caller stamps live mine pages → IsLeastStale shared caller stamps live mine pages block → ⊥

-- the least stale block is one alone
abbrev pub LeastIsOne : Type 0
LeastIsOne = (shared : Bool) (caller : ℕ) (stamps : Stamps) (live : LiveTables) (mine pages : PagesState) (block other : ℕ) → IsLeastStale shared caller stamps live mine pages block → IsLeastStale shared caller stamps live mine pages other → block ≡ other
