-- Which block that was handed out is stale.
use Rattle.std.specs.Prelude.{ℕ, ◌≡◌, ◌<◌, Bool, Some}
use Rattle.mb_cache.specs.Stamps.{Stamps}
use Rattle.mb_cache.specs.Kept.{KeptBlock, kept_at}
use Rattle.mb_core_spec.specs.Copies.{IsFresh, LiveTables, PagesState}
use Rattle.mb_callers.specs.Tables.{AreTablesFresh}

-- what was handed out of a block is what is kept, and it did not change since; block 0 stands for the tables
pub record IsFreshAt (shared : Bool) (caller : ℕ) (stamps : Stamps) (live : LiveTables) (mine pages : PagesState) (block : ℕ) : Type 0 where
  pub page : (page : KeptBlock) → kept_at pages.blocks block ≡ Some page → IsFresh mine.blocks stamps block page
  pub tables : block ≡ 0 → AreTablesFresh shared caller live mine.tables pages.tables

-- nothing that was handed out is stale
abbrev pub AllFresh : Bool → ℕ → Stamps → LiveTables → PagesState → PagesState → Type 0
AllFresh shared caller stamps live mine pages = (block : ℕ) → IsFreshAt shared caller stamps live mine pages block

-- the least block of which that is not so
pub record IsLeastStale (shared : Bool) (caller : ℕ) (stamps : Stamps) (live : LiveTables) (mine pages : PagesState) (block : ℕ) : Type 0 where
  pub stale : IsFreshAt shared caller stamps live mine pages block → ⊥
  pub below : (other : ℕ) → other < block → IsFreshAt shared caller stamps live mine pages other
