-- What a call gathered, as the driver looks at it.
use Rattle.std.specs.List.{AllByRecursion}
use Rattle.std.specs.Prelude.{ℕ, ◌≡◌, ◌⊎◌, Bool, false, Option, Some, if◌then◌else◌, is_some, IfSome, length, nat_eq}
use Rattle.mb_calls.specs.Following.{IsGoingFor, ViewGrows}
use Rattle.mb_calls.specs.Performed.{FitsCall, IsRight}
use Rattle.mb_calls.specs.declared.performing.Performed.{Performed}
use Rattle.mb_calls.specs.declared.resuming.Performing.{Performing}
use Rattle.mb_cache.specs.Kept.{kept_at, shown}
use Rattle.mb_core_spec.specs.Copies.{PagesState, TableCopy, no_pages}
use Rattle.mb_iface.specs.Needs.{blocks_of}
use Rattle.mb_iface.specs.declared.replies.Need.{Need}
use Rattle.mb_kinds.specs.declared.calls.Call.{Call}

-- a block was gathered; block 0 stands for the tables
abbrev pub has : PagesState → ℕ → Bool
has pages block = if nat_eq block 0 then is_some pages.tables else is_some (kept_at pages.blocks block)

-- the tables, once they were gathered, have a session for each declared caller
abbrev pub HasTablesFor : ℕ → PagesState → Type 0
HasTablesFor callers pages = IfSome pages.tables (λ (given : TableCopy). length given.sessions ≡ callers)

-- what a call comes to that is performed over gathered pages, at that moment
abbrev pub PerformsOver : PagesState → ℕ → Call → ℕ → Performed → Type 0
PerformsOver pages caller call moment result = IfSome pages.tables (λ (given : TableCopy).
    IsRight (shown pages.blocks) given.sessions given.opens caller call moment result × FitsCall given.sessions caller call result)

-- ---- a call that goes on over more pages

-- how far it followed its paths over what it gathered, and the plan that it keeps
abbrev pub IsUnderWay : PagesState → ℕ → Call → Option Performing → Type 0
IsUnderWay pages caller call way = IfSome way (λ (on : Performing). IfSome pages.tables (λ (given : TableCopy).
    IsGoingFor (shown pages.blocks) given.sessions caller call on))

-- none of the blocks that are asked for was gathered
abbrev pub LacksAll : PagesState → Need → Type 0
LacksAll pages need = AllByRecursion (λ (block : ℕ). has pages block ≡ false) (blocks_of need)

-- what was gathered is there, with the same bytes, and so are the tables
pub record PagesGrow (before now : PagesState) : Type 0 where
  pub blocks : ViewGrows (shown before.blocks) (shown now.blocks)
  pub tables : IfSome before.tables (λ (given : TableCopy). now.tables ≡ Some given)

-- what a call has after it asked for blocks: nothing, or more, if it had none of them
abbrev pub PagesGrowBy : Need → PagesState → PagesState → Type 0
PagesGrowBy need before now = (now ≡ no_pages) ⊎ (LacksAll before need → PagesGrow before now)
