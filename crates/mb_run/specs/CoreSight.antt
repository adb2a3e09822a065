-- What a driver sees of a core for eight callers.
use Rattle.std.specs.Prelude.{[], ◌∷◌, ℕ, Bool, true, ◌&&◌, nat_eq, Option, None, Some, length, slice_get}
use Rattle.mb_cache.specs.Stamps.{Stamps, stamp_of}
use Rattle.mb_core_spec.specs.Callers.{begun, insiders}
use Rattle.mb_cache.specs.Kept.{CopyList, KeptBlock, kept_at}
use Rattle.mb_core_spec.specs.Copies.{LiveTables, PagesState, TableCopy, no_pages}
use Rattle.mb_core_spec.specs.Numbers.{open_calls}
use Rattle.mb_core_spec.specs.State.{CallerState, CoreState}
use Rattle.mb_run.specs.Sights.{SightSeat, Sight, limits_of, steps_left}

abbrev pub seat_of : Option CallerState → SightSeat
seat_of None = record { begun = 0; flight = None }
seat_of (Some mine) = record { begun = mine.begun; flight = mine.flight }

abbrev pub pages_kept : Option CallerState → PagesState
pages_kept None = no_pages
pages_kept (Some mine) = mine.pages

abbrev pub stales_of : Option CallerState → ℕ
stales_of None = 0
stales_of (Some mine) = mine.stales

-- ---- whether all that a call keeps has the present stamps

abbrev pub is_block_fresh : Stamps → ℕ → Option KeptBlock → Bool
is_block_fresh stamps block None = true
is_block_fresh stamps block (Some kept) = nat_eq kept.stamp (stamp_of stamps block)

abbrev pub are_blocks_fresh : Stamps → CopyList → CopyList → Bool
are_blocks_fresh stamps all [] = true
are_blocks_fresh stamps all (copy ∷ copies) = is_block_fresh stamps copy.0 (kept_at all copy.0) && are_blocks_fresh stamps all copies

abbrev pub are_tables_fresh : LiveTables → Option TableCopy → Bool
are_tables_fresh live None = true
are_tables_fresh live (Some kept) = nat_eq kept.stamp live.stamp

abbrev pub is_fresh : Stamps → LiveTables → PagesState → Bool
is_fresh stamps live pages = are_blocks_fresh stamps pages.blocks pages.blocks && are_tables_fresh live pages.tables

-- ---- the whole

abbrev pub sight_of : {F D : Type 0} → CoreState F D → Sight
sight_of core = record {
  history = core.journal.history;
  records = core.journal.records;
  trail = core.journal.trail;
  seats = λ caller. seat_of (slice_get core.callers caller);
  copies = λ caller. pages_kept (slice_get core.callers caller);
  stales = λ caller. stales_of (slice_get core.callers caller);
  fresh = λ caller. is_fresh core.cache.stamps core.tables (pages_kept (slice_get core.callers caller));
  begun = begun core.callers;
  open_calls = open_calls core.callers;
  floor = core.floor;
  stage = core.stage;
  incarnation = core.incarnation;
  left = steps_left (insiders core.callers) (length core.journal.oplog) core.stage;
  ops = length core.journal.oplog;
  sealed_at = core.journal.sealed_at;
  current = length core.cache.current;
  sealed = length core.cache.sealed;
  config = limits_of core.config;
}
