-- A core as it is begun.
use Rattle.std.specs.Prelude.{List, [], None, false, length, map, replicate}
use Rattle.mb_kinds.specs.declared.credentials.Cred.{Cred}
use Rattle.mb_edge.specs.Damage.{OpenCounts}
use Rattle.mb_tree.specs.Opening.{first_seat}
use Rattle.mb_cache.specs.State.{CacheState}
use Rattle.mb_core_spec.specs.Copies.{LiveTables, no_pages}
use Rattle.mb_core_spec.specs.State.{CallerState, CoreState, JournalRoom}
use Rattle.mb_core_spec.specs.declared.config.Config.{Config}
use Rattle.mb_core_spec.specs.declared.stages.Stage.TheVariants as stage

-- a caller that did not begin a call
abbrev pub idle : CallerState
idle = record { begun = 0; flight = None; answer = None; inside = false; undo = []; reserved = None; stales = 0; pages = no_pages }

-- the callers' sessions as they begin, saved as they are, over a table of open files
abbrev pub first_tables : List Cred → OpenCounts → LiveTables
first_tables creds opens = record { sessions = map first_seat creds; saved = map first_seat creds; opens = opens; stamp = 0 }

-- over a cache with the swept volume, and a table of open files
abbrev pub begun_core : {F D : Type 0} → F → D → Config → CacheState D → OpenCounts → JournalRoom → CoreState F D
begun_core fs first config cache opens room = record {
  first = first;
  fs = fs;
  cache = cache;
  tables = first_tables config.callers opens;
  journal = record { history = []; records = []; trail = []; oplog = []; sealed_at = 0; room = room };
  callers = replicate (length config.callers) idle;
  floor = None;
  stage = stage.Running;
  incarnation = 0;
  config = config;
}
