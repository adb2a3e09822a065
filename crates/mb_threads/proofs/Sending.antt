-- A core and what holds it may move to another thread where the file system's code and the disk may.
use denote.RattleType.{RattleType}
use denote.Ref.{NamedLft}
use denote.Param.Send.{IsSend, IsSync, sendable}
use Rattle.std.proofs.Crossing.{crosses}
use Rattle.mb_edge.specs.declared.disks.Disk.{Ghosts as DiskGhosts}
use Rattle.mb_core_state.specs.contracts.fields.Fields.{the_row as fields_row}
use Rattle.mb_core_events.specs.contracts.events.Core.{the_row as core_row}
use Rattle.mb_volume.specs.contracts.shared.SharedCore.{the_row as shared_row}
use Rattle.mb_volume.specs.contracts.volume.Volume.{the_row as volume_row}
use Rattle.mb_cache.proofs.caches.Cache.TheSendSync.{the_send as cache_send}
use Rattle.mb_tables.proofs.tables.Tables.TheSendSync.{the_send as tables_send}
use Rattle.mb_journal.proofs.journals.Journal.TheSendSync.{the_send as journal_send}
use Rattle.mb_copies.proofs.blocks.Blocks.TheSendSync.{the_send as blocks_send}
use Rattle.mb_callers.proofs.callers.Callers.TheSendSync.{the_send as callers_send}
use Rattle.mb_callers.proofs.pages.Pages.TheSendSync.{the_send as pages_send}
use Rattle.mb_jobs.proofs.jobs.JobCall.TheSendSync.{the_sync as call_syncs}
use Rattle.std.specs.declared.clone.Clone.{Ghosts as CloneGhosts}
use Rattle.mb_iface.specs.declared.systems.FileSys.{Ghosts as FileSysGhosts}
use Rattle.mb_turn.proofs.Sending.{pass_send, turn_sync}
use Rattle.mb_threads.specs.contracts.worker.Worker.{the_row as worker_row}

pub fields_send : (F D : RattleType) (g : DiskGhosts D.Denot) → IsSend F → IsSend D → IsSend (fields_row F D g)
fields_send F D g code disk = search (sendable, crosses, cache_send, tables_send, journal_send, callers_send, blocks_send) depth 60 fits 20000

pub core_send : (F D : RattleType) (g : DiskGhosts D.Denot) → IsSend F → IsSend D → IsSend (core_row F D g)
core_send F D g code disk = search (sendable, crosses, fields_send) depth 60

pub shared_send : (F D : RattleType) (g : DiskGhosts D.Denot) → IsSend F → IsSend D → IsSend (shared_row F D g)
shared_send F D g code disk = search (sendable, crosses, core_send, pages_send) depth 60 fits 20000

pub volume_sync : (F D : RattleType) (f : FileSysGhosts F.Denot) (h : CloneGhosts F.Denot) (g : DiskGhosts D.Denot) → IsSend F → IsSend D → IsSync (volume_row F D f h g)
volume_sync F D f h g code disk = search (sendable, crosses, turn_sync, shared_send) depth 60

pub worker_send : (r : NamedLft) (F D H : RattleType) (f : FileSysGhosts F.Denot) (h : CloneGhosts F.Denot) (g : DiskGhosts D.Denot) → IsSend F → IsSend D → IsSend H → IsSend (worker_row r F D H f h g)
worker_send r F D H f h g code disk hook = search (sendable, crosses, pass_send, shared_send, call_syncs) depth 60 fits 20000
