-- A core in order does not look at the cache's room.
use Rattle.std.proofs.Common.{ℕ, Option}
use Rattle.mb_kinds.specs.Image.{Image}
use Rattle.mb_cache.specs.State.{CacheRoom}
use Rattle.mb_core_order.proofs.Orderlies.{orderly_roomy}
use Rattle.mb_core_spec.specs.Right.{Right}
use Rattle.mb_core_spec.specs.State.{CoreState}

pub right_roomy : {F D : Type 0} (told : D → Option Image) (faults : D → ℕ) (core : CoreState F D) → Right told faults core → (room : CacheRoom)
    → Right told faults (record core { cache = record core.cache { room = room } })
right_roomy told faults core r room = record {
  holds = λ first image tree began now volume. (let h = r.holds first image tree began now volume in record { legal = h.legal; checkpoint = h.checkpoint; replay = h.replay; view = h.view });
  seen = r.seen;
  tells = r.tells;
  orderly = orderly_roomy core r.orderly room;
  later = r.later;
  devices = r.devices;
}
