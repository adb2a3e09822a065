use Rattle.mb_core_order.proofs.Rights.{right_flushes}
use Rattle.mb_core_order.proofs.Conditions.{was_told, still_tells}
use Rattle.mb_core_order.proofs.laws.page_is_flushed.Goals as goal

pub returns : goal.returns
returns g c = λ core disk sealed r may. right_flushes g.D.Disk.told g.D.Disk.faults core r disk sealed
    (λ first image began now. was_told (g.D.Disk.told core.cache.disk) (g.D.Disk.told disk) core.cache.sealed sealed image (r.tells first began) now may.alike)
    (λ tells. still_tells (g.D.Disk.told core.cache.disk) (g.D.Disk.told disk) core.cache.sealed sealed tells may.alike) may.later
