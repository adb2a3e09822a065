use Rattle.std.proofs.Common.{subst, sym}
use Rattle.mb_cache.specs.Clean.{AreClean}
use Rattle.mb_cache.proofs.Cleaning.{put_clean}
use Rattle.mb_cache.proofs.caches.Cache.read_disk.Goals as goal

pub invariant_of-self-2 : goal.invariant_of-self-2
invariant_of-self-2 g c = subst (λ told. AreClean told c.put.new.self) (sym c.read.ensures.told)
    (put_clean (g.D.Disk.told c.self.inside.disk) c.self.inside.clean c.put.new.self c.args.block c.read.new.into c.self.invariant c.in-Ok.ensures.bytes c.put.ensures)

pub returns-clause-held : goal.returns-clause-held
returns-clause-held g c = invariant_of-self-2 g c
