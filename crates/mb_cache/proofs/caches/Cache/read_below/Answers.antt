use Rattle.std.proofs.Common.{◌∙◌, subst, sym, ap, refl}
use Rattle.mb_edge.specs.Blocks.{GivesBlock}
use Rattle.mb_cache.specs.Clean.{AreClean, read_as}
use Rattle.mb_cache.specs.Pages.{page_at}
use Rattle.mb_cache.proofs.Cleaning.{gives_clean, promoted_clean, rereads_missing, still_missing}
use Rattle.mb_cache.proofs.caches.Cache.read_below.Goals as goal

pub invariant_of-self : goal.invariant_of-self
invariant_of-self g c = subst (AreClean (g.D.Disk.told c.self.inside.disk)) (sym c.read.ensures.first)
    (promoted_clean (g.D.Disk.told c.self.inside.disk) c.self.inside.clean c.args.block c.self.invariant)

pub returns-then-read-clause-bytes : goal.returns-then-read-clause-bytes
returns-then-read-clause-bytes g c = subst (λ cache. GivesBlock (g.D.Disk.told cache.disk) c.args.block c.read.new.bytes) c.self.view_is
    (gives_clean (g.D.Disk.told c.self.inside.disk) c.self.inside.clean c.args.block c.read.new.bytes c.self.invariant (c.if-read.ensures.found refl))

pub returns-then-read-clause-held : goal.returns-then-read-clause-held
returns-then-read-clause-held g c = subst (AreClean (g.D.Disk.told c.self.inside.disk)) (sym c.read.ensures.first)
    (promoted_clean (g.D.Disk.told c.self.inside.disk) c.self.inside.clean c.args.block c.self.invariant)

pub invariant_of-self-2 : goal.invariant_of-self-2
invariant_of-self-2 g c = subst (AreClean (g.D.Disk.told c.self.inside.disk)) (sym c.read.ensures.first)
    (promoted_clean (g.D.Disk.told c.self.inside.disk) c.self.inside.clean c.args.block c.self.invariant)

pub read_disk-requires : goal.read_disk-requires
read_disk-requires g c = ap (λ pages. page_at pages c.args.block) c.read.ensures.first
    ∙ still_missing c.self.inside.clean c.args.block (c.if-read.ensures.missed refl)

pub returns-clause-clean : goal.returns-clause-clean
returns-clause-clean g c = rw (← c.self.view_is)
    (rereads_missing c.self.inside.clean c.read.new.self c.args.block c.self.inside.disk c.read_disk.new.self.disk c.read_disk.new.self.room.clean (read_as c.read_disk.result c.read_disk.new.bytes) (c.if-read.ensures.missed refl) c.read.ensures.first c.read_disk.ensures.clean)
