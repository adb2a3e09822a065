use Rattle.std.proofs.Common.{◌≡◌, None, subst, IfSome}
use Rattle.std.specs.Option.{option_or}
use Rattle.mb_cache.specs.Pages.{page_at}
use Rattle.mb_cache.specs.State.{seen}
use Rattle.mb_cache.proofs.Looks.{none_found, read_unpaged, seen_paged}
use Rattle.mb_cache.proofs.caches.Cache.read.Goals as goal

pub returns-in-Some-clause-bytes : goal.returns-in-Some-clause-bytes
returns-in-Some-clause-bytes g c =
    subst (λ cache. IfSome (seen g.D.Disk.told cache) (λ view. c.in-Some.page.now ≡ view.at c.args.block)) c.self.view_is
    (seen_paged (g.D.Disk.told c.self.inside.disk) c.self.inside.layers.sealed c.self.inside.layers.current c.args.block c.in-Some.page.now c.in-Some.ensures)

pub returns-clause-bytes : goal.returns-clause-bytes
returns-clause-bytes g c = read_unpaged c.read_below.result (g.D.Disk.told c.args.self.now.disk) c.args.self.now.sealed c.args.self.now.current c.args.block c.read_below.new.bytes
    (subst (λ cache. None ≡ option_or (page_at cache.current c.args.block) (page_at cache.sealed c.args.block)) c.self.view_is
    (none_found _ c.get.result _ c.in_default.not-Some c.get.ensures))
    c.read_below.ensures.bytes
