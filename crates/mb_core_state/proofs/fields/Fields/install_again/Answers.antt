use Rattle.std.proofs.Common.{ap}
use Rattle.mb_core_state.proofs.Kept.{followed_seen}
use Rattle.mb_core_state.proofs.fields.Fields.install_again.Goals as goal

pub invariant_of-self-2 : goal.invariant_of-self-2
invariant_of-self-2 g c =
    followed_seen g.D.Disk.told c.self.inside.cache c.install.new.self c.args.changes.now c.self.inside.kept c.follow.new.self c.seen_in_layers.ensures c.installs.ensures.reads c.requires.are
    (ap (λ cache. g.D.Disk.told cache.disk) c.install.ensures.installed) (ap (λ cache. cache.sealed) c.install.ensures.installed) (ap (λ cache. cache.current) c.install.ensures.installed) c.follow.ensures.part c.self.invariant
