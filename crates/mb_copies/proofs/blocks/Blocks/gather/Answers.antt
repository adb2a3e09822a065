use Rattle.std.proofs.Common.{◌∙◌, ap, subst, sym}
use Rattle.mb_cache.specs.State.{seen}
use Rattle.mb_copies.specs.Reads.{GathersSeen, stored}
use Rattle.mb_copies.proofs.Seen.{gathers_seen}
use Rattle.mb_copies.proofs.blocks.Blocks.gather.Goals as goal

pub returns-clause-ok : goal.returns-clause-ok
returns-clause-ok g c =
    let is = c.take.ensures.items ∙ ap (λ copies. stored copies c.fetch.new.self) (c.reserve.ensures.same ∙ c.self.view_is) in
    subst (GathersSeen (seen g.D.Disk.told c.args.cache.now) c.args.need c.args.self.now) (sym is)
    (gathers_seen (seen g.D.Disk.told c.args.cache.now) c.args.cache.now.stamps c.args.self.now c.fetch.new.self c.args.need c.in_ok-fetch.ensures.ok c.in_ok-fetch.ensures.numbers)
