use Rattle.mb_cache.specs.Kept.{shown}
use Rattle.mb_copies.proofs.Renewals.{renewed_part}
use Rattle.mb_copies.proofs.blocks.Blocks.follow.Goals as goal

pub returns-else-len-gt128-clause-part : goal.returns-else-len-gt128-clause-part
returns-else-len-gt128-clause-part c = λ blocks part.
    renewed_part (shown c.self.inside.copies.items) (shown c.renew.new.self.items) c.args.changes.now c.renew.ensures blocks (rw (← c.self.view_is) at part)
