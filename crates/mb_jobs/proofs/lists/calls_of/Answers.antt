use Rattle.std.proofs.Common.{refl}
use Rattle.mb_jobs.proofs.Listed.{IsListed-none}
use Rattle.mb_jobs.proofs.lists.calls_of.Goals as goal

pub texts-init : goal.texts-init
texts-init c = rw c.in_ok-with_capacity.ensures.items (record { rest = refl; listed = IsListed-none })
