use Rattle.std.proofs.Common.{◌∙◌}
use Rattle.mb_frames.proofs.Callers.{fresh_other, stands_put}
use Rattle.mb_cache_walks.proofs.ring_tests.step.Goals as goal

pub unlink-requires : goal.unlink-requires
unlink-requires c = stands_put _ _ _ _ c.put-first.ensures.token.0 c.put-second.ensures.fresh c.put-second.ensures.others

pub write-requires : goal.write-requires
write-requires c = (c.unlink.ensures.others c.put-second.result (fresh_other _ _ _ c.put-first.ensures.token.0 c.put-second.ensures.fresh)).stands ∙ c.put-second.ensures.token.0
