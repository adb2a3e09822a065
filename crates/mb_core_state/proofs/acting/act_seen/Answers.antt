use Rattle.mb_cache.specs.State.{seen}
use Rattle.mb_cache.specs.Kept.{shown}
use Rattle.mb_core_state.proofs.Missing.{fewer_lack}
use Rattle.mb_core_state.proofs.acting.act_seen.Goals as goal

pub returns-in-Done-clause-ok : goal.returns-in-Done-clause-ok
returns-in-Done-clause-ok g c = record {
  pages = shown c.asks.blocks;
  picked = c.in-Done.pick;
  part = c.asks.invariant.part;
  acts = λ view tree tells volume. c.in-Done.ensures.answer view tree (c.asks.invariant.part view tells) volume;
}

pub asks-smaller : goal.asks-smaller
asks-smaller g c = fewer_lack (seen g.D.Disk.told c.asks.cache) c.asks.blocks c.gather.new.self c.in-Need.need c.in-Need.ensures.need c.in_ok-gather-in-Need.ensures.ok
