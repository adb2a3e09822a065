use Rattle.std.proofs.Common.{◌≡◌, ◌≤◌, ◌++◌, drop}
use Rattle.std.specs.List.{range_with_len}
use Rattle.mb_iface.specs.Needs.{blocks_of}
use Rattle.mb_cache.specs.State.{seen}
use Rattle.mb_copies.specs.Reads.{AreRead, numbers}
use Rattle.mb_copies.proofs.Numbers.{others_of}
use Rattle.mb_copies.proofs.reads.Reads.fetch.Given as goal

abbrev pub invariant-loop-at : goal.invariant-loop-at
invariant-loop-at g l = record {
  rest : l.cache ≡ record l.fn.cache { disk = l.cache.disk; room = record l.fn.cache.room { clean = l.cache.room.clean } };
  told : g.D.Disk.told l.cache.disk ≡ g.D.Disk.told l.fn.cache.disk;
  later : g.D.Disk.faults l.fn.cache.disk ≤ g.D.Disk.faults l.cache.disk;
  reads : AreRead (seen g.D.Disk.told l.fn.cache) l.fn.cache.stamps l.self;
  numbers : numbers l.self ≡ range_with_len l.need.first l.at;
}

-- the run was read, and of the others those so far
abbrev pub invariant-loop-block : goal.invariant-loop-block
invariant-loop-block g l = record {
  rest : l.cache ≡ record l.fn.cache { disk = l.cache.disk; room = record l.fn.cache.room { clean = l.cache.room.clean } };
  told : g.D.Disk.told l.cache.disk ≡ g.D.Disk.told l.fn.cache.disk;
  later : g.D.Disk.faults l.fn.cache.disk ≤ g.D.Disk.faults l.cache.disk;
  reads : AreRead (seen g.D.Disk.told l.fn.cache) l.fn.cache.stamps l.self;
  items : l.block-items ≡ l.fn.need.others;
  numbers : numbers l.self ++ others_of (drop l.block-index l.block-items) ≡ blocks_of l.fn.need;
}
