use Rattle.std.proofs.Common.{◌≡◌, ◌≤◌, Some}
use Rattle.mb_kinds.specs.Image.{Image}
use Rattle.mb_tree.specs.Views.{IsPart}
use Rattle.mb_cache.specs.State.{seen}
use Rattle.mb_cache.specs.Kept.{shown}
use Rattle.mb_core_state.proofs.Missing.{lacking}
use Rattle.mb_core_state.proofs.acting.act_seen.Given as goal

abbrev pub invariant-asks : goal.invariant-asks
invariant-asks g l = record {
  rest : l.cache ≡ record l.fn.cache { disk = l.cache.disk; room = record l.fn.cache.room { clean = l.cache.room.clean } };
  told : g.D.Disk.told l.cache.disk ≡ g.D.Disk.told l.fn.cache.disk;
  later : g.D.Disk.faults l.fn.cache.disk ≤ g.D.Disk.faults l.cache.disk;
  part : (view : Image) → seen g.D.Disk.told l.fn.cache ≡ Some view → IsPart (shown l.blocks) view.at;
}

abbrev pub decreases-asks : goal.decreases-asks
decreases-asks g l = lacking l.blocks
