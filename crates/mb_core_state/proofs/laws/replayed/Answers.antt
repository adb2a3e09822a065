use Rattle.mb_core_state.proofs.Replays.{replay_event}
use Rattle.mb_core_state.proofs.laws.replayed.Goals as goal

pub returns : goal.returns
returns g c = λ old new done logged restored next is few same later entries.
    replay_event g.D.Disk.told g.D.Disk.faults c.installs.ensures.reads c.installs.ensures.raises c.counts_follow_operations.ensures.replay old new done logged is restored next few same later entries
