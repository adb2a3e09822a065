use Rattle.mb_tables.proofs.Following.{follows_effect, follows_replay}
use Rattle.mb_tables.proofs.laws.counts_follow_operations.Goals as goal

pub returns : goal.returns
returns c = record { effect = follows_effect; replay = follows_replay }
