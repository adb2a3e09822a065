use Rattle.mb_file_walks.proofs.volumes.+held_under.Given as goal

abbrev pub decreases-held_under : goal.decreases-held_under
decreases-held_under l = l.levels
