use Rattle.mb_file.proofs.walks.+lacking_under.Given as goal

abbrev pub decreases-lacking_under : goal.decreases-lacking_under
decreases-lacking_under g l = l.levels
