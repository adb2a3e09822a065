use Rattle.mb_file.proofs.walks.+lacking_index.Given as goal

abbrev pub decreases-lacking_index : goal.decreases-lacking_index
decreases-lacking_index g l = l.levels
