use Rattle.mb_call_pairs.proofs.images.+add_parts.Given as goal

abbrev pub decreases-add_parts : goal.decreases-add_parts
decreases-add_parts l = l.levels
