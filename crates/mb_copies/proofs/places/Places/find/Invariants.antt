use Rattle.mb_copies.proofs.Chains.{IsSought}
use Rattle.mb_copies.proofs.places.Places.find.Given as goal

abbrev pub invariant-links : goal.invariant-links
invariant-links l = IsSought l.block l.blocks l.link

abbrev pub decreases-links : goal.decreases-links
decreases-links l = l.link
