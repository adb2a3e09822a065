use Rattle.std.proofs.Common.{◌≤◌, length}
use Rattle.mb_copies.proofs.places.Places.clear.Given as goal

abbrev pub invariant-blocks-2 : goal.invariant-blocks-2
invariant-blocks-2 l = l.fn.self.spare ≤ l.self.spare

abbrev pub decreases-blocks-2 : goal.decreases-blocks-2
decreases-blocks-2 l = length l.self.items
