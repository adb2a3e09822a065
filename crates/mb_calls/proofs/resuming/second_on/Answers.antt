use Rattle.std.proofs.Common.{subst}
use Rattle.std.specs.Prelude.{slice_get}
use Rattle.mb_calls.specs.Following.{IsKept}
use Rattle.mb_calls.specs.Looked.{paths_of}
use Rattle.mb_calls.proofs.Cutting.{same_path}
use Rattle.mb_calls.proofs.resuming.second_on.Goals as goal

pub follow-requires : goal.follow-requires
follow-requires g c = record { kept = c.requires.kept c.in-Some.path.now c.in-Some.ensures }

pub returns-in-Some : goal.returns-in-Some
returns-in-Some g c = λ path is. subst (λ p. IsKept (g.V.View.shown c.args.view.now) c.args.seat.now p c.follow.new.walk)
    (same_path (slice_get (paths_of c.args.call.now) 1) c.in-Some.path.now path c.in-Some.ensures is) c.follow.ensures.kept
