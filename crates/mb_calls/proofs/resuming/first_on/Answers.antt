use Rattle.std.proofs.Common.{subst}
use Rattle.std.specs.Prelude.{slice_get}
use Rattle.mb_calls.specs.Following.{IsKept}
use Rattle.mb_calls.specs.Looked.{paths_of}
use Rattle.mb_calls.proofs.Cutting.{lacking_so, same_path}
use Rattle.mb_calls.proofs.resuming.first_on.Goals as goal

pub follow_to-requires : goal.follow_to-requires
follow_to-requires g c = record { kept = c.requires.kept c.in-Some.path.now c.in-Some.ensures }

pub returns-in-Some-clause-kept : goal.returns-in-Some-clause-kept
returns-in-Some-clause-kept g c = λ path is. subst (λ p. IsKept (g.V.View.shown c.args.view.now) c.args.seat.now p c.follow_to.new.walk)
    (same_path (slice_get (paths_of c.args.call.now) 0) c.in-Some.path.now path c.in-Some.ensures is) c.follow_to.ensures.kept

pub returns-in-Some-clause-lacking : goal.returns-in-Some-clause-lacking
returns-in-Some-clause-lacking g c = lacking_so (g.V.View.shown c.args.view.now) c.args.seat.now c.args.call.now c.in-Some.path.now c.follow_to.result c.in-Some.ensures c.follow_to.ensures.lacking
