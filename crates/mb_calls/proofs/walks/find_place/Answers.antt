use Rattle.std.proofs.Common.{subst}
use Rattle.std.specs.Prelude.{Err}
use Rattle.mb_tree.specs.declared.lookups.Placed.{Placed}
use Rattle.mb_calls.specs.Asks.{NearWay}
use Rattle.mb_calls.specs.Halts.{Needs}
use Rattle.mb_calls.specs.Halts.Scope.{lacking}
use Rattle.mb_calls.specs.declared.halts.Halt.{Halt}
use Rattle.mb_calls.proofs.walks.find_place.Goals as goal

pub returns-in-Ok-clause-kept : goal.returns-in-Ok-clause-kept
returns-in-Ok-clause-kept g c = record {
  within = c.requires.kept.within;
  followed = c.requires.kept.followed;
  ahead = c.requires.kept.ahead;
  place = c.in-Ok.ensures.says;
}

pub returns-in-Err-Need-clause-lacking : goal.returns-in-Err-Need-clause-lacking
returns-in-Err-Need-clause-lacking g c = record {
  lacking = subst (λ (why : Halt). Needs {X = Placed} (lacking (g.V.View.shown c.args.view.now)) (Err why)) c.in-Err-Need.field-0-is c.in-Err-Need.ensures.wants;
  near = subst (λ (why : Halt). NearWay {X = Placed} (g.V.View.shown c.args.view.now) c.args.seat.now c.args.path.now (Err why)) c.in-Err-Need.field-0-is c.in-Err-Need.ensures.near;
}
