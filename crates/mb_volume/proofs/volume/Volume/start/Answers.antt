use Rattle.std.proofs.Common.{◌<◌, ap, arith, length, subst, sym}
use Rattle.std.specs.Option.{IsSome}
use Rattle.mb_run.specs.CoreSight.{sight_of}
use Rattle.mb_run.specs.Sights.{Limits}
use Rattle.mb_volume.specs.Parts.{stand_in}
use Rattle.mb_volume.specs.Shared.{Shared}
use Rattle.mb_volume.proofs.Changing.{has_stand}
use Rattle.mb_volume.proofs.volume.Volume.start.Goals as goal

pub start-requires-clause-stands : goal.start-requires-clause-stands
start-requires-clause-stands g c = λ caller low.
    let declared : caller < (sight_of c.args.core.core).config.callers = omega (arith, low, ap length c.as_slice.ensures.creds, ap (λ (limits : Limits). limits.callers) c.config.ensures) in
    subst (λ (s : Shared g.row.F.Denot g.row.D.Denot). IsSome (stand_in (sight_of s.core.core) caller)) (sym c.in_ok-shared.ensures.shared) (has_stand (sight_of c.args.core.core) caller declared)
