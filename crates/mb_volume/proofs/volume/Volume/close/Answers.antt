use Rattle.std.proofs.Common.{◌≡◌, ◌≤◌, subst, sym}
use Rattle.std.specs.List.{AllByRecursion}
use mathlib.Core.List.{IsPrefix}
use Rattle.mb_kinds.specs.Own.{own}
use Rattle.mb_run.specs.CoreSight.{sight_of}
use Rattle.mb_run.specs.Sights.{amiss_in}
use Rattle.mb_turn.specs.Passes.{Known}
use Rattle.mb_volume_core.specs.declared.volume_core.VolumeCore.{VolumeCore}
use Rattle.mb_volume.specs.Parts.{stand_in}
use Rattle.mb_volume.specs.Passing.{seen_by}
use Rattle.mb_volume.specs.Shared.{Shared}
use Rattle.mb_volume.proofs.volume.Volume.close.Goals as goal

pub returns-clause-seen : goal.returns-clause-seen
returns-clause-seen g c =
    subst (λ (core : VolumeCore g.row.F.Denot g.row.D.Denot). AllByRecursion (λ (pass : Known (Shared g.row.F.Denot g.row.D.Denot)). IsPrefix (seen_by pass).history (sight_of core.core).history) c.args.passes.items)
    (sym c.into_core.ensures.core) c.close.ensures.seen

pub returns-clause-mine : goal.returns-clause-mine
returns-clause-mine g c =
    subst (λ (core : VolumeCore g.row.F.Denot g.row.D.Denot). AllByRecursion (λ (pass : Known (Shared g.row.F.Denot g.row.D.Denot)). own (sight_of core.core).history pass.caller ≡ own (seen_by pass).history pass.caller) c.args.passes.items)
    (sym c.into_core.ensures.core) c.close.ensures.mine

pub returns-clause-stand : goal.returns-clause-stand
returns-clause-stand g c =
    subst (λ (core : VolumeCore g.row.F.Denot g.row.D.Denot). AllByRecursion (λ (pass : Known (Shared g.row.F.Denot g.row.D.Denot)). stand_in (sight_of core.core) pass.caller ≡ stand_in (seen_by pass) pass.caller) c.args.passes.items)
    (sym c.into_core.ensures.core) c.close.ensures.stand

pub returns-clause-seals : goal.returns-clause-seals
returns-clause-seals g c =
    subst (λ (core : VolumeCore g.row.F.Denot g.row.D.Denot). AllByRecursion (λ (pass : Known (Shared g.row.F.Denot g.row.D.Denot)). amiss_in (sight_of core.core) ≤ amiss_in (seen_by pass)) c.args.passes.items)
    (sym c.into_core.ensures.core) c.close.ensures.tally
