-- What a refusal of the image is told as.
use Rattle.std.proofs.Common.{ℕ, Option, refl}
use Rattle.mb_check.specs.declared.scans.OpenFault.{OpenFault}
use Rattle.mb_check.specs.declared.scans.OpenFault.TheVariants as faults
use Rattle.mb_core_events.specs.Beginning.{IsRefused}
use Rattle.mb_jobs.specs.declared.jobs.Job.{Job}
use Rattle.mb_kinds.specs.Image.{Image}
use Rattle.mb_program.proofs.CheckLemmas.{unsound_by}
use Rattle.mb_program.specs.Outcomes.{ComesOfJob, IsRefusedAs}
use Rattle.mb_program.specs.declared.finish.Held.TheVariants as held
use Rattle.mb_program.specs.declared.manners.Manner.{Manner}
use Rattle.mb_program.specs.declared.outcomes.Outcome.{Outcome}
use Rattle.mb_program.specs.declared.outcomes.Outcome.TheVariants.{DiskFault, OutOfMemory, Unsound}

-- the disk that a refusal gives back
pub comes_of_refusal : {D : Type 0} (told : D → Option Image) (count : D → ℕ) (manner : Manner) (job : Job) (disk back : D) (fault : OpenFault) (outcome : Outcome)
    → IsRefused told count disk fault back → IsRefusedAs fault outcome → ComesOfJob told count manner job disk (held.Disk back) outcome
comes_of_refusal told count manner job disk back (faults.Unsound block rule) (Unsound line) is says = (is.tells, unsound_by (told disk) block rule line says is.scan)
comes_of_refusal told count manner job disk back (faults.Unsound block rule) OutOfMemory is says = is.tells
comes_of_refusal told count manner job disk back (faults.Unsound block rule) _ is says = absurd says
comes_of_refusal told count manner job disk back faults.Device DiskFault is says = (is.tells, is.device refl)
comes_of_refusal told count manner job disk back faults.Device OutOfMemory is says = is.tells
comes_of_refusal told count manner job disk back faults.Device _ is says = absurd says
comes_of_refusal told count manner job disk back faults.NoMemory OutOfMemory is says = is.tells
comes_of_refusal told count manner job disk back faults.NoMemory _ is says = absurd says
