-- What a scan that is told says of the disk.
use Rattle.std.proofs.Common.{List, ◌≡◌, ℕ, Option, Result, Ok, Err, IfSome}
use Rattle.mb_check.specs.Whole.{IsScanned}
use Rattle.mb_check.specs.Whole as whole
use Rattle.mb_check.specs.declared.scans.OpenFault.{OpenFault}
use Rattle.mb_check.specs.declared.scans.OpenFault.TheVariants as faults
use Rattle.mb_check.specs.declared.scans.Scan.{Scan}
use Rattle.mb_edge.specs.Causes.{Rose}
use Rattle.mb_kinds.specs.Image.{Image}
use Rattle.mb_program.specs.Outcomes.{ComesOfCheck, IsDiskFailure, IsRefusedAs, IsToldAs, IsUnsoundBy}
use Rattle.mb_program.specs.declared.finish.Held.TheVariants as held
use Rattle.mb_program.specs.declared.outcomes.Outcome.{Outcome}
use Rattle.mb_program.specs.declared.outcomes.Outcome.TheVariants.{Checked, DiskFault, OutOfMemory, Unsettled, Unsound}

pub unsound_by : (told : Option Image) (block rule : ℕ) (line : List ℕ) → IsRefusedAs (faults.Unsound block rule) (Unsound line) → IfSome told (λ image. IsScanned image (Err (faults.Unsound block rule)))
    → IsUnsoundBy told line
unsound_by told block rule line says scan = record { block = block; rule = rule; says = says; unsound = scan }

pub comes_of_check : {D : Type 0} (told : D → Option Image) (count : D → ℕ) (disk back : D) (scanned : Result Scan OpenFault) (outcome : Outcome)
    → IsToldAs scanned outcome → IfSome (told disk) (λ image. IsScanned image scanned) → told back ≡ told disk → (whole.IsDiskFault scanned → Rose (count disk) (count back))
    → ComesOfCheck told count disk (held.Disk back) outcome
comes_of_check told count disk back (Ok figures) (Checked line) says scan given rose = (given, record { figures = figures; says = says; sound = scan })
comes_of_check told count disk back (Ok figures) OutOfMemory says scan given rose = given
comes_of_check told count disk back (Ok figures) _ says scan given rose = absurd says
comes_of_check told count disk back (Err (faults.Unsound block rule)) (Unsound line) says scan given rose = (given, unsound_by (told disk) block rule line says scan)
comes_of_check told count disk back (Err (faults.Unsound block rule)) OutOfMemory says scan given rose = given
comes_of_check told count disk back (Err (faults.Unsound block rule)) _ says scan given rose = absurd says
comes_of_check told count disk back (Err faults.Device) DiskFault says scan given rose = (given, rose tt)
comes_of_check told count disk back (Err faults.Device) OutOfMemory says scan given rose = given
comes_of_check told count disk back (Err faults.Device) _ says scan given rose = absurd says
comes_of_check told count disk back (Err faults.NoMemory) OutOfMemory says scan given rose = given
comes_of_check told count disk back (Err faults.NoMemory) _ says scan given rose = absurd says

pub device_of_check : (scanned : Result Scan OpenFault) (outcome : Outcome) → IsToldAs scanned outcome → IsDiskFailure outcome → whole.IsDiskFault scanned
device_of_check (Ok figures) DiskFault says failed = says
device_of_check (Ok figures) (Unsettled text) says failed = says
device_of_check (Ok figures) _ says failed = absurd failed
device_of_check (Err (faults.Unsound block rule)) DiskFault says failed = says
device_of_check (Err (faults.Unsound block rule)) (Unsettled text) says failed = says
device_of_check (Err (faults.Unsound block rule)) _ says failed = absurd failed
device_of_check (Err faults.Device) outcome says failed = tt
device_of_check (Err faults.NoMemory) DiskFault says failed = says
device_of_check (Err faults.NoMemory) (Unsettled text) says failed = says
device_of_check (Err faults.NoMemory) _ says failed = absurd failed
