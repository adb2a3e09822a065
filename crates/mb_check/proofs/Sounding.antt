-- The end of a scan, as it is told.
use Rattle.std.proofs.Common.{◌≡◌, ℕ, List, [], length, Some, Result, Ok, Err, sym, ap, subst}
use Rattle.std.specs.Result.{IsErr, IsErrAnd}
use Rattle.mb_kinds.specs.Image.{Image}
use Rattle.mb_rules.specs.declared.findings.Finding.{Finding}
use Rattle.mb_rules.specs.Items.{finding, walked}
use Rattle.mb_rules.specs.Scan.{scan, scan_items}
use Rattle.mb_rules.specs.TreeOf.{chain_of, tree_of}
use Rattle.mb_scan_laws.proofs.Scans.{accepted, accepts}
use Rattle.mb_check_files.specs.Findings.{Finds}
use Rattle.mb_check_files.specs.declared.stops.Stop.{Stop}
use Rattle.mb_check_files.specs.declared.stops.Stop.TheVariants.{Broken, Device, NoMemory}
use Rattle.mb_check_files.specs.declared.surveys.VolumeFiles.{VolumeFiles}
use Rattle.mb_check.specs.declared.scans.OpenFault.{OpenFault}
use Rattle.mb_check.specs.declared.scans.Scan.{Scan}
use Rattle.mb_check.specs.Whole.{IsScanned, IsSoundAs, IsUnsound, Tells, fault_of}

-- an error that was made from another one
pub came_as : {T : Type 0} (r : Result T OpenFault) (fault : OpenFault) → IsErr r × IsErrAnd r (λ e. e ≡ fault) → r ≡ Err fault
came_as (Ok x) fault h = (let no = h.0 in absurd (cc))
came_as (Err e) fault h = ap (λ (f : OpenFault). Err f) h.1

module _ (image : Image) where
  scan_by : (answer : Result (List ℕ) Finding) → walked [] (scan_items image) ≡ answer → scan image ≡ finding answer
  unfolding scan
  scan_by answer h = ap finding h

  unsound : (broken : Finding) → walked [] (scan_items image) ≡ Err broken → IsUnsound image broken.block broken.rule
  unsound broken h =
      let found : scan image ≡ Some broken = scan_by (Err broken) h in
      record { found = found; no_volume = λ tree volume. (let none = accepted image tree volume in absurd (cc)) }

  pub stop_scanned : (stop : Stop) (r : Result Scan OpenFault) → r ≡ Err (fault_of stop) → Finds {T = VolumeFiles} (Err stop) [] (scan_items image) → IsScanned image r
  stop_scanned (Broken broken) r is h = subst (IsScanned image) (sym is) (unsound broken h)
  stop_scanned Device r is h = subst (IsScanned image) (sym is) tt
  stop_scanned NoMemory r is h = subst (IsScanned image) (sym is) tt

  pub sound_as : ((block : ℕ) → length (image.at block) ≡ 512) → (after : List ℕ) → walked [] (scan_items image) ≡ Ok after → (told : Scan) → Tells (tree_of image) (length (chain_of image.at)) told → IsSoundAs image told
  sound_as whole after h told tells = (let none = scan_by (Ok after) h in record { none = none; volume = accepts image whole none; tells = tells })
