-- The operation of a plan fits without a demanded number too.
use Rattle.std.proofs.Common.{◌∷◌, ℕ, ◌≡◌, Option, Some, None, Ok, refl, subst, arith}
use Rattle.std.specs.Prelude.{bit_and, ◌-◌}
use Rattle.std.proofs.lemmas.Nat.{and_le_l, and_le_r}
use Rattle.mb_kinds.specs.declared.calls.Call.{Call}
use Rattle.mb_kinds.specs.declared.calls.Call.TheVariants as call
use Rattle.mb_tree.specs.Fits.{Fits}
use Rattle.mb_tree.specs.Machines.{IsSeated, IsValidFor}
use Rattle.mb_tree.specs.PickLaws.{repicked}
use Rattle.mb_tree.specs.Rows.{plan}
use Rattle.mb_tree.specs.SessionLaws.{IsCall}
use Rattle.mb_tree.specs.Sessions.{counts}
use Rattle.mb_tree.specs.declared.machines.Machine.{Machine}
use Rattle.mb_tree.specs.declared.operations.FsOp.{FsOp}
use Rattle.mb_tree.specs.declared.plans.CallPlan.{CallPlan}
use Rattle.mb_tree.specs.declared.seats.Seat.{Seat}
use Rattle.mb_tree.proofs.OperationsFit.{operations_fit}
use Rattle.mb_tree.proofs.Outcomes.{Outcome, outcome}
use Rattle.mb_tree.proofs.Outcomes.Outcome.{answered as out_answered, opened as out_opened, emptied as out_emptied, created as out_created, closed_shared as out_closed_shared, closed_last as out_closed_last, moved as out_moved, put as out_put, doubled as out_doubled, linked as out_linked, unlinked as out_unlinked, made as out_made, removed as out_removed, entered as out_entered, mode_set as out_mode_set, owner_set as out_owner_set, times_set as out_times_set, masked_off as out_masked_off, left as out_left, left_open as out_left_open}
use Rattle.mb_tree.proofs.PlacedNames.{place_ok}
use Rattle.mb_tree.proofs.Repicking.{replans}

abbrev FitsIf : Machine → Option FsOp → Type 0
FitsIf machine None = Unit {0}
FitsIf machine (Some op) = Fits machine.tree (counts machine.seats) op None

module _ (number : ℕ) where
  fits_out : (machine : Machine) (caller : ℕ) (seat : Seat) (moment : ℕ) → IsSeated machine.tree.nodes seat → IsValidFor machine caller → (asked : Call) (planned : CallPlan) → IsCall asked → plan machine caller asked moment None ≡ repicked planned.op None planned
      → Outcome machine.tree.nodes machine.seats seat moment (Some number) asked planned → FitsIf machine planned.op
  fits_out machine caller seat moment seated valid _ _ good again (out_answered asked answer) = tt
  fits_out machine caller seat moment seated valid _ _ good again (out_opened path how stat fd found fits ordinary free) = operations_fit machine caller (call.Open path how) moment None _ _ valid good again refl tt
  fits_out machine caller seat moment seated valid _ _ good again (out_emptied path mode ino stat fd found regular ordinary free) = operations_fit machine caller (call.Creat path mode) moment None _ _ valid good again refl tt
  fits_out machine caller seat moment seated valid _ _ good again (out_closed_shared fd file h s) = tt
  fits_out machine caller seat moment seated valid _ _ good again (out_closed_last fd file h s) = operations_fit machine caller (call.Close fd) moment None _ _ valid good again refl tt
  fits_out machine caller seat moment seated valid _ _ good again (out_moved asked answer fd offset) = tt
  fits_out machine caller seat moment seated valid _ _ good again (out_put fd file byte bytes h w) = operations_fit machine caller (call.Write fd (byte ∷ bytes)) moment None _ _ valid good again refl tt
  fits_out machine caller seat moment seated valid _ _ good again (out_doubled fd to free) = tt
  fits_out machine caller seat moment seated valid _ _ good again (out_linked from to stat dir name f d h) = operations_fit machine caller (call.Link from to) moment None _ _ valid good again refl tt
  fits_out machine caller seat moment seated valid _ _ good again (out_unlinked path dir name ino stat h f d) = operations_fit machine caller (call.Unlink path) moment None _ _ valid good again refl tt
  fits_out machine caller seat moment seated valid _ _ good again (out_made path mode dir name h) = operations_fit machine caller (call.Mkdir path mode) moment None _ _ valid good again refl tt
  fits_out machine caller seat moment seated valid _ _ good again (out_removed path dir name ino stat h f d n b u) = operations_fit machine caller (call.Rmdir path) moment None _ _ valid good again refl tt
  fits_out machine caller seat moment seated valid _ _ good again (out_entered path stat h d) = tt
  fits_out machine caller seat moment seated valid _ _ good again (out_mode_set path mode stat h) = operations_fit machine caller (call.Chmod path mode) moment None _ _ valid good again refl tt
  fits_out machine caller seat moment seated valid _ _ good again (out_owner_set path uid gid stat h) = operations_fit machine caller (call.Chown path uid gid) moment None _ _ valid good again refl tt
  fits_out machine caller seat moment seated valid _ _ good again (out_times_set path atime mtime stat h) = operations_fit machine caller (call.Utime path atime mtime) moment None _ _ valid good again refl tt
  fits_out machine caller seat moment seated valid _ _ good again (out_masked_off mask) = tt
  fits_out machine caller seat moment seated valid _ _ good again (out_left h) = tt
  fits_out machine caller seat moment seated valid _ _ good again (out_left_open ino inos h) = operations_fit machine caller call.Exit moment None _ _ valid good again refl tt
  fits_out machine caller seat moment seated valid _ _ good again (out_created path mode dir name fd ino placed free taken) =
      let place = place_ok machine.tree.nodes seat.cred seat.cwd path dir name None good.no_zero placed in
      record {
        missing = record { directory = place.directory; named = place.named; missing = place.number };
        permissions = omega (arith, and_le_l (bit_and mode 0x1FF) (0xFFFF - seat.umask), and_le_r mode 0x1FF);
        picked = tt;
      }

  pub unpicked_fits : (machine : Machine) (caller : ℕ) (made : Call) (moment : ℕ) (planned : CallPlan) (op : FsOp) → IsValidFor machine caller → IsCall made
      → plan machine caller made moment (Some number) ≡ Ok planned → planned.op ≡ Some op → Fits machine.tree (counts machine.seats) op None
  unpicked_fits machine caller made moment planned op valid good h is =
      let out = outcome machine caller made moment (Some number) planned h in
      subst (FitsIf machine) is (fits_out machine caller out.0 moment (valid.seat out.0 out.1) valid made planned good (replans number machine caller made moment None planned h) out.2)
