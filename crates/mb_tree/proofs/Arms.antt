-- The rows that look a place up, as arms of the table.
use Rattle.std.proofs.Common.{◌≡◌, ℕ, List, Option, Result, sym, subst}
use Rattle.mb_kinds.specs.declared.calls.Call.{Call}
use Rattle.mb_kinds.specs.declared.calls.Call.TheVariants as call
use Rattle.mb_tree.specs.Maps.{Numbered}
use Rattle.mb_tree.specs.Results.{Gives}
use Rattle.mb_tree.specs.Rows.{row, creat_row, unlink_row, mkdir_row, rmdir_row}
use Rattle.mb_tree.specs.declared.nodes.Node.{Node}
use Rattle.mb_tree.specs.declared.seats.Seat.{Seat}
use Rattle.mb_tree.specs.declared.plans.CallPlan.{CallPlan}
use Rattle.mb_tree.specs.declared.stops.Stop.{Stop}

module _ (nodes : Numbered Node) (seats : List Seat) (seat : Seat) (made : Call) (path bytes : List ℕ) (moment : ℕ) (pick : Option ℕ) (r : Result CallPlan Stop) where
  pub creat_arm : (mode : ℕ) → made ≡ call.Creat path mode → bytes ≡ path → Gives (λ (plan : CallPlan). plan) r (creat_row nodes seat bytes mode moment pick) → Gives (λ (plan : CallPlan). plan) r (row nodes seats seat made moment pick)
  creat_arm mode e q h = subst (λ (x : Call). Gives (λ (plan : CallPlan). plan) r (row nodes seats seat x moment pick)) (sym e) (subst (λ (x : List ℕ). Gives (λ (plan : CallPlan). plan) r (creat_row nodes seat x mode moment pick)) q h)

  pub unlink_arm : made ≡ call.Unlink path → bytes ≡ path → Gives (λ (plan : CallPlan). plan) r (unlink_row nodes seat bytes moment) → Gives (λ (plan : CallPlan). plan) r (row nodes seats seat made moment pick)
  unlink_arm e q h = subst (λ (x : Call). Gives (λ (plan : CallPlan). plan) r (row nodes seats seat x moment pick)) (sym e) (subst (λ (x : List ℕ). Gives (λ (plan : CallPlan). plan) r (unlink_row nodes seat x moment)) q h)

  pub mkdir_arm : (mode : ℕ) → made ≡ call.Mkdir path mode → bytes ≡ path → Gives (λ (plan : CallPlan). plan) r (mkdir_row nodes seat bytes mode moment) → Gives (λ (plan : CallPlan). plan) r (row nodes seats seat made moment pick)
  mkdir_arm mode e q h = subst (λ (x : Call). Gives (λ (plan : CallPlan). plan) r (row nodes seats seat x moment pick)) (sym e) (subst (λ (x : List ℕ). Gives (λ (plan : CallPlan). plan) r (mkdir_row nodes seat x mode moment)) q h)

  pub rmdir_arm : made ≡ call.Rmdir path → bytes ≡ path → Gives (λ (plan : CallPlan). plan) r (rmdir_row nodes seats seat bytes moment) → Gives (λ (plan : CallPlan). plan) r (row nodes seats seat made moment pick)
  rmdir_arm e q h = subst (λ (x : Call). Gives (λ (plan : CallPlan). plan) r (row nodes seats seat x moment pick)) (sym e) (subst (λ (x : List ℕ). Gives (λ (plan : CallPlan). plan) r (rmdir_row nodes seats seat x moment)) q h)
