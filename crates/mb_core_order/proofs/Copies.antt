-- Fresh pages are a part of what is seen, and copies stay true over installs.
use Rattle.std.proofs.Common.{List, ℕ, ◌≡◌, inl, inr, ◌⊎◌, Bool, true, false, Option, Some, None, IfSome, option_map, slice_get, refl, ap, sym, ◌∙◌, subst, arith}
use Rattle.mb_kinds.specs.Image.{Image}
use Rattle.mb_kinds.specs.declared.calls.Call.{Call}
use Rattle.mb_tree.specs.Machines.{IsValid}
use Rattle.mb_tree.specs.Sessions.{counts}
use Rattle.mb_tree.specs.Volume.{IsVolume}
use Rattle.mb_tree.specs.declared.machines.Machine.{Machine}
use Rattle.mb_tree.specs.declared.seats.Seat.{Seat}
use Rattle.mb_cache.specs.Stamps.{Stamps}
use Rattle.mb_cache.specs.CacheLaws.{Moves}
use Rattle.mb_core_spec.specs.declared.ready.Ready.{Ready}
use Rattle.mb_cache.specs.Kept.{CopyList, KeptBlock, kept_at, shown}
use Rattle.mb_core_spec.specs.Copies.{AreFresh, AreOld, AreTrue, KeepsTables, LiveTables, TableCopy, TablesAreFresh, cwds}
use Rattle.mb_session.specs.OpenFiles.{TellsCounts}
use Rattle.mb_tree.specs.Views.{IsPart}
use Rattle.mb_core_spec.specs.Performed.{Agrees, IsPerformed, IsReadyFor}

pub fresh_part : (view : ℕ → List ℕ) (stamps : Stamps) (copies pages : CopyList) → AreTrue view stamps copies → AreFresh copies stamps pages → IsPart (shown pages) view
fresh_part view stamps copies pages are fresh block = elim (kept_at pages block) as (λ (o : Option KeptBlock). kept_at pages block ≡ o → IfSome (option_map (λ (kept : KeptBlock). kept.bytes) o) (λ bytes. view block ≡ bytes)) [
  | None ↦ λ e. tt
  | Some page ↦ λ e. let one = fresh block page e in are block one.copy one.has one.stamp ∙ one.bytes
] refl

-- an install, or whatever moves blocks so, keeps copies
pub true_moves : (view : Image) (stamps : Stamps) (view2 : Image) (stamps2 : Stamps) (copies : CopyList) → Moves view stamps view2 stamps2
    → AreOld stamps copies → AreTrue view.at stamps copies → AreTrue view2.at stamps2 copies
true_moves view stamps view2 stamps2 copies moves old are block kept has now = let one = old block kept has in elim (moves block) [
  | inl stays ↦ stays.0 ∙ are block kept has (omega (arith, stays.1))
  | inr grows ↦ absurd (omega arith)
]

same_kept : (x y : KeptBlock) → Some x ≡ Some y → x ≡ y
same_kept x y h = cc

-- ---- the tables

pub agrees_now : (shared : Bool) (caller : ℕ) (live : LiveTables) (kept given : TableCopy) → KeepsTables caller live kept → TablesAreFresh shared caller live kept given
    → TellsCounts live.opens (counts live.sessions) → Agrees shared caller given.sessions given.opens live.sessions
agrees_now false caller live kept given keeps fresh counted = fresh ∙ keeps.own
agrees_now true caller live kept given keeps fresh counted =
    let opens : given.opens ≡ live.opens = fresh.1 ∙ keeps.opens fresh.2 in (
      ap (λ (seats : List Seat). slice_get seats caller) fresh.0 ∙ keeps.own,
      subst (λ o. TellsCounts o (counts live.sessions)) (sym opens) counted,
      ap cwds fresh.0 ∙ keeps.directories fresh.2,
    )

-- ---- what a call that finishes concludes

pub finish_performs : (view : Image) (stamps : Stamps) (copies pages : CopyList) (live : LiveTables) (kept given : TableCopy) (now : Machine) (caller : ℕ) (call : Call) (moment : ℕ) (ready : Ready)
    → IsReadyFor (shown pages) given.sessions given.opens caller call moment ready
    → AreTrue view.at stamps copies → AreFresh copies stamps pages
    → KeepsTables caller live kept → TablesAreFresh ready.shared caller live kept given
    → IsVolume view now.tree → IsValid now → now.seats ≡ live.sessions → TellsCounts live.opens (counts live.sessions)
    → IsPerformed view now caller call moment ready
finish_performs view stamps copies pages live kept given now caller call moment ready does are fresh keeps tables volume valid seats counted =
    does view now.tree now.seats (fresh_part view.at stamps copies pages are fresh) volume
    (subst (Agrees ready.shared caller given.sessions given.opens) (sym seats) (agrees_now ready.shared caller live kept given keeps tables counted)) (valid caller)
