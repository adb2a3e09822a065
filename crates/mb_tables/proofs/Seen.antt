-- What another call can see of a call that is logged.
use Rattle.std.proofs.Common.{◌≡◌, inl, inr, ℕ, ◌+◌, ◌≤◌, Bool, true, false, List, [], ◌∷◌, Option, Some, None, unwrap_or, option_map, slice_get, slice_set, suc, zero, refl, sym, ap, ◌∙◌, arith}
use Rattle.std.proofs.lemmas.Option.{same_Some}
use Rattle.mb_edge.specs.Damage.{OpenCounts}
use Rattle.mb_tree.specs.Sessions.{changed, closed, doubled, moved, opened, with_change}
use Rattle.mb_tree.specs.declared.operations.FsOp.{FsOp}
use Rattle.mb_tree.specs.declared.operations.FsOp.TheVariants.{Create, Empty, MakeDir, RemoveDir, Enlink, Delink, Put, SetMode, SetOwner, SetTimes, Hold, Release}
use Rattle.mb_tree.specs.declared.seats.PlainFile.{PlainFile}
use Rattle.mb_tree.specs.declared.seats.Seat.{Seat}
use Rattle.mb_tree.specs.declared.seats.SessionChange.{SessionChange}
use Rattle.mb_tree.specs.declared.seats.SessionChange.TheVariants as change
use Rattle.mb_core_spec.specs.Callers.{one_if}
use Rattle.mb_core_spec.specs.Copies.{LiveTables, cwds}
use Rattle.mb_core_spec.specs.Owed.{TablesMove}
use Rattle.mb_tables.specs.Follows.{followed_if, is_seen, opens_any, tables_after}

-- ---- the counts

counts_stay : (opens : OpenCounts) (op : Option FsOp) (pick : Option ℕ) → opens_any op ≡ false → followed_if opens op pick ≡ opens
counts_stay opens None pick unseen = refl
counts_stay opens (Some (Create dir name mode uid gid moment)) pick unseen = cc
counts_stay opens (Some (Empty ino moment)) pick unseen = cc
counts_stay opens (Some (MakeDir dir name mode uid gid moment)) pick unseen = refl
counts_stay opens (Some (RemoveDir dir name moment)) pick unseen = refl
counts_stay opens (Some (Enlink dir name ino moment)) pick unseen = refl
counts_stay opens (Some (Delink dir name moment)) pick unseen = refl
counts_stay opens (Some (Put ino offset bytes moment)) pick unseen = refl
counts_stay opens (Some (SetMode ino mode moment)) pick unseen = refl
counts_stay opens (Some (SetOwner ino uid gid moment)) pick unseen = refl
counts_stay opens (Some (SetTimes ino atime mtime moment)) pick unseen = refl
counts_stay opens (Some (Hold ino)) pick unseen = cc
counts_stay opens (Some (Release inos)) pick unseen = cc

-- ---- the current directories

opened_cwd : (seat : Seat) (fd : ℕ) (file : PlainFile) (place : Option ℕ) → (opened seat fd file place).cwd ≡ seat.cwd
opened_cwd seat fd file None = refl
opened_cwd seat fd file (Some place) = refl

doubled_cwd : (seat : Seat) (fd : ℕ) (place : Option ℕ) → (doubled seat fd place).cwd ≡ seat.cwd
doubled_cwd seat fd None = refl
doubled_cwd seat fd (Some place) = refl

closed_cwd : (seat : Seat) (fd : ℕ) (place : Option ℕ) → (closed seat fd place).cwd ≡ seat.cwd
closed_cwd seat fd None = refl
closed_cwd seat fd (Some place) = refl

moved_cwd : (seat : Seat) (offset : ℕ) (place : Option ℕ) → (moved seat offset place).cwd ≡ seat.cwd
moved_cwd seat offset None = refl
moved_cwd seat offset (Some place) = refl

cwds_set : (seats : List Seat) (at : ℕ) (old new : Seat) → slice_get seats at ≡ Some old → new.cwd ≡ old.cwd → cwds (slice_set seats at new) ≡ cwds seats
cwds_set [] at old new has same = refl
cwds_set (seat ∷ seats) zero old new has same = ap (λ c. c ∷ cwds seats) (same ∙ sym (ap (λ (s : Seat). s.cwd) (same_Some seat old has)))
cwds_set (seat ∷ seats) (suc at) old new has same = ap (λ rest. seat.cwd ∷ rest) (cwds_set seats at old new has same)

-- a session change keeps its own current directory, so it keeps all
cwds_stay : (seats : List Seat) (at : ℕ) (made : SessionChange) → ((seat : Seat) → (changed seat made).cwd ≡ seat.cwd) → cwds (with_change seats at made) ≡ cwds seats
cwds_stay seats at made own = elim (slice_get seats at) as (λ (o : Option Seat). slice_get seats at ≡ o → cwds (unwrap_or (option_map (λ seat. slice_set seats at (changed seat made)) o) seats) ≡ cwds seats) [
  | None ↦ λ is. refl
  | Some seat ↦ λ is. cwds_set seats at seat (changed seat made) is (own seat)
] refl

-- ---- both

unseen_moves : (live : LiveTables) (caller : ℕ) (op : Option FsOp) (pick : Option ℕ) (made : SessionChange) (seen : Bool) → is_seen op made ≡ seen → (seen ≡ false → opens_any op ≡ false)
    → (seen ≡ false → (seat : Seat) → (changed seat made).cwd ≡ seat.cwd) → TablesMove live (tables_after live caller op pick made)
unseen_moves live caller op pick made true is counts own = inr (let rises = ap one_if is in omega (arith, rises))
unseen_moves live caller op pick made false is counts own =
    inl ((let stays = ap one_if is in omega (arith, stays)), counts_stay live.opens op pick (counts refl), cwds_stay live.sessions caller made (own refl))

pub logged_moves : (live : LiveTables) (caller : ℕ) (op : Option FsOp) (pick : Option ℕ) (made : SessionChange) → TablesMove live (tables_after live caller op pick made)
logged_moves live caller op pick change.Same = unseen_moves live caller op pick change.Same (opens_any op) refl (λ h. h) (λ h seat. refl)
logged_moves live caller op pick (change.Fresh fd ino how) = unseen_moves live caller op pick (change.Fresh fd ino how) (opens_any op) refl (λ h. h) (λ h seat. opened_cwd seat fd _ _)
logged_moves live caller op pick (change.Twin fd to) = unseen_moves live caller op pick (change.Twin fd to) (opens_any op) refl (λ h. h) (λ h seat. doubled_cwd seat to _)
logged_moves live caller op pick (change.Free fd) = unseen_moves live caller op pick (change.Free fd) (opens_any op) refl (λ h. h) (λ h seat. closed_cwd seat fd _)
logged_moves live caller op pick (change.Move fd offset) = unseen_moves live caller op pick (change.Move fd offset) (opens_any op) refl (λ h. h) (λ h seat. moved_cwd seat offset _)
logged_moves live caller op pick (change.Cwd ino) = inr (omega arith)
logged_moves live caller op pick (change.Mask mask) = unseen_moves live caller op pick (change.Mask mask) (opens_any op) refl (λ h. h) (λ h seat. refl)
logged_moves live caller op pick change.Clear = unseen_moves live caller op pick change.Clear (opens_any op) refl (λ h. h) (λ h seat. refl)

one_at_most : (seen : Bool) → one_if seen ≤ 1
one_at_most true = omega arith
one_at_most false = omega arith

pub rises_by_one : (live : LiveTables) (caller : ℕ) (op : Option FsOp) (pick : Option ℕ) (made : SessionChange) → (tables_after live caller op pick made).stamp ≤ live.stamp + 1
rises_by_one live caller op pick made = let one = one_at_most (is_seen op made) in omega (arith, one)
