-- The counts of open files follow the plans of the calls.
use Rattle.std.proofs.Common.{◌≡◌, inl, inr, ℕ, zero, suc, ◌+◌, ◌≤◌, true, false, cond, if◌then◌else◌, List, [], ◌∷◌, Option, Some, None, Ok, option_map, option_and_then, unwrap_or, nat_eq, refl, sym, ap, subst, ◌∙◌, arith}
use Rattle.std.proofs.lemmas.Bool.Decides.{nat_tests}
use Rattle.std.proofs.lemmas.List.Sums.{sum_by-cons, sum_by-set}
use Rattle.std.proofs.lemmas.Option.{slice_get_within, get_or_from_slice_get}
use Rattle.std.specs.Prelude.{count_by, slice_get, slice_set}
use Rattle.std.specs.FinMap as fin
use Rattle.mb_kinds.specs.declared.calls.Call.{Call}
use Rattle.mb_kinds.specs.declared.calls.How.TheVariants.{Writing}
use Rattle.mb_tree.specs.Sessions.{Counts, counts, changed, held_by, held_in, inos_of, file_on, is_shared, has_place, closed}
use Rattle.mb_tree.specs.Effect.{TreeAndOpens, hold, opens_after, tree_after}
use Rattle.mb_tree.specs.Step.{effect_of}
use Rattle.mb_tree.specs.Machines.{IsSeated}
use Rattle.mb_tree.specs.SessionLaws.{CountsFollow}
use Rattle.mb_tree.specs.declared.nodes.Node.{Node}
use Rattle.mb_tree.specs.declared.operations.FsOp.{FsOp}
use Rattle.mb_tree.specs.declared.operations.FsOp.TheVariants.{Create}
use Rattle.mb_tree.specs.declared.seats.SessionChange.TheVariants.{Fresh}
use Rattle.mb_tree.specs.Rows.{masked}
use Rattle.mb_tree.specs.declared.plans.CallPlan.{CallPlan}
use Rattle.mb_tree.specs.declared.seats.PlainFile.{PlainFile}
use Rattle.mb_tree.specs.declared.seats.Seat.{Seat}
use Rattle.mb_tree.specs.declared.trees.Tree.{Tree}
use Rattle.mb_tree.specs.Maps.{Numbered}
use Rattle.mb_tree.proofs.FiniteMaps.{one_or_not}
use Rattle.mb_tree.proofs.Always.{bind_ok, same_ok}
use Rattle.mb_tree.proofs.OpenCounts.{one_count, clear_count, cleared_count, opened_count, doubled_count, moved_count, shared_count, last_count}
use Rattle.mb_tree.proofs.Outcomes.{Outcome, outcome}
use Rattle.mb_tree.proofs.Outcomes.Outcome.{answered, opened, emptied, created, closed_shared, closed_last, moved, put, doubled, linked, unlinked, made, removed, entered, mode_set, owner_set, times_set, masked_off, left, left_open}

-- ---- one seat among all

pub seat_least : (seats : List Seat) (caller : ℕ) (seat : Seat) (ino : ℕ) → slice_get seats caller ≡ Some seat → held_in seat ino ≤ counts seats ino
seat_least [] caller seat ino h = let e : None ≡ Some seat = h in cc
seat_least (first ∷ seats) zero seat ino h =
    let is : first ≡ seat = cc in
    let one : held_in first ino ≡ held_in seat ino = ap (λ (s : Seat). held_in s ino) is in
    omega (arith, one, sum_by-cons (λ (s : Seat). held_in s ino) first seats)
seat_least (first ∷ seats) (suc caller) seat ino h = omega (arith, seat_least seats caller seat ino h, sum_by-cons (λ (s : Seat). held_in s ino) first seats)

seat_changed : (seats : List Seat) (caller : ℕ) (seat new : Seat) (ino : ℕ) → slice_get seats caller ≡ Some seat
    → counts (slice_set seats caller new) ino + held_in seat ino ≡ counts seats ino + held_in new ino
seat_changed seats caller seat new ino h =
    let set_one = sum_by-set (λ (s : Seat). held_in s ino) seats caller new seat (slice_get_within seats caller seat h) in
    let old = ap (λ (s : Seat). held_in s ino) (get_or_from_slice_get seats caller seat seat h) in
    omega (arith, set_one, old)

-- ---- one seat

-- the counts after the operation of a plan
abbrev pub opens_of : Counts → Option FsOp → Option ℕ → Counts
opens_of opens None pick = opens
opens_of opens (Some op) pick = opens_after opens op pick

abbrev CountsAs : Seat → Option ℕ → CallPlan → Type 0
CountsAs seat pick planned = (opens : Counts) (ino : ℕ) → held_in seat ino ≤ opens ino → held_in (changed seat planned.session) ino + opens ino ≡ held_in seat ino + opens_of opens planned.op pick ino

hold_count : (opens : Counts) (file : PlainFile) (ino : ℕ) → hold opens file.ino ino ≡ opens ino + held_by ino (Some file)
hold_count opens file ino = elim (one_or_not ino file.ino) [
  | inl is ↦
      let s : nat_eq ino file.ino ≡ true = grind (arith, nat_tests) in
      let t : nat_eq file.ino ino ≡ true = grind (arith, nat_tests) in
      let one : held_by ino (Some file) ≡ 1 = ap (λ b. if◌then◌else◌ {A = ℕ} b 1 0) t in
      ap (λ b. if b then opens ino + 1 else opens ino) s ∙ omega (arith, one)
  | inr apart ↦
      let s : nat_eq ino file.ino ≡ false = grind (arith, nat_tests) in
      let t : nat_eq file.ino ino ≡ false = grind (arith, nat_tests) in
      let one : held_by ino (Some file) ≡ 0 = ap (λ b. if◌then◌else◌ {A = ℕ} b 1 0) t in
      ap (λ b. if b then opens ino + 1 else opens ino) s ∙ omega (arith, one)
]

-- the place and the file of a descriptor
pub on_place : (seat : Seat) (fd : ℕ) (file : PlainFile) → file_on seat fd ≡ Some file → (place : ℕ) × (fin.get seat.fds fd ≡ Some place) × (fin.get seat.files place ≡ Some file)
on_place seat fd file h = elim (fin.get seat.fds fd) as (λ (o : Option ℕ). option_and_then (fin.get seat.files) o ≡ Some file → (place : ℕ) × (o ≡ Some place) × (fin.get seat.files place ≡ Some file)) [
  | None ↦ λ e. let no : None ≡ Some file = e in cc
  | Some place ↦ λ e. (place, refl, e)
] h

module _ (nodes : Numbered Node) (seats : List Seat) (seat : Seat) (moment : ℕ) (pick : Option ℕ) (valid : IsSeated nodes seat) where
  last_closed : (fd : ℕ) (file : PlainFile) → file_on seat fd ≡ Some file → is_shared seat fd ≡ false → (ino : ℕ) → held_in (closed seat fd (fin.get seat.fds fd)) ino + held_by ino (Some file) ≡ held_in seat ino
  last_closed fd file h s ino =
      let at = on_place seat fd file h in
      let alone : has_place (fin.remove seat.fds fd) at.0 ≡ false = sym (ap (λ o. unwrap_or (option_map (has_place (fin.remove seat.fds fd)) o) false) at.1) ∙ s in
      ap (λ (o : Option ℕ). held_in (closed seat fd o) ino + held_by ino (Some file)) at.1 ∙ last_count nodes seat valid fd at.0 file ino at.2 alone

  counts_as : (asked : Call) (planned : CallPlan) → Outcome nodes seats seat moment pick asked planned → CountsAs seat pick planned
  counts_as _ _ (answered asked answer) opens ino least = refl
  counts_as _ _ (opened path how stat fd found fits ordinary free) opens ino least =
      let file : PlainFile = record { ino = stat.ino; how = how; offset = 0 } in
      omega (arith, opened_count nodes seat valid fd file ino free, hold_count opens file ino)
  counts_as _ _ (emptied path mode made_ino stat fd found regular ordinary free) opens ino least =
      let file : PlainFile = record { ino = made_ino; how = Writing; offset = 0 } in
      omega (arith, opened_count nodes seat valid fd file ino free, hold_count opens file ino)
  counts_as _ _ (created path mode dir name fd made_ino placed free picked) opens ino least =
      let file : PlainFile = record { ino = made_ino; how = Writing; offset = 0 } in
      subst (λ (o : Option ℕ). held_in (changed seat (Fresh fd made_ino Writing)) ino + opens ino ≡ held_in seat ino + opens_after opens (Create dir name (masked mode seat) seat.cred.uid seat.cred.gid moment) o ino) (sym picked)
      (omega (arith, opened_count nodes seat valid fd file ino free, hold_count opens file ino))
  counts_as _ _ (closed_shared fd file h s) opens ino least = ap (λ n. n + opens ino) (shared_count nodes seat valid fd (fin.get seat.fds fd) ino s)
  counts_as _ _ (closed_last fd file h s) opens ino least =
      omega (arith, last_closed fd file h s ino, one_count ino file, sum_by-cons (λ x. cond {A = ℕ} (nat_eq ino x) 1 0) file.ino [])
  counts_as _ _ (moved asked answer fd offset) opens ino least = ap (λ n. n + opens ino) (moved_count nodes seat valid offset (fin.get seat.fds fd) ino)
  counts_as _ _ (put fd file byte bytes h w) opens ino least = ap (λ n. n + opens ino) (moved_count nodes seat valid _ (fin.get seat.fds fd) ino)
  counts_as _ _ (doubled fd to free) opens ino least = ap (λ n. n + opens ino) (doubled_count nodes seat valid to (fin.get seat.fds fd) ino)
  counts_as _ _ (linked from to stat dir name f d h) opens ino least = refl
  counts_as _ _ (unlinked path dir name made_ino stat h f d) opens ino least = refl
  counts_as _ _ (made path mode dir name h) opens ino least = refl
  counts_as _ _ (removed path dir name made_ino stat h f d n b u) opens ino least = refl
  counts_as _ _ (entered path stat h d) opens ino least = refl
  counts_as _ _ (mode_set path mode stat h) opens ino least = refl
  counts_as _ _ (owner_set path uid gid stat h) opens ino least = refl
  counts_as _ _ (times_set path atime mtime stat h) opens ino least = refl
  counts_as _ _ (masked_off mask) opens ino least = refl
  counts_as _ _ (left h) opens ino least =
      let none : count_by (nat_eq ino) (inos_of seat) ≡ 0 = ap (count_by (nat_eq ino)) h in
      omega (arith, none, clear_count nodes seat valid ino, cleared_count nodes seat valid ino)
  counts_as _ _ (left_open first inos h) opens ino least =
      let all : count_by (nat_eq ino) (inos_of seat) ≡ count_by (nat_eq ino) (first ∷ inos) = ap (count_by (nat_eq ino)) h in
      omega (arith, least, all, clear_count nodes seat valid ino, cleared_count nodes seat valid ino)

pub held_opens : (tree : Tree) (opens : Counts) (op : Option FsOp) (pick : Option ℕ) (held : TreeAndOpens) → effect_of tree opens op pick ≡ Ok held → opens_of opens op pick ≡ held.opens
held_opens tree opens None pick held h = ap (λ (x : TreeAndOpens). x.opens) (same_ok (record { tree = tree; opens = opens }) held h)
held_opens tree opens (Some op) pick held h =
    let one = bind_ok (tree_after tree opens op pick) _ held h in
    ap (λ (x : TreeAndOpens). x.opens) (same_ok (record { tree = one.0; opens = opens_after opens op pick }) held one.2)

pub counts_follow : CountsFollow
counts_follow machine caller asked moment pick planned held valid h e =
    let out = outcome machine caller asked moment pick planned h in
    let seated = valid.seat out.0 out.1 in
    let each : (ino : ℕ) → counts (slice_set machine.seats caller (changed out.0 planned.session)) ino ≡ opens_of (counts machine.seats) planned.op pick ino = λ ino.
    let moved_one = counts_as machine.tree.nodes machine.seats out.0 moment pick seated asked planned out.2 (counts machine.seats) ino (seat_least machine.seats caller out.0 ino out.1) in
    omega (arith, moved_one, seat_changed machine.seats caller out.0 (changed out.0 planned.session) ino out.1) in
    ap (λ o. counts (unwrap_or (option_map (λ seat. slice_set machine.seats caller (changed seat planned.session)) o) machine.seats)) out.1
    ∙ (λ i ino. each ino i)
    ∙ held_opens machine.tree (counts machine.seats) planned.op pick held e
