-- The operation of each plan fits the tree on which its row looked.
use Rattle.std.proofs.Common.{◌≡◌, inl, inr, ℕ, zero, suc, ◌<◌, ◌≤◌, Bool, true, false, cond, ◌||◌, if◌then◌else◌, List, [], ◌∷◌, Option, Some, None, Ok, IfSome, nat_eq, nat_le, nat_lt, refl, sym, ap, subst, ◌∙◌, arith}
use Rattle.std.proofs.lemmas.Bool.Decides.{nat_tests}
use Rattle.std.proofs.lemmas.Nat.{and_le_l, and_le_r}
use Rattle.std.proofs.lemmas.List.Sums.{sum_by-cons}
use Rattle.std.specs.Prelude.{T, All, count_by, bit_and, slice_get, ◌-◌, ◌==◌}
use Rattle.std.specs.List.{AllByRecursion, list_any}
use Rattle.std.specs.FinMap as fin
use Rattle.std.specs.FinMap.{get-entries, entries_sorted}
use Rattle.std.specs.FinMap.Entries.{below_all}
use Rattle.std.specs.Ordering.{nat_cmp}
use Rattle.mb_kinds.specs.declared.credentials.Cred.{Cred}
use Rattle.mb_kinds.specs.declared.calls.Call.{Call}
use Rattle.mb_tree.specs.Sessions.{counts, inos_of, file_on, held_by}
use Rattle.mb_tree.specs.Rows.{masked, stored, is_busy, plan}
use Rattle.mb_tree.specs.Step.{IsFreeNumber}
use Rattle.mb_tree.specs.Trees.{IsSound, IsThere}
use Rattle.mb_tree.specs.Fits.{IsOpenable, FitsRelease, Fits}
use Rattle.mb_tree.specs.Maps.{Numbered}
use Rattle.mb_tree.specs.declared.nodes.Node.{Node}
use Rattle.mb_tree.specs.Machines.{IsValidFor, IsSeated}
use Rattle.mb_tree.specs.SessionLaws.{IsCall, OperationsFit}
use Rattle.mb_tree.specs.declared.machines.Machine.{Machine}
use Rattle.mb_tree.specs.declared.operations.FsOp.{FsOp}
use Rattle.mb_tree.specs.declared.plans.CallPlan.{CallPlan}
use Rattle.mb_tree.specs.declared.seats.PlainFile.{PlainFile}
use Rattle.mb_tree.specs.declared.seats.Seat.{Seat}
use Rattle.mb_tree.proofs.FiniteMaps.{one_or_not, is_here, is_apart}
use Rattle.mb_tree.proofs.Sums.{sum_term}
use Rattle.mb_tree.proofs.Outcomes.{Outcome, outcome}
use Rattle.mb_tree.proofs.Outcomes.Outcome.{answered, opened, emptied, created, closed_shared, closed_last, moved, put, doubled, linked, unlinked, made, removed, entered, mode_set, owner_set, times_set, masked_off, left, left_open}
use Rattle.mb_tree.proofs.OpenCounts.{left_of, right_of, none_below, inos_in, one_count, clear_count}
use Rattle.mb_tree.proofs.CountsFollow.{seat_least, on_place}
use Rattle.mb_tree.proofs.InodeKinds.{path_ok, is_there, is_directory_at, is_regular_at, is_openable_at, is_leaf_at}
use Rattle.mb_tree.proofs.PlacedNames.{place_ok, no_first, walk_apart, start_apart}

-- ---- all of a list

from_recursion : {X : Type 0} (P : X → Type 0) (xs : List X) → AllByRecursion P xs → All P xs
from_recursion P [] h k d b = absurd (omega (arith, b))
from_recursion P (x ∷ xs) h zero d b = h.0
from_recursion P (x ∷ xs) h (suc k) d b = from_recursion P xs h.1 k d (omega (arith, b))

-- what holds of each file of a table holds of its values
each_file : (P : ℕ → Type 0) (es : List (ℕ × PlainFile)) → T (fin.is_sorted nat_cmp es) → ((p : ℕ) (file : PlainFile) → fin.find nat_cmp p es ≡ Some file → P file.ino) → AllByRecursion P (inos_in es)
each_file P [] sorted h = tt
each_file P (e ∷ es) sorted h =
    let below = left_of (below_all nat_cmp e.0 es) (fin.is_sorted nat_cmp es) sorted in
    let none : fin.find nat_cmp e.0 es ≡ None = none_below e.0 es below in
    let here : fin.find nat_cmp e.0 (e ∷ es) ≡ Some e.1 = ap (λ b. cond b (Some e.1) (fin.find nat_cmp e.0 es)) (is_here e.0) in (
      h e.0 e.1 here,
      each_file P es (right_of (below_all nat_cmp e.0 es) (fin.is_sorted nat_cmp es) sorted) (λ p file at. elim (one_or_not p e.0) [
        | inl is ↦ absurd (let no : None ≡ Some file = sym none ∙ ap (λ q. fin.find nat_cmp q es) (sym is) ∙ at in cc)
        | inr other ↦ h p file (ap (λ b. cond b (Some e.1) (fin.find nat_cmp p es)) (is_apart p e.0 other) ∙ at)
      ]),
    )

-- ---- bits and tests

masked_low : (mode : ℕ) (seat : Seat) → masked mode seat < 512
masked_low mode seat = omega (arith, and_le_l (bit_and mode 0x1FF) (0xFFFF - seat.umask), and_le_r mode 0x1FF)

pub stored_low : (mode : ℕ) (cred : Cred) → stored mode cred < 4096
stored_low mode cred = elim (cred.uid == 0) as (λ b. bit_and mode (if b then 0xFFF else 0xDFF) < 4096) [ true ↦ omega (arith, and_le_r mode 0xFFF) | false ↦ omega (arith, and_le_r mode 0xDFF) ]

pub or_none : (a b c : Bool) → (a || b || c) ≡ false → (b ≡ false) × (c ≡ false)
or_none true b c h = absurd (let no : true ≡ false = h in cc)
or_none false true c h = absurd (let no : true ≡ false = h in cc)
or_none false false c h = (refl, h)

pub unopened : (seats : List Seat) (ino : ℕ) → is_busy seats ino ≡ false → counts seats ino ≡ 0
unopened seats ino h = let none = (or_none (ino == 2) (nat_lt 0 (counts seats ino)) (list_any (λ (seat : Seat). seat.cwd == ino) seats) h).0 in grind (arith, nat_tests)

few_of : (n : ℕ) → nat_le n 2 ≡ true → n ≤ 2
few_of n h = grind (arith, nat_tests)

-- what can be open is there
openable_there : (nodes : Numbered Node) (ino : ℕ) → IsOpenable nodes ino → IsThere nodes ino
openable_there nodes ino (inl file) = record { node = file.node; has = file.has }
openable_there nodes ino (inr directory) = record { node = directory.node; has = directory.has }

module _ (machine : Machine) (caller : ℕ) (seat : Seat) (moment : ℕ) (pick : Option ℕ) (at : slice_get machine.seats caller ≡ Some seat) (sound : IsSound machine.tree) (valid : IsSeated machine.tree.nodes seat) where
  release_one : (fd : ℕ) (file : PlainFile) → file_on seat fd ≡ Some file → FitsRelease machine.tree (counts machine.seats) (file.ino ∷ [])
  release_one fd file h =
      let place = on_place seat fd file h in
      let is_open = valid.files place.0 file place.2 in
      record {
        some = omega arith;
        there = from_recursion (IsThere machine.tree.nodes) (file.ino ∷ []) (openable_there machine.tree.nodes file.ino is_open.openable, tt);
        covered = λ ino.
            let term = sum_term (λ p. held_by ino (fin.get seat.files p)) place.0 17 is_open.within in
            let here : held_by ino (fin.get seat.files place.0) ≡ held_by ino (Some file) = ap (held_by ino) place.2 in
            omega (arith, term, here, one_count ino file, sum_by-cons (λ x. cond {A = ℕ} (nat_eq ino x) 1 0) file.ino [], seat_least machine.seats caller seat ino at);
      }

  release_all : (first : ℕ) (inos : List ℕ) → inos_of seat ≡ first ∷ inos → FitsRelease machine.tree (counts machine.seats) (first ∷ inos)
  release_all first inos h = record {
    some = omega arith;
    there = subst (All (IsThere machine.tree.nodes)) h (from_recursion (IsThere machine.tree.nodes) (inos_of seat)
        (each_file (IsThere machine.tree.nodes) (fin.entries seat.files) (entries_sorted seat.files) (λ p file found. openable_there machine.tree.nodes file.ino (valid.files p file (get-entries seat.files p ∙ found)).openable)));
    covered = λ ino.
        let all : count_by (nat_eq ino) (inos_of seat) ≡ count_by (nat_eq ino) (first ∷ inos) = ap (count_by (nat_eq ino)) h in
        omega (arith, all, clear_count machine.tree.nodes seat valid ino, seat_least machine.seats caller seat ino at);
  }

  -- the operation of a plan fits, where there is one
  abbrev PlanFits : Option ℕ → Option FsOp → Type 0
  PlanFits demanded None = Unit {0}
  PlanFits demanded (Some done) = Fits machine.tree (counts machine.seats) done demanded

  plan_fits : (demanded : Option ℕ) (asked : Call) (planned : CallPlan) → IfSome demanded (IsFreeNumber machine.tree) → IsCall asked → Outcome machine.tree.nodes machine.seats seat moment pick asked planned → PlanFits demanded planned.op
  plan_fits demanded _ _ picked good (answered asked answer) = tt
  plan_fits demanded _ _ picked good (opened path how stat fd found fits ordinary free) = is_openable_at machine.tree sound stat.ino stat (path_ok machine.tree.nodes seat.cred seat.cwd path stat found).1 ordinary
  plan_fits demanded _ _ picked good (emptied path mode ino stat fd found regular ordinary free) = is_regular_at machine.tree sound ino stat found regular ordinary
  plan_fits demanded _ _ picked good (created path mode dir name fd ino placed free taken) =
      let place = place_ok machine.tree.nodes seat.cred seat.cwd path dir name None good.no_zero placed in
      record { missing = record { directory = place.directory; named = place.named; missing = place.number }; permissions = masked_low mode seat; picked = picked }
  plan_fits demanded _ _ picked good (closed_shared fd file h s) = tt
  plan_fits demanded _ _ picked good (closed_last fd file h s) = release_one fd file h
  plan_fits demanded _ _ picked good (moved asked answer fd offset) = tt
  plan_fits demanded _ _ picked good (put fd file byte bytes h w) =
      let place = on_place seat fd file h in
      record { regular = (valid.files place.0 file place.2).written w; some = omega arith; few = good }
  plan_fits demanded _ _ picked good (doubled fd to free) = tt
  plan_fits demanded _ _ picked good (linked from to stat dir name f d h) =
      let place = place_ok machine.tree.nodes seat.cred seat.cwd to dir name None good.1.no_zero h in
      let path = path_ok machine.tree.nodes seat.cred seat.cwd from stat f in
      record {
        missing = record { directory = place.directory; named = place.named; missing = place.number };
        leaf = is_leaf_at machine.tree sound stat.ino stat path.1 d;
        ordinary = walk_apart machine.tree sound seat.cred _ _ stat.ino (start_apart machine.tree sound seat.cwd from (no_first machine.tree sound seat.cwd valid.cwd)) path.0;
      }
  plan_fits demanded _ _ picked good (unlinked path dir name ino stat h f d) =
      let place = place_ok machine.tree.nodes seat.cred seat.cwd path dir name (Some ino) good.no_zero h in
      record { ino = ino; directory = place.directory; named = place.named; leads = place.number; leaf = is_leaf_at machine.tree sound ino stat f d }
  plan_fits demanded _ _ picked good (made path mode dir name h) =
      let place = place_ok machine.tree.nodes seat.cred seat.cwd path dir name None good.no_zero h in
      record { missing = record { directory = place.directory; named = place.named; missing = place.number }; permissions = masked_low mode seat; picked = picked }
  plan_fits demanded _ _ picked good (removed path dir name ino stat h f d n b u) =
      let place = place_ok machine.tree.nodes seat.cred seat.cwd path dir name (Some ino) good.no_zero h in
      record {
        ino = ino;
        parent = place.directory;
        named = place.named;
        no_dots = n;
        leads = place.number;
        directory = is_directory_at machine.tree sound ino stat f d;
        empty = few_of _ u;
        unopened = unopened machine.seats ino b;
      }
  plan_fits demanded _ _ picked good (entered path stat h d) = tt
  plan_fits demanded _ _ picked good (mode_set path mode stat h) = (is_there machine.tree sound stat.ino stat (path_ok machine.tree.nodes seat.cred seat.cwd path stat h).1, stored_low mode seat.cred)
  plan_fits demanded _ _ picked good (owner_set path uid gid stat h) = is_there machine.tree sound stat.ino stat (path_ok machine.tree.nodes seat.cred seat.cwd path stat h).1
  plan_fits demanded _ _ picked good (times_set path atime mtime stat h) = is_there machine.tree sound stat.ino stat (path_ok machine.tree.nodes seat.cred seat.cwd path stat h).1
  plan_fits demanded _ _ picked good (masked_off mask) = tt
  plan_fits demanded _ _ picked good (left h) = tt
  plan_fits demanded _ _ picked good (left_open ino inos h) = release_all ino inos h

pub operations_fit : OperationsFit
operations_fit machine caller asked moment pick planned done valid good h is picked =
    let out = outcome machine caller asked moment pick planned h in
    let fits = plan_fits machine caller out.0 moment pick out.1 valid.tree (valid.seat out.0 out.1) pick asked planned picked good out.2 in
    subst (PlanFits machine caller out.0 moment pick out.1 valid.tree (valid.seat out.0 out.1) pick) is fits

-- without a demanded number it fits whatever was picked
pub unpicked_fits : (machine : Machine) (caller : ℕ) (asked : Call) (moment : ℕ) (pick : Option ℕ) (planned : CallPlan) (done : FsOp) → IsValidFor machine caller → IsCall asked
    → plan machine caller asked moment pick ≡ Ok planned → planned.op ≡ Some done → Fits machine.tree (counts machine.seats) done None
unpicked_fits machine caller asked moment pick planned done valid good h is =
    let out = outcome machine caller asked moment pick planned h in
    let fits = plan_fits machine caller out.0 moment pick out.1 valid.tree (valid.seat out.0 out.1) None asked planned tt good out.2 in
    subst (PlanFits machine caller out.0 moment pick out.1 valid.tree (valid.seat out.0 out.1) None) is fits
