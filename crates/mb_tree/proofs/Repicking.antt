-- The plan of a call for one number gives its plan for every pick.
use Rattle.std.proofs.Common.{List, ℕ, ◌≡◌, Bool, true, false, not, Option, Some, None, Ok, Err, inl, inr, ◌⊎◌, refl, sym, ap, subst, ◌∙◌}
use Rattle.std.specs.Prelude.{slice_get}
use Rattle.mb_kinds.specs.declared.calls.Call.{Call}
use Rattle.mb_kinds.specs.declared.calls.Call.TheVariants as call
use Rattle.mb_kinds.specs.declared.calls.How.TheVariants.{Writing}
use Rattle.mb_kinds.specs.declared.errors.Errno.{Errno}
use Rattle.mb_kinds.specs.declared.errors.Errno.TheVariants.{EACCES, EISDIR, ENXIO, EINVAL, EMFILE, ENOSPC}
use Rattle.mb_kinds.specs.declared.replies.Stat.{Stat}
use Rattle.mb_tree.specs.Answers.{Answer, ◌>>=◌, ◌>>◌, need, some}
use Rattle.mb_tree.specs.Inodes.{is_directory, is_special, may}
use Rattle.mb_tree.specs.Lookup.{find_place, stat_in}
use Rattle.mb_tree.specs.Maps.{Numbered}
use Rattle.mb_tree.specs.PickLaws.{repicked}
use Rattle.mb_tree.specs.Rows.{both, creat_at, creat_missing, creat_present, creat_under, masked, plan, row}
use Rattle.mb_tree.specs.Sessions.{free_descriptor}
use Rattle.mb_tree.specs.declared.lookups.Placed.{Placed}
use Rattle.mb_tree.specs.declared.lookups.Placed.TheVariants as placed
use Rattle.mb_tree.specs.declared.machines.Machine.{Machine}
use Rattle.mb_tree.specs.declared.nodes.Node.{Node}
use Rattle.mb_tree.specs.declared.operations.FsOp.TheVariants.{Create, Empty}
use Rattle.mb_tree.specs.declared.plans.CallPlan.{CallPlan}
use Rattle.mb_tree.specs.declared.seats.Seat.{Seat}
use Rattle.mb_tree.specs.declared.seats.SessionChange.TheVariants.{Fresh}
use Rattle.mb_tree.proofs.Always.{bind_ok, then_ok, same_ok}
use Rattle.mb_tree.proofs.Outcomes.{Outcome, outcome}
use Rattle.mb_tree.proofs.Outcomes.Outcome.{answered as out_answered, opened as out_opened, emptied as out_emptied, created as out_created, closed_shared as out_closed_shared, closed_last as out_closed_last, moved as out_moved, put as out_put, doubled as out_doubled, linked as out_linked, unlinked as out_unlinked, made as out_made, removed as out_removed, entered as out_entered, mode_set as out_mode_set, owner_set as out_owner_set, times_set as out_times_set, masked_off as out_masked_off, left as out_left, left_open as out_left_open}

-- creat alone looks at a number
abbrev is_creat : Call → Bool
is_creat (call.Creat path mode) = true
is_creat _ = false

or_creat : (asked : Call) → (is_creat asked ≡ false) ⊎ ((path : List ℕ) × (mode : ℕ) × (asked ≡ call.Creat path mode))
or_creat (call.Creat path mode) = inr (path, mode, refl)
or_creat (call.Open path how) = inl refl
or_creat (call.Close fd) = inl refl
or_creat (call.Read fd count) = inl refl
or_creat (call.Write fd bytes) = inl refl
or_creat (call.Lseek fd by whence) = inl refl
or_creat (call.Dup fd) = inl refl
or_creat (call.Link from to) = inl refl
or_creat (call.Unlink path) = inl refl
or_creat (call.Mkdir path mode) = inl refl
or_creat (call.Rmdir path) = inl refl
or_creat (call.Chdir path) = inl refl
or_creat (call.Stat path) = inl refl
or_creat (call.Fstat fd) = inl refl
or_creat (call.Chmod path mode) = inl refl
or_creat (call.Chown path uid gid) = inl refl
or_creat (call.Utime path atime mtime) = inl refl
or_creat (call.Access path bits) = inl refl
or_creat (call.Umask mask) = inl refl
or_creat call.Sync = inl refl
or_creat call.Exit = inl refl

module _ (number : ℕ) where
  same_plan : (machine : Machine) (caller moment : ℕ) (pick : Option ℕ) (asked : Call) → is_creat asked ≡ false → plan machine caller asked moment pick ≡ plan machine caller asked moment (Some number)
  same_plan machine caller moment pick (call.Creat path mode) h = absurd (let no : true ≡ false = h in cc)
  same_plan machine caller moment pick (call.Open path how) h = refl
  same_plan machine caller moment pick (call.Close fd) h = refl
  same_plan machine caller moment pick (call.Read fd count) h = refl
  same_plan machine caller moment pick (call.Write fd bytes) h = refl
  same_plan machine caller moment pick (call.Lseek fd by whence) h = refl
  same_plan machine caller moment pick (call.Dup fd) h = refl
  same_plan machine caller moment pick (call.Link from to) h = refl
  same_plan machine caller moment pick (call.Unlink path) h = refl
  same_plan machine caller moment pick (call.Mkdir path mode) h = refl
  same_plan machine caller moment pick (call.Rmdir path) h = refl
  same_plan machine caller moment pick (call.Chdir path) h = refl
  same_plan machine caller moment pick (call.Stat path) h = refl
  same_plan machine caller moment pick (call.Fstat fd) h = refl
  same_plan machine caller moment pick (call.Chmod path mode) h = refl
  same_plan machine caller moment pick (call.Chown path uid gid) h = refl
  same_plan machine caller moment pick (call.Utime path atime mtime) h = refl
  same_plan machine caller moment pick (call.Access path bits) h = refl
  same_plan machine caller moment pick (call.Umask mask) h = refl
  same_plan machine caller moment pick call.Sync h = refl
  same_plan machine caller moment pick call.Exit h = refl

  quiet_repick : (nodes : Numbered Node) (seats : List Seat) (seat : Seat) (moment : ℕ) (pick : Option ℕ) (asked : Call) (planned : CallPlan) → is_creat asked ≡ false → Outcome nodes seats seat moment (Some number) asked planned → repicked planned.op pick planned ≡ Ok planned
  quiet_repick nodes seats seat moment pick _ _ q (out_answered asked answer) = refl
  quiet_repick nodes seats seat moment pick _ _ q (out_opened path how stat fd found fits ordinary free) = refl
  quiet_repick nodes seats seat moment pick _ _ q (out_emptied path mode ino stat fd found regular ordinary free) = refl
  quiet_repick nodes seats seat moment pick _ _ q (out_closed_shared fd file h s) = refl
  quiet_repick nodes seats seat moment pick _ _ q (out_closed_last fd file h s) = refl
  quiet_repick nodes seats seat moment pick _ _ q (out_moved asked answer fd offset) = refl
  quiet_repick nodes seats seat moment pick _ _ q (out_put fd file byte bytes h w) = refl
  quiet_repick nodes seats seat moment pick _ _ q (out_doubled fd to free) = refl
  quiet_repick nodes seats seat moment pick _ _ q (out_linked from to stat dir name f d h) = refl
  quiet_repick nodes seats seat moment pick _ _ q (out_unlinked path dir name ino stat h f d) = refl
  quiet_repick nodes seats seat moment pick _ _ q (out_made path mode dir name h) = refl
  quiet_repick nodes seats seat moment pick _ _ q (out_removed path dir name ino stat h f d n b u) = refl
  quiet_repick nodes seats seat moment pick _ _ q (out_entered path stat h d) = refl
  quiet_repick nodes seats seat moment pick _ _ q (out_mode_set path mode stat h) = refl
  quiet_repick nodes seats seat moment pick _ _ q (out_owner_set path uid gid stat h) = refl
  quiet_repick nodes seats seat moment pick _ _ q (out_times_set path atime mtime stat h) = refl
  quiet_repick nodes seats seat moment pick _ _ q (out_masked_off mask) = refl
  quiet_repick nodes seats seat moment pick _ _ q (out_left h) = refl
  quiet_repick nodes seats seat moment pick _ _ q (out_left_open ino inos h) = refl
  quiet_repick nodes seats seat moment pick _ _ q (out_created path mode dir name fd ino placed free taken) = absurd (let no : true ≡ false = q in cc)

  present_plan : (nodes : Numbered Node) (seat : Seat) (moment ino : ℕ) (pick : Option ℕ) (planned : CallPlan) → creat_present nodes seat moment ino ≡ Ok planned → creat_present nodes seat moment ino ≡ repicked planned.op pick planned
  present_plan nodes seat moment ino pick planned h =
      let one = bind_ok (stat_in nodes ino) _ planned h in
      let two = then_ok (need (may seat.cred one.0 2) EACCES) _ planned one.2 in
      let three = then_ok (need (not (is_directory one.0.mode)) EISDIR) _ planned two.2 in
      let four = then_ok (need (not (is_special one.0.mode)) ENXIO) _ planned three.2 in
      let five = bind_ok (some (free_descriptor seat) EMFILE) _ planned four.2 in
      let is : both five.0 (Empty ino moment) (Fresh five.0 ino Writing) ≡ planned = same_ok (both five.0 (Empty ino moment) (Fresh five.0 ino Writing)) planned five.2 in
      h ∙ sym (subst (λ (p : CallPlan). repicked p.op pick p ≡ Ok p) is refl)

  -- what follows the free descriptor
  abbrev created_on : Seat → ℕ → ℕ → Option ℕ → ℕ → List ℕ → ℕ → Answer CallPlan
  created_on seat mode moment pick dir name fd =
      some pick ENOSPC >>= (λ (ino : ℕ). Ok (both fd (Create dir name (masked mode seat) seat.cred.uid seat.cred.gid moment) (Fresh fd ino Writing)))

  missing_plan : (nodes : Numbered Node) (seat : Seat) (mode moment : ℕ) (pick : Option ℕ) (dir : ℕ) (name : List ℕ) (planned : CallPlan)
      → creat_missing nodes seat mode moment (Some number) dir name ≡ Ok planned → creat_missing nodes seat mode moment pick dir name ≡ repicked planned.op pick planned
  missing_plan nodes seat mode moment pick dir name planned h =
      let one = bind_ok (stat_in nodes dir) _ planned h in
      let two = then_ok (need (may seat.cred one.0 2) EACCES) _ planned one.2 in
      let three = bind_ok (some (free_descriptor seat) EMFILE) _ planned two.2 in
      let made : CallPlan = both three.0 (Create dir name (masked mode seat) seat.cred.uid seat.cred.gid moment) (Fresh three.0 number Writing) in
      ap (λ (r : Answer Stat). r >>= creat_under seat mode moment pick dir name) one.1
      ∙ ap (λ (r : Answer (Unit {0})). r >> (some (free_descriptor seat) EMFILE >>= created_on seat mode moment pick dir name)) two.1
      ∙ ap (λ (r : Answer ℕ). r >>= created_on seat mode moment pick dir name) three.1
      ∙ subst (λ (p : CallPlan). created_on seat mode moment pick dir name three.0 ≡ repicked p.op pick p) (same_ok made planned three.2) (last pick three.0)
    where
      last : (pick : Option ℕ) (fd : ℕ) → created_on seat mode moment pick dir name fd
          ≡ repicked (Some (Create dir name (masked mode seat) seat.cred.uid seat.cred.gid moment)) pick (both fd (Create dir name (masked mode seat) seat.cred.uid seat.cred.gid moment) (Fresh fd number Writing))
      last None fd = refl
      last (Some ino) fd = refl

  creat_plan : (nodes : Numbered Node) (seats : List Seat) (moment : ℕ) (pick : Option ℕ) (path : List ℕ) (mode : ℕ) (planned : CallPlan) (o : Option Seat)
      → (some o EINVAL >>= (λ (seat : Seat). row nodes seats seat (call.Creat path mode) moment (Some number))) ≡ Ok planned
      → (some o EINVAL >>= (λ (seat : Seat). row nodes seats seat (call.Creat path mode) moment pick)) ≡ repicked planned.op pick planned
  creat_plan nodes seats moment pick path mode planned None h = cc
  creat_plan nodes seats moment pick path mode planned (Some seat) h = go (find_place nodes seat.cred seat.cwd path) h
    where
      go : (r : Answer Placed) → (r >>= creat_at nodes seat mode moment (Some number)) ≡ Ok planned → (r >>= creat_at nodes seat mode moment pick) ≡ repicked planned.op pick planned
      go (Ok (placed.Itself ino)) h = present_plan nodes seat moment ino pick planned h
      go (Ok (placed.At dir name (Some ino))) h = present_plan nodes seat moment ino pick planned h
      go (Ok (placed.At dir name None)) h = missing_plan nodes seat mode moment pick dir name planned h
      go (Err d) h = cc

  pub replans : (machine : Machine) (caller : ℕ) (made : Call) (moment : ℕ) (pick : Option ℕ) (planned : CallPlan) → plan machine caller made moment (Some number) ≡ Ok planned
      → plan machine caller made moment pick ≡ repicked planned.op pick planned
  replans machine caller made moment pick planned h = elim (or_creat made) [
    | inl quiet ↦ let out = outcome machine caller made moment (Some number) planned h in
        same_plan machine caller moment pick made quiet ∙ h ∙ sym (quiet_repick machine.tree.nodes machine.seats out.0 moment pick made planned quiet out.2)
    | inr creat ↦ subst (λ c. plan machine caller c moment pick ≡ repicked planned.op pick planned) (sym creat.2)
        (creat_plan machine.tree.nodes machine.seats moment pick creat.0 creat.1 planned (slice_get machine.seats caller) (subst (λ c. plan machine caller c moment (Some number) ≡ Ok planned) creat.2 h))
  ]

  -- the refusals of a row come before the number is looked at
  refused_under : (seat : Seat) (mode moment : ℕ) (pick : Option ℕ) (dir : ℕ) (name : List ℕ) (e : Errno) (parent : Stat)
      → creat_under seat mode moment (Some number) dir name parent ≡ Err e → creat_under seat mode moment pick dir name parent ≡ Err e
  refused_under seat mode moment pick dir name e parent h = next (may seat.cred parent 2) h
    where
      last : (o : Option ℕ) → (some o EMFILE >>= created_on seat mode moment (Some number) dir name) ≡ Err e → (some o EMFILE >>= created_on seat mode moment pick dir name) ≡ Err e
      last (Some fd) h = cc
      last None h = h

      next : (b : Bool) → (need b EACCES >> (some (free_descriptor seat) EMFILE >>= created_on seat mode moment (Some number) dir name)) ≡ Err e
          → (need b EACCES >> (some (free_descriptor seat) EMFILE >>= created_on seat mode moment pick dir name)) ≡ Err e
      next true h = last (free_descriptor seat) h
      next false h = h

  refused_missing : (nodes : Numbered Node) (seat : Seat) (mode moment : ℕ) (pick : Option ℕ) (dir : ℕ) (name : List ℕ) (e : Errno)
      → creat_missing nodes seat mode moment (Some number) dir name ≡ Err e → creat_missing nodes seat mode moment pick dir name ≡ Err e
  refused_missing nodes seat mode moment pick dir name e h = go (stat_in nodes dir) h
    where
      go : (r : Answer Stat) → (r >>= creat_under seat mode moment (Some number) dir name) ≡ Err e → (r >>= creat_under seat mode moment pick dir name) ≡ Err e
      go (Ok parent) h = refused_under seat mode moment pick dir name e parent h
      go (Err d) h = h

  refused_row : (nodes : Numbered Node) (seats : List Seat) (seat : Seat) (moment : ℕ) (pick : Option ℕ) (e : Errno) (asked : Call) → row nodes seats seat asked moment (Some number) ≡ Err e → row nodes seats seat asked moment pick ≡ Err e
  refused_row nodes seats seat moment pick e (call.Creat path mode) h = go (find_place nodes seat.cred seat.cwd path) h
    where
      go : (r : Answer Placed) → (r >>= creat_at nodes seat mode moment (Some number)) ≡ Err e → (r >>= creat_at nodes seat mode moment pick) ≡ Err e
      go (Ok (placed.Itself ino)) h = h
      go (Ok (placed.At dir name (Some ino))) h = h
      go (Ok (placed.At dir name None)) h = refused_missing nodes seat mode moment pick dir name e h
      go (Err d) h = h
  refused_row nodes seats seat moment pick e (call.Open path how) h = h
  refused_row nodes seats seat moment pick e (call.Close fd) h = h
  refused_row nodes seats seat moment pick e (call.Read fd count) h = h
  refused_row nodes seats seat moment pick e (call.Write fd bytes) h = h
  refused_row nodes seats seat moment pick e (call.Lseek fd by whence) h = h
  refused_row nodes seats seat moment pick e (call.Dup fd) h = h
  refused_row nodes seats seat moment pick e (call.Link from to) h = h
  refused_row nodes seats seat moment pick e (call.Unlink path) h = h
  refused_row nodes seats seat moment pick e (call.Mkdir path mode) h = h
  refused_row nodes seats seat moment pick e (call.Rmdir path) h = h
  refused_row nodes seats seat moment pick e (call.Chdir path) h = h
  refused_row nodes seats seat moment pick e (call.Stat path) h = h
  refused_row nodes seats seat moment pick e (call.Fstat fd) h = h
  refused_row nodes seats seat moment pick e (call.Chmod path mode) h = h
  refused_row nodes seats seat moment pick e (call.Chown path uid gid) h = h
  refused_row nodes seats seat moment pick e (call.Utime path atime mtime) h = h
  refused_row nodes seats seat moment pick e (call.Access path bits) h = h
  refused_row nodes seats seat moment pick e (call.Umask mask) h = h
  refused_row nodes seats seat moment pick e call.Sync h = h
  refused_row nodes seats seat moment pick e call.Exit h = h

  pub refused_plans : (machine : Machine) (caller : ℕ) (made : Call) (moment : ℕ) (pick : Option ℕ) (e : Errno) → plan machine caller made moment (Some number) ≡ Err e
      → plan machine caller made moment pick ≡ Err e
  refused_plans machine caller made moment pick e h = go (slice_get machine.seats caller) h
    where
      go : (o : Option Seat) → (some o EINVAL >>= (λ (seat : Seat). row machine.tree.nodes machine.seats seat made moment (Some number))) ≡ Err e
          → (some o EINVAL >>= (λ (seat : Seat). row machine.tree.nodes machine.seats seat made moment pick)) ≡ Err e
      go None h = h
      go (Some seat) h = refused_row machine.tree.nodes machine.seats seat moment pick e made h
