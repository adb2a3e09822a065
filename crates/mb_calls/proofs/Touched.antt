-- An operation of a call touches the inodes at which the call looks.
use Rattle.std.proofs.Common.{◌≡◌, ◌⊎◌, inl, inr, ℕ, Bool, true, false, not, List, [], ◌∷◌, Option, Some, None, Ok, refl, sym, subst, ◌∙◌}
use Rattle.std.specs.Prelude.{slice_get}
use Rattle.std.specs.List.{Contains}
use Rattle.mb_kinds.specs.declared.calls.Call.{Call}
use Rattle.mb_kinds.specs.declared.calls.Call.TheVariants as call
use Rattle.mb_kinds.specs.declared.calls.How.TheVariants.{Writing}
use Rattle.mb_kinds.specs.declared.errors.Errno.TheVariants.{EACCES, EINVAL, EISDIR, EMFILE, ENOSPC, ENXIO}
use Rattle.mb_iface.specs.Near.{IsTouched}
use Rattle.mb_tree.specs.Answers.{need, some}
use Rattle.mb_tree.specs.Inodes.{is_directory, is_special, may}
use Rattle.mb_tree.specs.Lookup.{find_place, number_in, stat_in}
use Rattle.mb_tree.specs.Rows.{both, creat_at, creat_missing, creat_present, masked, plan, row}
use Rattle.mb_tree.specs.SessionLaws.{IsCall}
use Rattle.mb_tree.specs.Sessions.{free_descriptor, inos_of}
use Rattle.mb_tree.specs.declared.lookups.Placed.{Placed}
use Rattle.mb_tree.specs.declared.lookups.Placed.TheVariants as placed
use Rattle.mb_tree.specs.declared.machines.Machine.{Machine}
use Rattle.mb_tree.specs.declared.operations.FsOp.{FsOp}
use Rattle.mb_tree.specs.declared.operations.FsOp.TheVariants as op
use Rattle.mb_tree.specs.declared.plans.CallPlan.{CallPlan}
use Rattle.mb_tree.specs.declared.seats.Seat.{Seat}
use Rattle.mb_tree.specs.declared.seats.SessionChange.TheVariants.{Fresh}
use Rattle.mb_tree.specs.declared.trees.Tree.{Tree}
use Rattle.mb_tree.proofs.Always.{Always, always_bind, always_ok, always_then, bind_ok}
use Rattle.mb_tree.proofs.Outcomes.{Outcome, outcome, some_ok}
use Rattle.mb_tree.proofs.Outcomes.Outcome.{answered as out_answered, opened as out_opened, emptied as out_emptied, created as out_created, closed_shared as out_closed_shared, closed_last as out_closed_last, moved as out_moved, put as out_put, doubled as out_doubled, linked as out_linked, unlinked as out_unlinked, made as out_made, removed as out_removed, entered as out_entered, mode_set as out_mode_set, owner_set as out_owner_set, times_set as out_times_set, masked_off as out_masked_off, left as out_left, left_open as out_left_open}
use Rattle.mb_tree.proofs.PlacedNames.{place_ok}
use Rattle.mb_calls.specs.Looked.{IsLooked, paths_of}
use Rattle.mb_calls.specs.Looked.IsLooked.{left}
use Rattle.mb_calls.proofs.Nearby.{either, file_looked, find_looked, first_of, only, place_beside, second_of}

abbrev is_creat : Call → Bool
is_creat (call.Creat path mode) = true
is_creat _ = false

or_creat : (asked : Call) → (is_creat asked ≡ false) ⊎ ((path : List ℕ) × (mode : ℕ) × (asked ≡ call.Creat path mode))
or_creat (call.Creat path mode) = inr (path, mode, refl)
or_creat (call.Open path how) = inl refl
or_creat (call.Close fd) = inl refl
or_creat (call.Read fd count) = inl refl
or_creat (call.Write fd bytes) = inl refl
or_creat (call.Lseek fd by whence) = inl refl
or_creat (call.Dup fd) = inl refl
or_creat (call.Link from to) = inl refl
or_creat (call.Unlink path) = inl refl
or_creat (call.Mkdir path mode) = inl refl
or_creat (call.Rmdir path) = inl refl
or_creat (call.Chdir path) = inl refl
or_creat (call.Stat path) = inl refl
or_creat (call.Fstat fd) = inl refl
or_creat (call.Chmod path mode) = inl refl
or_creat (call.Chown path uid gid) = inl refl
or_creat (call.Utime path atime mtime) = inl refl
or_creat (call.Access path bits) = inl refl
or_creat (call.Umask mask) = inl refl
or_creat call.Sync = inl refl
or_creat call.Exit = inl refl

module _ (tree : Tree) (seat : Seat) (asked : Call) where
  abbrev Looks : ℕ → Type 0
  Looks ino = IsLooked tree.nodes seat asked ino

  abbrev TouchesIf : Option FsOp → Type 0
  TouchesIf None = Unit {0}
  TouchesIf (Some op) = (ino : ℕ) → IsTouched tree op ino → Looks ino

  one_named : (named : ℕ) → Looks named → (ino : ℕ) → Contains (named ∷ []) ino → Looks ino
  one_named named h ino has = subst Looks (only named ino has) h

  none_led : (ino : ℕ) → ◌≡◌ {A = Option ℕ} None (Some ino) → Looks ino
  none_led ino h = cc

  -- an operation that names one inode and no slot
  one_touched : (named : ℕ) → Looks named → (ino : ℕ) → Contains (named ∷ []) ino ⊎ (◌≡◌ {A = Option ℕ} None (Some ino)) → Looks ino
  one_touched named h ino (inl has) = one_named named h ino has
  one_touched named h ino (inr led) = none_led ino led

  module _ (path : List ℕ) (has : Contains (paths_of asked) path) (good : (dir : ℕ) (name : List ℕ) (found : Option ℕ) → find_place tree.nodes seat.cred seat.cwd path ≡ Ok (placed.At dir name found) → number_in tree.nodes dir name ≡ found) where
    directory_looked : (dir : ℕ) (name : List ℕ) (found : Option ℕ) → find_place tree.nodes seat.cred seat.cwd path ≡ Ok (placed.At dir name found) → Looks dir
    directory_looked dir name None h = place_beside tree.nodes seat asked path has (placed.At dir name None) h
    directory_looked dir name (Some ino) h = (place_beside tree.nodes seat asked path has (placed.At dir name (Some ino)) h).1

    led_looked : (dir : ℕ) (name : List ℕ) (found : Option ℕ) → find_place tree.nodes seat.cred seat.cwd path ≡ Ok (placed.At dir name found) → (ino : ℕ) → number_in tree.nodes dir name ≡ Some ino → Looks ino
    led_looked dir name None h ino led = none_led ino (sym (good dir name None h) ∙ led)
    led_looked dir name (Some other) h ino led =
        let is : other ≡ ino = let e : Some other ≡ Some ino = sym (good dir name (Some other) h) ∙ led in cc in
        subst Looks is (place_beside tree.nodes seat asked path has (placed.At dir name (Some other)) h).0

    -- an operation on the slot of a place
    slot_touched : (dir : ℕ) (name : List ℕ) (found : Option ℕ) → find_place tree.nodes seat.cred seat.cwd path ≡ Ok (placed.At dir name found)
        → (ino : ℕ) → Contains (dir ∷ []) ino ⊎ (number_in tree.nodes dir name ≡ Some ino) → Looks ino
    slot_touched dir name found h ino (inl has) = one_named dir (directory_looked dir name found h) ino has
    slot_touched dir name found h ino (inr led) = led_looked dir name found h ino led

    link_touched : (dir : ℕ) (name : List ℕ) (found : Option ℕ) (linked : ℕ) → find_place tree.nodes seat.cred seat.cwd path ≡ Ok (placed.At dir name found) → Looks linked
        → (ino : ℕ) → Contains (dir ∷ linked ∷ []) ino ⊎ (number_in tree.nodes dir name ≡ Some ino) → Looks ino
    link_touched dir name found linked h looks ino (inl has) = elim (either dir linked ino has) [
      | inl is ↦ subst Looks is (directory_looked dir name found h)
      | inr is ↦ subst Looks is looks
    ]
    link_touched dir name found linked h looks ino (inr led) = led_looked dir name found h ino led

left_touched : (tree : Tree) (seat : Seat) (asked : Call) (inos : List ℕ) → inos_of seat ≡ inos → (ino : ℕ) → Contains inos ino ⊎ (◌≡◌ {A = Option ℕ} None (Some ino)) → IsLooked tree.nodes seat asked ino
left_touched tree seat asked inos is ino (inl has) = left (subst (λ xs. Contains xs ino) (sym is) has)
left_touched tree seat asked inos is ino (inr led) = none_led tree seat asked ino led

module _ (tree : Tree) (seats : List Seat) (seat : Seat) (moment : ℕ) (pick : Option ℕ) where
  touched_out : (asked : Call) (planned : CallPlan) → IsCall asked → is_creat asked ≡ false → Outcome tree.nodes seats seat moment pick asked planned → TouchesIf tree seat asked planned.op
  touched_out _ _ good quiet (out_answered asked answer) = tt
  touched_out _ _ good quiet (out_opened path how stat fd found fits ordinary free) = one_touched tree seat (call.Open path how) stat.ino (find_looked tree.nodes seat (call.Open path how) path (first_of path []) stat found)
  touched_out _ _ good quiet (out_emptied path mode ino stat fd found regular ordinary free) = absurd (let no : true ≡ false = quiet in cc)
  touched_out _ _ good quiet (out_created path mode dir name fd ino placed free taken) = absurd (let no : true ≡ false = quiet in cc)
  touched_out _ _ good quiet (out_closed_shared fd file h s) = tt
  touched_out _ _ good quiet (out_closed_last fd file h s) = one_touched tree seat (call.Close fd) file.ino (file_looked tree.nodes seat (call.Close fd) fd file h)
  touched_out _ _ good quiet (out_moved asked answer fd offset) = tt
  touched_out _ _ good quiet (out_put fd file byte bytes h w) = one_touched tree seat (call.Write fd (byte ∷ bytes)) file.ino (file_looked tree.nodes seat (call.Write fd (byte ∷ bytes)) fd file h)
  touched_out _ _ good quiet (out_doubled fd to free) = tt
  touched_out _ _ good quiet (out_linked from to stat dir name f d h) = link_touched tree seat (call.Link from to) to (second_of from to [])
      (λ dir name found h. (place_ok tree.nodes seat.cred seat.cwd to dir name found good.1.no_zero h).number) dir name None stat.ino h (find_looked tree.nodes seat (call.Link from to) from (first_of from (to ∷ [])) stat f)
  touched_out _ _ good quiet (out_unlinked path dir name ino stat h f d) = slot_touched tree seat (call.Unlink path) path (first_of path [])
      (λ dir name found h. (place_ok tree.nodes seat.cred seat.cwd path dir name found good.no_zero h).number) dir name (Some ino) h
  touched_out _ _ good quiet (out_made path mode dir name h) = slot_touched tree seat (call.Mkdir path mode) path (first_of path [])
      (λ dir name found h. (place_ok tree.nodes seat.cred seat.cwd path dir name found good.no_zero h).number) dir name None h
  touched_out _ _ good quiet (out_removed path dir name ino stat h f d n b u) = slot_touched tree seat (call.Rmdir path) path (first_of path [])
      (λ dir name found h. (place_ok tree.nodes seat.cred seat.cwd path dir name found good.no_zero h).number) dir name (Some ino) h
  touched_out _ _ good quiet (out_entered path stat h d) = tt
  touched_out _ _ good quiet (out_mode_set path mode stat h) = one_touched tree seat (call.Chmod path mode) stat.ino (find_looked tree.nodes seat (call.Chmod path mode) path (first_of path []) stat h)
  touched_out _ _ good quiet (out_owner_set path uid gid stat h) = one_touched tree seat (call.Chown path uid gid) stat.ino (find_looked tree.nodes seat (call.Chown path uid gid) path (first_of path []) stat h)
  touched_out _ _ good quiet (out_times_set path atime mtime stat h) = one_touched tree seat (call.Utime path atime mtime) stat.ino (find_looked tree.nodes seat (call.Utime path atime mtime) path (first_of path []) stat h)
  touched_out _ _ good quiet (out_masked_off mask) = tt
  touched_out _ _ good quiet (out_left h) = tt
  touched_out _ _ good quiet (out_left_open ino inos h) = left_touched tree seat call.Exit (ino ∷ inos) h

  -- ---- creat(2)
  present_op : (ino : ℕ) → Always (λ (p : CallPlan). p.op ≡ Some (op.Empty ino moment)) (creat_present tree.nodes seat moment ino)
  present_op ino =
      let P : CallPlan → Type 0 = λ (p : CallPlan). p.op ≡ Some (op.Empty ino moment) in
      always_bind P (stat_in tree.nodes ino) _ (λ stat. always_then P (need (may seat.cred stat 2) EACCES) _ (always_then P (need (not (is_directory stat.mode)) EISDIR) _ (always_then P (need (not (is_special stat.mode)) ENXIO) _
      (always_bind P (some (free_descriptor seat) EMFILE) _ (λ fd. always_ok P (both fd (op.Empty ino moment) (Fresh fd ino Writing)) refl)))))

  abbrev makes_at : ℕ → List ℕ → ℕ → FsOp
  makes_at dir name mode = op.Create dir name (masked mode seat) seat.cred.uid seat.cred.gid moment

  missing_op : (mode dir : ℕ) (name : List ℕ) → Always (λ (p : CallPlan). p.op ≡ Some (makes_at dir name mode)) (creat_missing tree.nodes seat mode moment pick dir name)
  missing_op mode dir name =
      let P : CallPlan → Type 0 = λ (p : CallPlan). p.op ≡ Some (makes_at dir name mode) in
      always_bind P (stat_in tree.nodes dir) _ (λ parent. always_then P (need (may seat.cred parent 2) EACCES) _ (always_bind P (some (free_descriptor seat) EMFILE) _
      (λ fd. always_bind P (some pick ENOSPC) _ (λ ino. always_ok P (both fd (makes_at dir name mode) (Fresh fd ino Writing)) refl))))

  touched_creat : (path : List ℕ) (mode : ℕ) (planned : CallPlan) → IsCall (call.Creat path mode) → row tree.nodes seats seat (call.Creat path mode) moment pick ≡ Ok planned → TouchesIf tree seat (call.Creat path mode) planned.op
  touched_creat path mode planned good h =
      let one = bind_ok (find_place tree.nodes seat.cred seat.cwd path) _ planned h in
      go one.0 one.1 one.2
    where
      whole : Call
      whole = call.Creat path mode

      emptied : (ino : ℕ) → IsLooked tree.nodes seat whole ino → creat_present tree.nodes seat moment ino ≡ Ok planned → TouchesIf tree seat whole planned.op
      emptied ino looks h = subst (TouchesIf tree seat whole) (sym ((present_op ino).holds planned h)) (one_touched tree seat whole ino looks)

      go : (p : Placed) → find_place tree.nodes seat.cred seat.cwd path ≡ Ok p → creat_at tree.nodes seat mode moment pick p ≡ Ok planned → TouchesIf tree seat whole planned.op
      go (placed.Itself ino) at h = emptied ino (place_beside tree.nodes seat whole path (first_of path []) (placed.Itself ino) at) h
      go (placed.At dir name (Some ino)) at h = emptied ino (place_beside tree.nodes seat whole path (first_of path []) (placed.At dir name (Some ino)) at).0 h
      go (placed.At dir name None) at h = subst (TouchesIf tree seat whole) (sym ((missing_op mode dir name).holds planned h))
          (slot_touched tree seat whole path (first_of path []) (λ dir name found h. (place_ok tree.nodes seat.cred seat.cwd path dir name found good.no_zero h).number) dir name None at)

same_seat : (o : Option Seat) (a b : Seat) → o ≡ Some a → o ≡ Some b → a ≡ b
same_seat o a b h e = let is : Some a ≡ Some b = sym h ∙ e in cc

pub touched_looked : (machine : Machine) (caller : ℕ) (seat : Seat) (moment : ℕ) (pick : Option ℕ) (asked : Call) (planned : CallPlan) (op : FsOp) → IsCall asked → slice_get machine.seats caller ≡ Some seat
    → plan machine caller asked moment pick ≡ Ok planned → planned.op ≡ Some op → (ino : ℕ) → IsTouched machine.tree op ino → IsLooked machine.tree.nodes seat asked ino
touched_looked machine caller seat moment pick asked planned op good there h is = elim (or_creat asked) [
  | inl quiet ↦
      let out = outcome machine caller asked moment pick planned h in
      subst (λ s. (ino : ℕ) → IsTouched machine.tree op ino → IsLooked machine.tree.nodes s asked ino) (same_seat (slice_get machine.seats caller) out.0 seat out.1 there)
      (subst (TouchesIf machine.tree out.0 asked) is (touched_out machine.tree machine.seats out.0 moment pick asked planned good quiet out.2))
  | inr creat ↦
      let one = bind_ok (some (slice_get machine.seats caller) EINVAL) _ planned h in
      let same = same_seat (slice_get machine.seats caller) one.0 seat (some_ok (slice_get machine.seats caller) EINVAL one.0 one.1) there in
      subst (λ s. (ino : ℕ) → IsTouched machine.tree op ino → IsLooked machine.tree.nodes s asked ino) same (subst (TouchesIf machine.tree one.0 asked) is (subst (λ c. TouchesIf machine.tree one.0 c planned.op) (sym creat.2)
      (touched_creat machine.tree machine.seats one.0 moment pick creat.0 creat.1 planned (subst IsCall creat.2 good) (subst (λ c. row machine.tree.nodes machine.seats one.0 c moment pick ≡ Ok planned) creat.2 one.2))))
]
