-- A step keeps a valid machine valid.
use Rattle.std.proofs.Common.{◌≡◌, ◌≢◌, ℕ, zero, suc, ◌<◌, Bool, true, false, ◌||◌, List, [], ◌∷◌, Option, Some, None, IfSome, Ok, Err, nat_lt, refl, sym, ap, subst, ◌∙◌, arith}
use Rattle.std.proofs.lemmas.Option.{none-some, same_Some}
use Rattle.std.proofs.lemmas.Bool.Decides.{nat_tests}
use Rattle.std.specs.Prelude.{slice_get, slice_set, ◌==◌, option_map, unwrap_or}
use Rattle.std.specs.List.{list_any}
use Rattle.std.specs.FinMap as fin
use Rattle.mb_kinds.specs.declared.calls.Call.{Call}
use Rattle.mb_kinds.specs.declared.replies.Reply.{Reply}
use Rattle.mb_kinds.specs.declared.errors.Errno.TheVariants.{ENOSPC, EMLINK}
use Rattle.mb_tree.specs.Answers.{Answer, need}
use Rattle.mb_tree.specs.Maps.{Numbered}
use Rattle.mb_tree.specs.Inodes.{slots_of}
use Rattle.mb_tree.specs.Sessions.{Counts, counts, changed, with_change}
use Rattle.mb_tree.specs.Effect.{TreeAndOpens, nlink_in, tree_after}
use Rattle.mb_tree.specs.Rows.{masked, plan}
use Rattle.mb_tree.specs.Step.{effect_of, serve, or_refused, IsFreeNumber, IsLawful}
use Rattle.mb_tree.specs.Trees.{IsDirectoryAt, IsSound}
use Rattle.mb_tree.specs.Fits.{IsLeafAt, Fits}
use Rattle.mb_tree.specs.Machines.{IsSeated, IsValid}
use Rattle.mb_tree.specs.SessionLaws.{KeepsUsed, IsAtMostOnBytesOrAttributes, IsCall, ValidKept}
use Rattle.mb_tree.specs.NameLaws.{OperationKept}
use Rattle.mb_tree.specs.declared.machines.Machine.{Machine}
use Rattle.mb_tree.specs.declared.nodes.Node.{Node}
use Rattle.mb_tree.specs.declared.operations.FsOp.{FsOp}
use Rattle.mb_tree.specs.declared.operations.FsOp.TheVariants.{Create, MakeDir, RemoveDir, Enlink, Delink, Release}
use Rattle.mb_tree.specs.declared.plans.CallPlan.{CallPlan}
use Rattle.mb_tree.specs.declared.seats.Seat.{Seat}
use Rattle.mb_tree.specs.declared.seats.SessionChange.TheVariants.{Same}
use Rattle.mb_tree.specs.declared.trees.Tree.{Tree}
use Rattle.mb_tree.proofs.Always.{not_ok, then_ok, same_ok}
use Rattle.mb_tree.proofs.Served.{served}
use Rattle.mb_tree.proofs.Outcomes.{Outcome, outcome}
use Rattle.mb_tree.proofs.Outcomes.Outcome.{answered, opened, emptied, created, closed_shared, closed_last, moved, put, doubled, linked, unlinked, made, removed, entered, mode_set, owner_set, times_set, masked_off, left, left_open}
use Rattle.mb_tree.proofs.EachOperation.{operation_kept}
use Rattle.mb_tree.proofs.Fitting.{each_seat}
use Rattle.mb_tree.proofs.InodeKinds.{is_leaf_at}
use Rattle.mb_tree.proofs.PlacedNames.{place_ok}
use Rattle.mb_tree.proofs.OperationsFit.{operations_fit, stored_low, unopened, or_none}
use Rattle.mb_tree.proofs.BytesOrAttributesValid.{KeepsKinds, acted, keeps_all, bytes_or_attributes_valid}
use Rattle.mb_tree.proofs.ReleaseValid.{counted_open, release_valid}
use Rattle.mb_tree.proofs.NamedKinds.{create_kinds, make_dir_kinds, enlink_kinds, remove_dir_kinds, delink_kinds}
use Rattle.mb_tree.proofs.ValidStays.{valid_stays}

-- ---- seats that do not stand in a directory

first_wrong : (a b : Bool) → a ≡ true → (a || b) ≡ false → ⊥
first_wrong true b t h = let no : true ≡ false = h in cc
first_wrong false b t h = let no : false ≡ true = t in cc

rest_false : (a b : Bool) → (a || b) ≡ false → b ≡ false
rest_false true b h = absurd (let no : true ≡ false = h in cc)
rest_false false b h = h

no_cwd : (seats : List Seat) (ino caller : ℕ) (seat : Seat) → list_any (λ (s : Seat). s.cwd == ino) seats ≡ false → slice_get seats caller ≡ Some seat → seat.cwd ≢ ino
no_cwd [] ino caller seat h at is = let no : None ≡ Some seat = at in cc
no_cwd (first ∷ seats) ino zero seat h at is =
    let same_seat : first ≡ seat = cc in
    let here : first.cwd ≡ ino = ap (λ (s : Seat). s.cwd) same_seat ∙ is in
    let yes_here : (first.cwd == ino) ≡ true = grind (arith, nat_tests) in
    first_wrong (first.cwd == ino) (list_any (λ (s : Seat). s.cwd == ino) seats) yes_here h
no_cwd (first ∷ seats) ino (suc caller) seat h at is = no_cwd seats ino caller seat (rest_false (first.cwd == ino) (list_any (λ (s : Seat). s.cwd == ino) seats) h) at is

leaf_apart : (nodes : Numbered Node) (ino other : ℕ) → IsLeafAt nodes ino → IsDirectoryAt nodes other → other ≢ ino
leaf_apart nodes ino other leaf d is =
    let at : leaf.node ≡ d.node = same_Some leaf.node d.node (sym leaf.has ∙ ap (fin.get nodes) (sym is) ∙ d.has) in
    none-some d.slots (sym leaf.body ∙ ap (λ (n : Node). slots_of n.body) at ∙ ap slots_of d.body)

-- ---- a step that is served

no_pick : (tree : Tree) (opens : Counts) (dir : ℕ) (name : List ℕ) (mode uid gid moment : ℕ) (next : Tree) → tree_after tree opens (MakeDir dir name mode uid gid moment) None ≡ Ok next → ⊥
no_pick tree opens dir name mode uid gid moment next h =
    let one = then_ok (need (nat_lt (nlink_in tree.nodes dir) 32767) EMLINK) (Err ENOSPC) next h in
    not_ok ENOSPC next one.2

pub record Facts (machine : Machine) (caller : ℕ) (asked : Call) (moment : ℕ) (pick : Option ℕ) (reply : Reply) (next : Machine) (planned : CallPlan) : Type 0 where
  pub serves : serve machine caller asked moment pick ≡ Ok (reply, next)
  pub plans : plan machine caller asked moment pick ≡ Ok planned
  pub held : TreeAndOpens
  pub acts : effect_of machine.tree (counts machine.seats) planned.op pick ≡ Ok held
  pub tree : next.tree ≡ held.tree
  pub sound : IsSound next.tree
  pub good : IsCall asked

module _ (machine : Machine) (caller : ℕ) (moment : ℕ) (pick : Option ℕ) (reply : Reply) (next : Machine) (seat : Seat)
    (valid : IsValid machine) (at : slice_get machine.seats caller ≡ Some seat) (picked : IfSome pick (IsFreeNumber machine.tree)) where
  abbrev Known : Call → CallPlan → Type 0
  Known asked planned = Facts machine caller asked moment pick reply next planned

  without_names : (asked : Call) (planned : CallPlan) → Known asked planned → IsAtMostOnBytesOrAttributes planned.op → IsValid next
  without_names asked planned facts is = bytes_or_attributes_valid machine caller asked moment pick reply next planned valid facts.serves facts.plans is

  released : (asked : Call) (planned : CallPlan) (inos : List ℕ) → Known asked planned → planned.op ≡ Some (Release inos) → IsValid next
  released asked planned inos facts is = release_valid machine caller asked moment pick reply next planned inos valid facts.serves facts.plans is

  by_kinds : (asked : Call) (planned : CallPlan) → (facts : Known asked planned) → KeepsKinds machine.tree facts.held.tree → IsValid next
  by_kinds asked planned facts kinds = valid_stays machine caller asked moment pick reply next valid facts.serves facts.sound
      (λ other s e. keeps_all machine.tree.nodes next.tree.nodes s (subst (KeepsKinds machine.tree) (sym facts.tree) kinds))

  -- where the sessions are as they were
  by_seats : (asked : Call) (planned : CallPlan) → (facts : Known asked planned) → planned.session ≡ Same
      → ((other : ℕ) (s : Seat) → slice_get machine.seats other ≡ Some s → IsSeated machine.tree.nodes s → KeepsUsed machine.tree.nodes facts.held.tree.nodes s) → IsValid next
  by_seats asked planned facts same_session keeps =
      let by = served machine caller asked moment pick reply next facts.serves in
      let same_plan : by.planned ≡ planned = same_ok by.planned planned (sym by.plans ∙ facts.plans) in
      let seats : next.seats ≡ slice_set machine.seats caller seat =
      by.seats ∙ ap (λ (p : CallPlan). with_change machine.seats caller p.session) same_plan
      ∙ ap (with_change machine.seats caller) same_session
      ∙ ap (λ o. unwrap_or (option_map (λ s. slice_set machine.seats caller (changed s Same)) o) machine.seats) at in
      let one : (other : ℕ) (s : Seat) → slice_get machine.seats other ≡ Some s → KeepsUsed machine.tree.nodes next.tree.nodes s = λ other s e.
      subst (λ (t : Tree). KeepsUsed machine.tree.nodes t.nodes s) (sym facts.tree) (keeps other s e ((valid other).seat s e)) in
      valid_stays machine caller asked moment pick reply next valid facts.serves facts.sound
      (λ other s e. each_seat (KeepsUsed machine.tree.nodes next.tree.nodes) machine.seats caller seat seat at (one caller seat at) (λ c t apart h. one c t h) other s (sym (ap (λ l. slice_get l other) seats) ∙ e))

  free_of : (ino : ℕ) → pick ≡ Some ino → fin.get machine.tree.nodes ino ≡ None
  free_of ino is = (subst (λ (o : Option ℕ). IfSome o (IsFreeNumber machine.tree)) is picked).unused

  -- a directory is made with the number that was picked, and without one nothing is served
  made_kept : (asked : Call) (planned : CallPlan) (dir : ℕ) (name : List ℕ) (mode : ℕ) (taken : Option ℕ) → taken ≡ pick → (facts : Known asked planned)
      → effect_of machine.tree (counts machine.seats) (Some (MakeDir dir name mode seat.cred.uid seat.cred.gid moment)) taken ≡ Ok facts.held → IsValid next
  made_kept asked planned dir name mode None is facts acts = absurd (no_pick machine.tree (counts machine.seats) dir name mode seat.cred.uid seat.cred.gid moment facts.held.tree
      (acted machine.tree (counts machine.seats) (MakeDir dir name mode seat.cred.uid seat.cred.gid moment) None facts.held acts))
  made_kept asked planned dir name mode (Some ino) is facts acts =
      by_kinds asked planned facts (make_dir_kinds machine.tree (counts machine.seats) dir name mode seat.cred.uid seat.cred.gid moment ino facts.held.tree (free_of ino (sym is))
      (acted machine.tree (counts machine.seats) (MakeDir dir name mode seat.cred.uid seat.cred.gid moment) (Some ino) facts.held acts))

  kept : (asked : Call) (planned : CallPlan) → Outcome machine.tree.nodes machine.seats seat moment pick asked planned → Known asked planned → IsValid next
  kept _ _ (answered asked answer) facts = without_names asked _ facts tt
  kept _ _ (opened path how stat fd found fits ordinary free) facts = without_names _ _ facts tt
  kept _ _ (emptied path mode ino stat fd found regular ordinary free) facts = without_names _ _ facts tt
  kept _ _ (created path mode dir name fd ino placed free taken) facts =
      let acts = ap (effect_of machine.tree (counts machine.seats) (Some (Create dir name (masked mode seat) seat.cred.uid seat.cred.gid moment))) (sym taken) ∙ facts.acts in
      by_kinds _ _ facts (create_kinds machine.tree (counts machine.seats) dir name (masked mode seat) seat.cred.uid seat.cred.gid moment ino facts.held.tree (free_of ino taken)
      (acted machine.tree (counts machine.seats) (Create dir name (masked mode seat) seat.cred.uid seat.cred.gid moment) (Some ino) facts.held acts))
  kept _ _ (closed_shared fd file h s) facts = without_names _ _ facts tt
  kept _ _ (closed_last fd file h s) facts = released _ _ (file.ino ∷ []) facts refl
  kept _ _ (moved asked answer fd offset) facts = without_names asked _ facts tt
  kept _ _ (put fd file byte bytes h w) facts = without_names _ _ facts tt
  kept _ _ (doubled fd to free) facts = without_names _ _ facts tt
  kept _ _ (linked from to stat dir name f d h) facts =
      by_kinds _ _ facts (enlink_kinds machine.tree (counts machine.seats) dir name stat.ino moment pick facts.held.tree
      (acted machine.tree (counts machine.seats) (Enlink dir name stat.ino moment) pick facts.held facts.acts))
  kept _ _ (unlinked path dir name ino stat h f d) facts =
      let place = place_ok machine.tree.nodes seat.cred seat.cwd path dir name (Some ino) facts.good.no_zero h in
      let leaf = is_leaf_at machine.tree (valid caller).tree ino stat f d in
      let kind = delink_kinds machine.tree (counts machine.seats) dir name moment ino pick facts.held.tree place.number
      (acted machine.tree (counts machine.seats) (Delink dir name moment) pick facts.held facts.acts) in
      by_seats _ _ facts refl (λ other s e sat. record {
        cwd = λ there. (kind s.cwd (λ is. absurd (leaf_apart machine.tree.nodes ino s.cwd leaf there is))).directory there;
        files = λ pl file has. kind file.ino (λ is. subst (λ q. 0 < counts machine.seats q) is (counted_open machine.tree.nodes machine.seats other s pl file e sat has));
      })
  kept _ _ (made path mode dir name h) facts = made_kept _ _ dir name (masked mode seat) pick refl facts facts.acts
  kept _ _ (removed path dir name ino stat h f d n b u) facts =
      let place = place_ok machine.tree.nodes seat.cred seat.cwd path dir name (Some ino) facts.good.no_zero h in
      let kind = remove_dir_kinds machine.tree (counts machine.seats) dir name moment ino pick facts.held.tree place.number
      (acted machine.tree (counts machine.seats) (RemoveDir dir name moment) pick facts.held facts.acts) in
      let alone = (or_none (ino == 2) (nat_lt 0 (counts machine.seats ino)) (list_any (λ (s : Seat). s.cwd == ino) machine.seats) b).1 in
      let unheld : counts machine.seats ino ≡ 0 = unopened machine.seats ino b in
      by_seats _ _ facts refl (λ other s e sat. record {
        cwd = λ there. (kind s.cwd (no_cwd machine.seats ino other s alone e)).directory there;
        files = λ pl file has. kind file.ino (λ is.
            let some : 0 < counts machine.seats ino = subst (λ q. 0 < counts machine.seats q) is (counted_open machine.tree.nodes machine.seats other s pl file e sat has) in
            absurd (omega (arith, some, unheld)));
      })
  kept _ _ (entered path stat h d) facts = without_names _ _ facts tt
  kept _ _ (mode_set path mode stat h) facts = without_names _ _ facts (stored_low mode seat.cred)
  kept _ _ (owner_set path uid gid stat h) facts = without_names _ _ facts tt
  kept _ _ (times_set path atime mtime stat h) facts = without_names _ _ facts tt
  kept _ _ (masked_off mask) facts = without_names _ _ facts tt
  kept _ _ (left h) facts = without_names _ _ facts tt
  kept _ _ (left_open ino inos h) facts = released _ _ (ino ∷ inos) facts refl

-- ---- any step

sound_after : OperationKept → (tree : Tree) (opens : Counts) (done : Option FsOp) (pick : Option ℕ) (held : TreeAndOpens) → IsSound tree
    → ((op : FsOp) → done ≡ Some op → Fits tree opens op pick) → effect_of tree opens done pick ≡ Ok held → IsSound held.tree
sound_after keeps tree opens None pick held sound fits h = subst IsSound (ap (λ (x : TreeAndOpens). x.tree) (same_ok (record { tree = tree; opens = opens }) held h)) sound
sound_after keeps tree opens (Some done) pick held sound fits h = keeps tree opens done pick held.tree sound (fits done refl) (acted tree opens done pick held h)

served_kept : OperationKept → (machine : Machine) (caller : ℕ) (asked : Call) (moment : ℕ) (pick : Option ℕ) (reply : Reply) (next : Machine) → IsValid machine → IsCall asked → IfSome pick (IsFreeNumber machine.tree)
    → serve machine caller asked moment pick ≡ Ok (reply, next) → IsValid next
served_kept keeps machine caller asked moment pick reply next valid good picked h =
    let by = served machine caller asked moment pick reply next h in
    let out = outcome machine caller asked moment pick by.planned by.plans in
    let sound = sound_after keeps machine.tree (counts machine.seats) by.planned.op pick by.held (valid caller).tree
    (λ op is. operations_fit machine caller asked moment pick by.planned op (valid caller) good by.plans is picked) by.acts in
    kept machine caller moment pick reply next out.0 valid out.1 picked asked by.planned out.2
    (record { serves = h; plans = by.plans; held = by.held; acts = by.acts; tree = by.tree; sound = subst IsSound (sym by.tree) sound; good = good })

free_pick : (machine : Machine) (caller : ℕ) (asked : Call) (moment : ℕ) (pick : Option ℕ) → IsLawful machine caller asked moment pick → IfSome pick (IsFreeNumber machine.tree)
free_pick machine caller asked moment None h = tt
free_pick machine caller asked moment (Some ino) h = h.0

pub valid_kept : ValidKept
valid_kept machine caller asked moment pick valid good lawful =
    elim (serve machine caller asked moment pick) as (λ (r : Answer (Reply × Machine)). serve machine caller asked moment pick ≡ r → IsValid (or_refused machine r).1) [
      | Ok s ↦ λ is. served_kept operation_kept machine caller asked moment pick s.0 s.1 valid good (free_pick machine caller asked moment pick lawful) is
      | Err e ↦ λ is. valid
    ] refl
