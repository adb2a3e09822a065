-- What keeps a machine valid: a sound tree that keeps what the sessions use.
use Rattle.std.proofs.Common.{◌≡◌, inl, inr, ℕ, not, List, Option, Some, None, Ok, option_map, unwrap_or, refl, sym, ap, subst, ◌∙◌}
use Rattle.std.specs.Prelude.{slice_get, slice_set, bit_or, nat_le}
use Rattle.std.specs.FinMap as fin
use Rattle.mb_kinds.specs.declared.calls.Call.{Call}
use Rattle.mb_kinds.specs.declared.calls.How.TheVariants.{Writing}
use Rattle.mb_kinds.specs.declared.errors.Errno.TheVariants.{ENOSPC}
use Rattle.mb_tree.specs.Answers.{need}
use Rattle.mb_tree.specs.Maps.{Numbered, changed_at}
use Rattle.mb_tree.specs.Cost.{cost}
use Rattle.mb_tree.specs.Sessions.{Counts, counts, changed, with_change, opened, free_descriptor}
use Rattle.mb_tree.specs.Effect.{TreeAndOpens, effect, made, with_name, tree_after, opens_after}
use Rattle.mb_tree.specs.Rows.{plan}
use Rattle.mb_tree.specs.Step.{effect_of}
use Rattle.mb_tree.specs.Trees.{IsRegularAt}
use Rattle.mb_tree.specs.Machines.{IsSeated, IsValid, FitsSession}
use Rattle.mb_tree.specs.SessionLaws.{KeepsUsed, ValidStays}
use Rattle.mb_tree.specs.declared.machines.Machine.{Machine}
use Rattle.mb_tree.specs.declared.nodes.Node.{Node}
use Rattle.mb_tree.specs.declared.nodes.Body.TheVariants.{Regular}
use Rattle.mb_tree.specs.declared.operations.FsOp.TheVariants as op
use Rattle.mb_tree.specs.declared.plans.CallPlan.{CallPlan}
use Rattle.mb_tree.specs.declared.seats.PlainFile.{PlainFile}
use Rattle.mb_tree.specs.declared.seats.Seat.{Seat}
use Rattle.mb_tree.specs.declared.seats.SessionChange.{SessionChange}
use Rattle.mb_tree.specs.declared.seats.SessionChange.TheVariants.{Fresh}
use Rattle.mb_tree.specs.declared.trees.Tree.{Tree}
use Rattle.mb_tree.proofs.FiniteMaps.{get_here, get_there}
use Rattle.mb_tree.proofs.Always.{bind_ok, then_ok, same_ok}
use Rattle.mb_tree.proofs.Seated.{session_kept, passes, none_of, apart_some}
use Rattle.mb_tree.proofs.FreePlaces.{place_for}
use Rattle.mb_tree.proofs.Served.{served}
use Rattle.mb_tree.proofs.Outcomes.{Outcome, outcome}
use Rattle.mb_tree.proofs.Fitting.{IsCreated, fits_fresh, session_fits, seated_over, each_seat}

-- a file that was made is there
made_regular : (tree : Tree) (opens : Counts) (dir : ℕ) (name : List ℕ) (mode uid gid moment ino : ℕ) (held : TreeAndOpens)
    → effect tree opens (op.Create dir name mode uid gid moment) (Some ino) ≡ Ok held → IsRegularAt held.tree.nodes ino
made_regular tree opens dir name mode uid gid moment ino held h =
    let node : Node = made (bit_or 0x8000 mode) 1 uid gid moment (Regular 0 fin.empty) in
    let nodes : Numbered Node = fin.insert (changed_at tree.nodes dir (with_name moment name ino)) ino node in
    let one = bind_ok (tree_after tree opens (op.Create dir name mode uid gid moment) (Some ino)) _ held h in
    let two = then_ok (need (nat_le (cost (record tree { nodes = nodes })) tree.cap) ENOSPC) (Ok (record tree { nodes = nodes })) one.0 one.1 in
    let is : ◌≡◌ {A = Tree} (record tree { nodes = nodes }) one.0 = same_ok _ one.0 two.2 in
    let at : one.0 ≡ held.tree = ap (λ (x : TreeAndOpens). x.tree) (same_ok (record { tree = one.0; opens = opens_after opens (op.Create dir name mode uid gid moment) (Some ino) }) held one.2) in
    subst (λ (t : Tree). IsRegularAt t.nodes ino) (is ∙ at) (record { node = node; size = 0; parts = fin.empty; has = get_here _ ino node; body = refl })

-- what is used before a file is opened is used after it
used_before : (old new : Numbered Node) (seat : Seat) (fd place : ℕ) (file : PlainFile) → fin.get seat.files place ≡ None → KeepsUsed old new (opened seat fd file (Some place)) → KeepsUsed old new seat
used_before old new seat fd place file free keeps = record {
  cwd = keeps.cwd;
  files = λ pl f h. keeps.files pl f (get_there seat.files place file pl (λ is. apart_some (fin.get seat.files place) f free (ap (fin.get seat.files) (sym is) ∙ h)) ∙ h);
}

module _ (machine : Machine) (caller : ℕ) (asked : Call) (moment : ℕ) (pick : Option ℕ) (planned : CallPlan) (valid : IsValid machine) (h : plan machine caller asked moment pick ≡ Ok planned) where
  abbrev out : (seat : Seat) × (slice_get machine.seats caller ≡ Some seat) × Outcome machine.tree.nodes machine.seats seat moment pick asked planned
  out = outcome machine caller asked moment pick planned h

  abbrev sat : IsSeated machine.tree.nodes out.0
  sat = (valid caller).seat out.0 out.1

  abbrev seats_after : List Seat
  seats_after = slice_set machine.seats caller (changed out.0 planned.session)

  pub seats_are : with_change machine.seats caller planned.session ≡ seats_after
  seats_are = ap (λ o. unwrap_or (option_map (λ seat. slice_set machine.seats caller (changed seat planned.session)) o) machine.seats) out.1

  -- on the tree as it was
  pub seated_before : FitsSession machine.tree.nodes out.0 planned.session → (other : ℕ) (s : Seat) → slice_get seats_after other ≡ Some s → IsSeated machine.tree.nodes s
  seated_before fits = each_seat (IsSeated machine.tree.nodes) machine.seats caller out.0 (changed out.0 planned.session) out.1
      (session_kept machine.tree.nodes out.0 planned.session sat fits) (λ other s apart e. (valid other).seat s e)

  module _ (nodes : Numbered Node) (keeps : (other : ℕ) (s : Seat) → slice_get seats_after other ≡ Some s → KeepsUsed machine.tree.nodes nodes s) where
    created_seat : (change : SessionChange) (fd ino : ℕ) → change ≡ Fresh fd ino Writing → free_descriptor out.0 ≡ Some fd → IsRegularAt nodes ino
        → KeepsUsed machine.tree.nodes nodes (changed out.0 change) → IsSeated nodes (changed out.0 change)
    created_seat change fd ino is free regular used =
        let file : PlainFile = record { ino = ino; how = Writing; offset = 0 } in
        let place = place_for machine.tree.nodes out.0 sat fd free in
        let empty_place = none_of _ (passes (λ place. not (fin.contains_key out.0.files place)) 0 17 place.0 place.1) in
        let used_then : KeepsUsed machine.tree.nodes nodes (opened out.0 fd file (Some place.0)) =
        subst (λ (o : Option ℕ). KeepsUsed machine.tree.nodes nodes (opened out.0 fd file o)) place.1 (subst (λ (c : SessionChange). KeepsUsed machine.tree.nodes nodes (changed out.0 c)) is used) in
        let over = seated_over machine.tree.nodes nodes out.0 sat (used_before machine.tree.nodes nodes out.0 fd place.0 file empty_place used_then) in
        subst (λ (c : SessionChange). IsSeated nodes (changed out.0 c)) (sym is)
        (session_kept nodes out.0 (Fresh fd ino Writing) over (fits_fresh machine.tree (valid caller).tree machine.seats out.0 moment pick sat nodes fd ino Writing free (inl regular) (λ w. regular)))

    seated_after : ((made_one : IsCreated out.0 pick planned) → IsRegularAt nodes made_one.ino) → (other : ℕ) (s : Seat) → slice_get seats_after other ≡ Some s → IsSeated nodes s
    seated_after regular = elim (session_fits machine.tree (valid caller).tree machine.seats out.0 moment pick sat asked planned out.2) [
      | inl fits ↦ λ other s e. seated_over machine.tree.nodes nodes s (seated_before fits other s e) (keeps other s e)
      | inr made_one ↦ λ other s e. (each_seat (λ s. KeepsUsed machine.tree.nodes nodes s → IsSeated nodes s) machine.seats caller out.0 (changed out.0 planned.session) out.1
          (created_seat planned.session made_one.fd made_one.ino made_one.session made_one.free (regular made_one))
          (λ other s apart at used. seated_over machine.tree.nodes nodes s ((valid other).seat s at) used) other s e) (keeps other s e)
    ]

made_there : (machine : Machine) (seat : Seat) (pick : Option ℕ) (planned : CallPlan) (held : TreeAndOpens) → effect_of machine.tree (counts machine.seats) planned.op pick ≡ Ok held
    → (made_one : IsCreated seat pick planned) → IsRegularAt held.tree.nodes made_one.ino
made_there machine seat pick planned held e m =
    made_regular machine.tree (counts machine.seats) m.dir m.name m.mode m.uid m.gid m.moment m.ino held
    (sym (λ i. effect_of machine.tree (counts machine.seats) (m.op i) (m.picked i)) ∙ e)

pub valid_stays : ValidStays
valid_stays machine caller asked moment pick reply next valid h sound keeps =
    let by = served machine caller asked moment pick reply next h in
    let seats = by.seats ∙ seats_are machine caller asked moment pick by.planned valid by.plans in
    let out = outcome machine caller asked moment pick by.planned by.plans in
    let regular : (m : IsCreated out.0 pick by.planned) → IsRegularAt next.tree.nodes m.ino = λ m.
    subst (λ (t : Tree). IsRegularAt t.nodes m.ino) (sym by.tree) (made_there machine out.0 pick by.planned by.held by.acts m) in
    λ other. record {
      tree = sound;
      seat = λ s e. seated_after machine caller asked moment pick by.planned valid by.plans next.tree.nodes
          (λ c t at. keeps c t (ap (λ l. slice_get l c) seats ∙ at)) regular other s (sym (ap (λ l. slice_get l other) seats) ∙ e);
    }
