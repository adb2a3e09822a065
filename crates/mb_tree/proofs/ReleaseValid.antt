-- A call that releases open files keeps a machine valid: an inode that is dropped has no open file left, and no
-- directory is dropped.
use Rattle.std.proofs.Common.{◌≡◌, inl, inr, ℕ, ◌<◌, Bool, true, false, cond, not, ◌&&◌, if◌then◌else◌, List, Option, Some, None, Ok, nat_eq, refl, sym, ap, subst, ◌∙◌, arith}
use Rattle.std.proofs.lemmas.Bool.Decides.{nat_tests}
use Rattle.std.specs.Prelude.{slice_get}
use Rattle.std.specs.List.{list_any}
use Rattle.std.specs.FinMap as fin
use Rattle.std.specs.FinMap.{get-retain_keys, nat_cmp-IsAntisymmetric}
use Rattle.mb_tree.specs.Maps.{Numbered}
use Rattle.mb_tree.specs.Sessions.{Counts, counts, held_by}
use Rattle.mb_tree.specs.Effect.{TreeAndOpens, is_lost, release, less_open}
use Rattle.mb_tree.specs.Step.{effect_of}
use Rattle.mb_tree.specs.Trees.{IsDirectoryAt, IsSound}
use Rattle.mb_tree.specs.Machines.{IsSeated}
use Rattle.mb_tree.specs.SessionLaws.{KeepsUsed, ReleaseValid}
use Rattle.mb_tree.specs.declared.nodes.Node.{Node}
use Rattle.mb_tree.specs.declared.operations.FsOp.{FsOp}
use Rattle.mb_tree.specs.declared.operations.FsOp.TheVariants as op
use Rattle.mb_tree.specs.declared.plans.CallPlan.{CallPlan}
use Rattle.mb_tree.specs.declared.seats.PlainFile.{PlainFile}
use Rattle.mb_tree.specs.declared.seats.Seat.{Seat}
use Rattle.mb_tree.specs.declared.trees.Tree.{Tree}
use Rattle.mb_tree.proofs.Always.{same_ok}
use Rattle.mb_tree.proofs.Dropped.{release_kept, released}
use Rattle.mb_tree.proofs.SlotsAndLinks.{no_directory}
use Rattle.mb_tree.proofs.Served.{served}
use Rattle.mb_tree.proofs.Sums.{sum_term}
use Rattle.mb_tree.proofs.InodeKinds.{kind_by_get}
use Rattle.mb_tree.proofs.Fitting.{IsCreated, session_fits}
use Rattle.mb_tree.proofs.Outcomes.{outcome}
use Rattle.mb_tree.proofs.CountsFollow.{held_opens, seat_least, counts_follow}
use Rattle.mb_tree.proofs.BytesOrAttributesValid.{acted}
use Rattle.mb_tree.proofs.ValidStays.{seats_are, seated_before, valid_stays}

and_no : (a : Bool) → (a && false) ≡ false
and_no true = refl
and_no false = refl

-- what has an open file is not lost
pub open_stays : (opens : Counts) (ino : ℕ) (o : Option Node) → 0 < opens ino → is_lost opens ino o ≡ false
open_stays opens ino None some = refl
open_stays opens ino (Some node) some = let t : nat_eq (opens ino) 0 ≡ false = grind (arith, nat_tests) in ap (λ b. nat_eq node.nlink 0 && b) t ∙ and_no (nat_eq node.nlink 0)

kept_open : (nodes : Numbered Node) (opens : Counts) (inos : List ℕ) (ino : ℕ) → 0 < opens ino → fin.get (less_open nodes opens inos) ino ≡ fin.get nodes ino
kept_open nodes opens inos ino some =
    let p : ℕ → Bool = λ q. not (list_any (nat_eq q) inos && is_lost opens q (fin.get nodes q)) in
    get-retain_keys nodes p ino (λ x t. ap p (sym (nat_cmp-IsAntisymmetric ino x t)))
    ∙ ap (λ b. cond (not (list_any (nat_eq ino) inos && b)) (fin.get nodes ino) None) (open_stays opens ino (fin.get nodes ino) some)
    ∙ ap (λ b. cond (not b) (fin.get nodes ino) None) (and_no (list_any (nat_eq ino) inos))

kept_directory : (tree : Tree) → IsSound tree → (opens : Counts) (inos : List ℕ) (ino : ℕ) → IsDirectoryAt tree.nodes ino → IsDirectoryAt (less_open tree.nodes opens inos) ino
kept_directory tree sound opens inos ino d = elim (released tree sound opens inos ino) [
  | inl is ↦ record { node = d.node; slots = d.slots; has = is ∙ d.has; body = d.body }
  | inr gone ↦ absurd (no_directory tree sound ino d.node d.slots gone.1 d.has d.body)
]

-- a session's open file counts
pub counted_open : (nodes : Numbered Node) (seats : List Seat) (caller : ℕ) (seat : Seat) (place : ℕ) (file : PlainFile) → slice_get seats caller ≡ Some seat → IsSeated nodes seat
    → fin.get seat.files place ≡ Some file → 0 < counts seats file.ino
counted_open nodes seats caller seat place file at valid h =
    let term = sum_term (λ p. held_by file.ino (fin.get seat.files p)) place 17 (valid.files place file h).within in
    let here : held_by file.ino (fin.get seat.files place) ≡ held_by file.ino (Some file) = ap (held_by file.ino) h in
    let self : nat_eq file.ino file.ino ≡ true = grind (arith, nat_tests) in
    let one : held_by file.ino (Some file) ≡ 1 = ap (λ b. if◌then◌else◌ {A = ℕ} b 1 0) self in
    omega (arith, term, here, one, seat_least seats caller seat file.ino at)

no_create : {inos : List ℕ} {dir : ℕ} {name : List ℕ} {mode uid gid moment : ℕ} → ◌≡◌ {A = Option FsOp} (Some (op.Release inos)) (Some (op.Create dir name mode uid gid moment)) → ⊥
no_create h = cc

-- the counts that a release leaves
held_release : (tree : Tree) (opens : Counts) (inos : List ℕ) (pick : Option ℕ) (held : TreeAndOpens) → effect_of tree opens (Some (op.Release inos)) pick ≡ Ok held → held.opens ≡ release opens inos
held_release tree opens inos pick held h = sym (held_opens tree opens (Some (op.Release inos)) pick held h)

not_created : (inos : List ℕ) (seat : Seat) (pick : Option ℕ) (planned : CallPlan) → planned.op ≡ Some (op.Release inos) → IsCreated seat pick planned → ⊥
not_created inos seat pick planned h m = no_create (sym h ∙ m.op)

pub release_valid : ReleaseValid
release_valid machine caller asked moment pick reply next planned inos valid h plans is =
    let by = served machine caller asked moment pick reply next h in
    let same_plan : planned ≡ by.planned = same_ok planned by.planned (sym plans ∙ by.plans) in
    let releases : by.planned.op ≡ Some (op.Release inos) = ap (λ (p : CallPlan). p.op) (sym same_plan) ∙ is in
    let sound = (valid caller).tree in
    let acts = ap (λ o. effect_of machine.tree (counts machine.seats) o pick) (sym releases) ∙ by.acts in
    let tree_is = same_ok {A = Tree} (record machine.tree { nodes = less_open machine.tree.nodes (release (counts machine.seats) inos) inos }) by.held.tree (acted machine.tree (counts machine.seats) (op.Release inos) pick by.held acts) in
    let follow = counts_follow machine caller asked moment pick by.planned by.held (valid caller) by.plans by.acts in
    let opens_are : by.held.opens ≡ release (counts machine.seats) inos = held_release machine.tree (counts machine.seats) inos pick by.held acts in
    let seats_after = by.seats ∙ seats_are machine caller asked moment pick by.planned valid by.plans in
    let out = outcome machine caller asked moment pick by.planned by.plans in
    let fits = session_fits machine.tree sound machine.seats out.0 moment pick ((valid caller).seat out.0 out.1) asked by.planned out.2 in
    let before : (other : ℕ) (s : Seat) → slice_get next.seats other ≡ Some s → IsSeated machine.tree.nodes s = λ other s at. elim fits [
      | inl f ↦ seated_before machine caller asked moment pick by.planned valid by.plans f other s (sym (ap (λ l. slice_get l other) seats_after) ∙ at)
      | inr m ↦ absurd (not_created inos out.0 pick by.planned releases m)
    ] in
    let nodes_are : less_open machine.tree.nodes (release (counts machine.seats) inos) inos ≡ next.tree.nodes = ap (λ (t : Tree). t.nodes) (tree_is ∙ sym by.tree) in
    valid_stays machine caller asked moment pick reply next valid h
    (subst IsSound (tree_is ∙ sym by.tree) (release_kept machine.tree (counts machine.seats) inos sound))
    (λ other s at. subst (λ (n : Numbered Node). KeepsUsed machine.tree.nodes n s) nodes_are (record {
      cwd = kept_directory machine.tree sound (release (counts machine.seats) inos) inos s.cwd;
      files = λ place file has.
          let some : 0 < release (counts machine.seats) inos file.ino = subst (λ (c : Counts). 0 < c file.ino) (ap counts by.seats ∙ follow ∙ opens_are) (counted_open machine.tree.nodes next.seats other s place file at (before other s at) has) in
          kind_by_get _ _ file.ino (kept_open machine.tree.nodes (release (counts machine.seats) inos) inos file.ino some);
    }))
