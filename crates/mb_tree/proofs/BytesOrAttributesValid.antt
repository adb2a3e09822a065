-- A call whose operation touches bytes or attributes alone keeps a machine valid.
use Rattle.std.proofs.Common.{◌≡◌, ℕ, ◌+◌, List, length, Option, Some, None, Ok, nat_le, refl, sym, ap, subst, ◌∙◌}
use Rattle.mb_kinds.specs.declared.errors.Errno.TheVariants.{ENOSPC, EFBIG}
use Rattle.mb_tree.specs.Answers.{need}
use Rattle.mb_tree.specs.Maps.{Numbered, changed_at}
use Rattle.mb_tree.specs.Cost.{cost}
use Rattle.mb_tree.specs.Sessions.{Counts, counts}
use Rattle.mb_tree.specs.Effect.{TreeAndOpens, cleared, written, blanked, wrote, with_mode, with_owner, with_times, fitting, tree_after, opens_after}
use Rattle.mb_tree.specs.Step.{effect_of}
use Rattle.mb_tree.specs.Trees.{IsSound}
use Rattle.mb_tree.specs.Laws.{IsOnBytesOrAttributes}
use Rattle.mb_tree.specs.SessionLaws.{KeepsKind, KeepsUsed, IsAtMostOnBytesOrAttributes, BytesOrAttributesValid}
use Rattle.mb_tree.specs.declared.nodes.Node.{Node}
use Rattle.mb_tree.specs.declared.nodes.Body.{Body}
use Rattle.mb_tree.specs.declared.nodes.Body.TheVariants.{Regular, Directory, Special}
use Rattle.mb_tree.specs.declared.operations.FsOp.{FsOp}
use Rattle.mb_tree.specs.declared.operations.FsOp.TheVariants.{Empty, Put, SetMode, SetOwner, SetTimes, Hold}
use Rattle.mb_tree.specs.declared.plans.CallPlan.{CallPlan}
use Rattle.mb_tree.specs.declared.seats.Seat.{Seat}
use Rattle.mb_tree.specs.declared.trees.Tree.{Tree}
use Rattle.mb_tree.proofs.Always.{bind_ok, then_ok, same_ok}
use Rattle.mb_tree.proofs.BytesOrAttributes.{bytes_or_attributes_kept}
use Rattle.mb_tree.proofs.Served.{served}
use Rattle.mb_tree.proofs.InodeKinds.{SameKind, same_body, kind_by_get, kind_changed}
use Rattle.mb_tree.proofs.ValidStays.{valid_stays}

same_cleared : (body : Body) → SameKind body (cleared body)
same_cleared (Regular size parts) = record { directory = λ slots b. cc; regular = λ s p b. (0, _, refl) }
same_cleared (Directory slots) = same_body (Directory slots) (Directory slots) refl
same_cleared (Special size area) = same_body (Special size area) (Special size area) refl

same_written : (offset : ℕ) (bytes : List ℕ) (body : Body) → SameKind body (written offset bytes body)
same_written offset bytes (Regular size parts) = record { directory = λ slots b. cc; regular = λ s p b. (_, _, refl) }
same_written offset bytes (Directory slots) = same_body (Directory slots) (Directory slots) refl
same_written offset bytes (Special size area) = same_body (Special size area) (Special size area) refl

abbrev pub KeepsKinds : Tree → Tree → Type 0
KeepsKinds old new = (ino : ℕ) → KeepsKind old.nodes new.nodes ino

on_one : (tree next : Tree) (ino : ℕ) (f : Node → Node) → ((node : Node) → SameKind node.body (f node).body) → ◌≡◌ {A = Tree} (record tree { nodes = changed_at tree.nodes ino f }) next → KeepsKinds tree next
on_one tree next ino f same e = subst (KeepsKinds tree) e (kind_changed tree.nodes ino f same)

pub kinds_stay : (tree : Tree) (opens : Counts) (done : FsOp) (pick : Option ℕ) (next : Tree) → IsOnBytesOrAttributes done → tree_after tree opens done pick ≡ Ok next → KeepsKinds tree next
kinds_stay tree opens (Empty ino moment) pick next only h = on_one tree next ino (blanked moment) (λ node. same_cleared node.body) (same_ok _ next h)
kinds_stay tree opens (Put ino offset bytes moment) pick next only h =
    let nodes : Numbered Node = changed_at tree.nodes ino (wrote moment offset bytes) in
    let one = then_ok (need (nat_le (offset + length bytes) 1082201088) EFBIG) (fitting tree nodes) next h in
    let two = then_ok (need (nat_le (cost (record tree { nodes = nodes })) tree.cap) ENOSPC) (Ok (record tree { nodes = nodes })) next one.2 in
    on_one tree next ino (wrote moment offset bytes) (λ node. same_written offset bytes node.body) (same_ok _ next two.2)
kinds_stay tree opens (SetMode ino mode moment) pick next only h = on_one tree next ino (with_mode mode moment) (λ node. same_body node.body node.body refl) (same_ok _ next h)
kinds_stay tree opens (SetOwner ino uid gid moment) pick next only h = on_one tree next ino (with_owner uid gid moment) (λ node. same_body node.body node.body refl) (same_ok _ next h)
kinds_stay tree opens (SetTimes ino atime mtime moment) pick next only h = on_one tree next ino (with_times atime mtime moment) (λ node. same_body node.body node.body refl) (same_ok _ next h)
kinds_stay tree opens (Hold ino) pick next only h = subst (KeepsKinds tree) (same_ok tree next h) (λ q. kind_by_get tree.nodes tree.nodes q refl)
kinds_stay tree opens _ pick next only h = absurd only

-- the tree that an operation leaves
pub acted : (tree : Tree) (opens : Counts) (done : FsOp) (pick : Option ℕ) (held : TreeAndOpens) → effect_of tree opens (Some done) pick ≡ Ok held → tree_after tree opens done pick ≡ Ok held.tree
acted tree opens done pick held h =
    let one = bind_ok (tree_after tree opens done pick) _ held h in
    one.1 ∙ ap Ok (ap (λ (x : TreeAndOpens). x.tree) (same_ok (record { tree = one.0; opens = opens_after opens done pick }) held one.2))

effect_stays : (tree : Tree) (opens : Counts) (done : Option FsOp) (pick : Option ℕ) (held : TreeAndOpens) → IsSound tree → IsAtMostOnBytesOrAttributes done → effect_of tree opens done pick ≡ Ok held → IsSound held.tree × KeepsKinds tree held.tree
effect_stays tree opens None pick held sound only h =
    let is : tree ≡ held.tree = ap (λ (x : TreeAndOpens). x.tree) (same_ok (record { tree = tree; opens = opens }) held h) in
    subst (λ (t : Tree). IsSound t × KeepsKinds tree t) is (sound, λ q. kind_by_get tree.nodes tree.nodes q refl)
effect_stays tree opens (Some done) pick held sound only h =
    let after = acted tree opens done pick held h in
    (bytes_or_attributes_kept tree opens done pick held.tree sound only after, kinds_stay tree opens done pick held.tree only after)

pub keeps_all : (old new : Numbered Node) (seat : Seat) → ((ino : ℕ) → KeepsKind old new ino) → KeepsUsed old new seat
keeps_all old new seat each = record { cwd = (each seat.cwd).directory; files = λ place file h. each file.ino }

pub bytes_or_attributes_valid : BytesOrAttributesValid
bytes_or_attributes_valid machine caller asked moment pick reply next planned valid h plans only =
    let by = served machine caller asked moment pick reply next h in
    let is : planned ≡ by.planned = same_ok planned by.planned (sym plans ∙ by.plans) in
    let both = effect_stays machine.tree (counts machine.seats) by.planned.op pick by.held (valid caller).tree (subst (λ (p : CallPlan). IsAtMostOnBytesOrAttributes p.op) is only) by.acts in
    valid_stays machine caller asked moment pick reply next valid h (subst IsSound (sym by.tree) both.0)
    (λ other seat at. keeps_all machine.tree.nodes next.tree.nodes seat (subst (KeepsKinds machine.tree) (sym by.tree) both.1))
