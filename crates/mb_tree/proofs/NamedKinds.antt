-- Which inodes keep their kinds where names are entered, emptied and removed.
use Rattle.std.proofs.Common.{◌≡◌, ◌≢◌, inl, inr, ℕ, ◌<◌, true, false, if◌then◌else◌, List, Option, Some, None, Ok, option_map, nat_le, nat_lt, refl, sym, ap, subst, ◌∙◌}
use Rattle.std.proofs.lemmas.Option.{none-some}
use Rattle.std.specs.Prelude.{bit_or}
use Rattle.std.specs.FinMap as fin
use Rattle.mb_kinds.specs.declared.errors.Errno.TheVariants.{ENOSPC, EMLINK}
use Rattle.mb_tree.specs.Answers.{need}
use Rattle.mb_tree.specs.Maps.{Numbered, changed_at}
use Rattle.mb_tree.specs.Cost.{cost}
use Rattle.mb_tree.specs.Lookup.{number_in}
use Rattle.mb_tree.specs.Sessions.{Counts}
use Rattle.mb_tree.specs.Effect.{on_slots, entered, emptied, with_name, without_name, with_link, without_link, linked, unlinked, made, first_slots, nlink_in, fitting, is_lost, less_name, remove_dir, delink, tree_after}
use Rattle.mb_tree.specs.SessionLaws.{KeepsKind}
use Rattle.mb_tree.specs.declared.nodes.Node.{Node}
use Rattle.mb_tree.specs.declared.nodes.PlainSlot.{PlainSlot}
use Rattle.mb_tree.specs.declared.nodes.Body.{Body}
use Rattle.mb_tree.specs.declared.nodes.Body.TheVariants.{Regular, Directory, Special}
use Rattle.mb_tree.specs.declared.operations.FsOp.TheVariants as op
use Rattle.mb_tree.specs.declared.trees.Tree.{Tree}
use Rattle.mb_tree.proofs.FiniteMaps.{get_there, gone_there, one_or_not}
use Rattle.mb_tree.proofs.Always.{then_ok, same_ok}
use Rattle.mb_tree.proofs.InodeKinds.{SameKind, same_body, kind_by_get, kind_after, kind_changed}
use Rattle.mb_tree.proofs.BytesOrAttributesValid.{KeepsKinds}
use Rattle.mb_tree.proofs.ReleaseValid.{open_stays}

same_slots : (f : List PlainSlot → List PlainSlot) (body : Body) → SameKind body (on_slots f body)
same_slots f (Regular size parts) = same_body (Regular size parts) (Regular size parts) refl
same_slots f (Directory slots) = record { directory = λ old b. (f slots, refl); regular = λ s p b. cc }
same_slots f (Special size area) = same_body (Special size area) (Special size area) refl

-- a number that was free has no kind to keep
kind_new : (old new : Numbered Node) (ino : ℕ) → fin.get old ino ≡ None → KeepsKind old new ino
kind_new old new ino free = record { directory = λ d. absurd (none-some d.node (sym free ∙ d.has)); regular = λ r. absurd (none-some r.node (sym free ∙ r.has)) }

kind_put : (old mid : Numbered Node) (ino : ℕ) (node : Node) → fin.get old ino ≡ None → ((q : ℕ) → KeepsKind old mid q) → (q : ℕ) → KeepsKind old (fin.insert mid ino node) q
kind_put old mid ino node free each q = elim (one_or_not q ino) [
  | inl is ↦ kind_new old (fin.insert mid ino node) q (ap (fin.get old) is ∙ free)
  | inr apart ↦ kind_after old mid (fin.insert mid ino node) q (each q) (kind_by_get mid (fin.insert mid ino node) q (get_there mid ino node q apart))
]

-- what fits is the tree with those nodes
fitted : (tree : Tree) (nodes : Numbered Node) (next : Tree) → fitting tree nodes ≡ Ok next → ◌≡◌ {A = Tree} (record tree { nodes = nodes }) next
fitted tree nodes next h = same_ok _ next (then_ok (need (nat_le (cost (record tree { nodes = nodes })) tree.cap) ENOSPC) (Ok (record tree { nodes = nodes })) next h).2

pub create_kinds : (tree : Tree) (opens : Counts) (dir : ℕ) (name : List ℕ) (mode uid gid moment ino : ℕ) (next : Tree) → fin.get tree.nodes ino ≡ None
    → tree_after tree opens (op.Create dir name mode uid gid moment) (Some ino) ≡ Ok next → KeepsKinds tree next
create_kinds tree opens dir name mode uid gid moment ino next free h =
    let mid : Numbered Node = changed_at tree.nodes dir (with_name moment name ino) in
    let node : Node = made (bit_or 0x8000 mode) 1 uid gid moment (Regular 0 fin.empty) in
    subst (KeepsKinds tree) (fitted tree (fin.insert mid ino node) next h)
    (kind_put tree.nodes mid ino node free (kind_changed tree.nodes dir (with_name moment name ino) (λ n. same_slots (entered name ino) n.body)))

pub make_dir_kinds : (tree : Tree) (opens : Counts) (dir : ℕ) (name : List ℕ) (mode uid gid moment ino : ℕ) (next : Tree) → fin.get tree.nodes ino ≡ None
    → tree_after tree opens (op.MakeDir dir name mode uid gid moment) (Some ino) ≡ Ok next → KeepsKinds tree next
make_dir_kinds tree opens dir name mode uid gid moment ino next free h =
    let mid : Numbered Node = changed_at tree.nodes dir (with_link moment name ino) in
    let node : Node = made (bit_or 0x4000 mode) 2 uid gid moment (Directory (first_slots ino dir)) in
    let room = then_ok (need (nat_lt (nlink_in tree.nodes dir) 32767) EMLINK) (fitting tree (fin.insert mid ino node)) next h in
    subst (KeepsKinds tree) (fitted tree (fin.insert mid ino node) next room.2)
    (kind_put tree.nodes mid ino node free (kind_changed tree.nodes dir (with_link moment name ino) (λ n. same_slots (entered name ino) n.body)))

pub enlink_kinds : (tree : Tree) (opens : Counts) (dir : ℕ) (name : List ℕ) (ino moment : ℕ) (pick : Option ℕ) (next : Tree)
    → tree_after tree opens (op.Enlink dir name ino moment) pick ≡ Ok next → KeepsKinds tree next
enlink_kinds tree opens dir name ino moment pick next h =
    let mid : Numbered Node = changed_at tree.nodes ino (linked moment) in
    let room = then_ok (need (nat_lt (nlink_in tree.nodes ino) 32767) EMLINK) (fitting tree (changed_at mid dir (with_name moment name ino))) next h in
    subst (KeepsKinds tree) (fitted tree (changed_at mid dir (with_name moment name ino)) next room.2)
    (λ q. kind_after tree.nodes mid (changed_at mid dir (with_name moment name ino)) q
    (kind_changed tree.nodes ino (linked moment) (λ n. same_body n.body n.body refl) q)
    (kind_changed mid dir (with_name moment name ino) (λ n. same_slots (entered name ino) n.body) q))

-- all but the directory that is removed
pub remove_dir_kinds : (tree : Tree) (opens : Counts) (dir : ℕ) (name : List ℕ) (moment ino : ℕ) (pick : Option ℕ) (next : Tree) → number_in tree.nodes dir name ≡ Some ino
    → tree_after tree opens (op.RemoveDir dir name moment) pick ≡ Ok next → (q : ℕ) → q ≢ ino → KeepsKind tree.nodes next.nodes q
remove_dir_kinds tree opens dir name moment ino pick next leads h q apart =
    let mid : Numbered Node = fin.remove tree.nodes ino in
    let is : remove_dir tree dir name moment (Some ino) ≡ next = ap (remove_dir tree dir name moment) (sym leads) ∙ same_ok _ next h in
    subst (λ (t : Tree). KeepsKind tree.nodes t.nodes q) is
    (kind_after tree.nodes mid (changed_at mid dir (without_link moment name)) q (kind_by_get tree.nodes mid q (gone_there tree.nodes ino q apart))
    (kind_changed mid dir (without_link moment name) (λ n. same_slots (emptied name) n.body) q))

-- all but an inode that lost its last name, and that one too where it is open
less_name_kind : (nodes : Numbered Node) (opens : Counts) (moment ino q : ℕ) → (q ≡ ino → 0 < opens ino) → KeepsKind nodes (less_name nodes opens moment ino) q
less_name_kind nodes opens moment ino q held = elim (one_or_not q ino) [
  | inl is ↦
      let stays : less_name nodes opens moment ino ≡ changed_at nodes ino (unlinked moment) =
      ap (λ b. if b then fin.remove nodes ino else changed_at nodes ino (unlinked moment)) (open_stays opens ino (option_map (unlinked moment) (fin.get nodes ino)) (held is)) in
      subst (λ (m : Numbered Node). KeepsKind nodes m q) (sym stays) (kind_changed nodes ino (unlinked moment) (λ n. same_body n.body n.body refl) q)
  | inr apart ↦ elim (is_lost opens ino (option_map (unlinked moment) (fin.get nodes ino))) as (λ b. KeepsKind nodes (if b then fin.remove nodes ino else changed_at nodes ino (unlinked moment)) q) [
    | true ↦ kind_by_get nodes (fin.remove nodes ino) q (gone_there nodes ino q apart)
    | false ↦ kind_changed nodes ino (unlinked moment) (λ n. same_body n.body n.body refl) q
  ]
]

pub delink_kinds : (tree : Tree) (opens : Counts) (dir : ℕ) (name : List ℕ) (moment ino : ℕ) (pick : Option ℕ) (next : Tree) → number_in tree.nodes dir name ≡ Some ino
    → tree_after tree opens (op.Delink dir name moment) pick ≡ Ok next → (q : ℕ) → (q ≡ ino → 0 < opens ino) → KeepsKind tree.nodes next.nodes q
delink_kinds tree opens dir name moment ino pick next leads h q held =
    let mid : Numbered Node = changed_at tree.nodes dir (without_name moment name) in
    let is : delink tree opens dir name moment (Some ino) ≡ next = ap (delink tree opens dir name moment) (sym leads) ∙ same_ok _ next h in
    subst (λ (t : Tree). KeepsKind tree.nodes t.nodes q) is
    (kind_after tree.nodes mid (less_name mid opens moment ino) q (kind_changed tree.nodes dir (without_name moment name) (λ n. same_slots (emptied name) n.body) q) (less_name_kind mid opens moment ino q held))
