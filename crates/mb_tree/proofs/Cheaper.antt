-- What the step does to the number of blocks that files hold.
use Rattle.std.proofs.Common.{◌≡◌, inl, inr, ℕ, zero, suc, ◌+◌, ◌≤◌, Bool, true, false, cond, if◌then◌else◌, List, length, refl, sym, ap, subst, ◌∙◌, arith, Option, Some, None, Ok, Err, option_map, unwrap_or, nat_le, nat_lt, map}
use Rattle.std.specs.Prelude.{position, slice_set}
use Rattle.std.specs.FinMap as fin
use Rattle.std.specs.FinMap.{get-retain_keys, nat_cmp-IsAntisymmetric}
use Rattle.std.specs.Ordering.{nat_cmp}
use Rattle.std.proofs.lemmas.Bool.Decides.{nat_tests}
use Rattle.std.proofs.lemmas.List.{length-set}
use Rattle.mb_kinds.specs.declared.replies.Reply.{Reply}
use Rattle.mb_kinds.specs.declared.errors.Errno.TheVariants.{ENOSPC, EMLINK, EFBIG}
use Rattle.mb_tree.specs.Answers.{Answer, ◌>>◌, need, some}
use Rattle.mb_tree.specs.Maps.{Numbered, changed_at}
use Rattle.mb_tree.specs.Counting.{sum_below}
use Rattle.mb_tree.specs.Lookup.{is_named, number_in}
use Rattle.mb_tree.specs.Sessions.{Counts, counts}
use Rattle.mb_tree.specs.Cost.{cost, cost_at, body_cost, index_blocks, first_parts, parts_for}
use Rattle.mb_tree.specs.Effect.{TreeAndOpens, unlinked, emptied, on_slots, without_name, without_link, cleared, blanked, with_mode, with_owner, with_times, fitting, is_lost, less_name, remove_dir, delink, tree_after, nlink_in, opens_after}
use Rattle.mb_tree.specs.Step.{effect_of, serve, or_refused}
use Rattle.mb_tree.specs.Laws.{CostKept}
use Rattle.mb_tree.specs.declared.nodes.PlainSlot.{PlainSlot}
use Rattle.mb_tree.specs.declared.nodes.Node.{Node}
use Rattle.mb_tree.specs.declared.nodes.Body.{Body}
use Rattle.mb_tree.specs.declared.nodes.Body.TheVariants.{Regular, Directory, Special}
use Rattle.mb_tree.specs.declared.trees.Tree.{Tree}
use Rattle.mb_tree.specs.declared.machines.Machine.{Machine}
use Rattle.mb_tree.specs.declared.operations.FsOp.{FsOp}
use Rattle.mb_tree.specs.declared.operations.FsOp.TheVariants as op
use Rattle.mb_tree.proofs.FiniteMaps.{get_here, get_there, gone_here, gone_there, one_or_not, entries_none}
use Rattle.mb_tree.proofs.Groups.{no_blocks}
use Rattle.mb_tree.proofs.Always.{Always, always_ok, always_err, always_bind, always_then, same_ok, bind_ok}
use Rattle.mb_tree.proofs.Served.{served}

-- ---- sums

sum_le : (g h : ℕ → ℕ) (n : ℕ) → ((k : ℕ) → h k ≤ g k) → sum_below h n ≤ sum_below g n
unfolding sum_below
sum_le g h zero each = omega arith
sum_le g h (suc n) each = omega (arith, each n, sum_le g h n each)

abbrev pub IsCheaper : Numbered Node → Numbered Node → Type 0
IsCheaper new old = (q : ℕ) → cost_at (fin.get new q) ≤ cost_at (fin.get old q)

pub cheaper_cost : (tree : Tree) (nodes : Numbered Node) → IsCheaper nodes tree.nodes → cost (record tree { nodes = nodes }) ≤ cost tree
cheaper_cost tree nodes h = sum_le (λ ino. cost_at (fin.get tree.nodes ino)) (λ ino. cost_at (fin.get nodes ino)) (tree.last + 1) h

pub cheaper_trans : (a b c : Numbered Node) → IsCheaper a b → IsCheaper b c → IsCheaper a c
cheaper_trans a b c h k q = omega (arith, h q, k q)

at_least_none : (o : Option Node) → cost_at None ≤ cost_at o
at_least_none o = omega arith

le_same : (m n : ℕ) → m ≡ n → m ≤ n
le_same m n e = omega arith

-- ---- maps

pub cheaper_inserted : (m : Numbered Node) (k : ℕ) (x y : Node) → fin.get m k ≡ Some x → body_cost y.body ≤ body_cost x.body → IsCheaper (fin.insert m k y) m
cheaper_inserted m k x y has h q = elim (one_or_not q k) [
  | inl is ↦ rw is (subst (λ (o : Option Node). cost_at o ≤ cost_at (fin.get m k)) (sym (get_here m k y)) (subst (λ (o : Option Node). body_cost y.body ≤ cost_at o) (sym has) h))
  | inr apart ↦ le_same _ _ (ap cost_at (get_there m k y q apart))
]

cheaper_changed : (m : Numbered Node) (k : ℕ) (f : Node → Node) → ((x : Node) → body_cost (f x).body ≤ body_cost x.body) → IsCheaper (changed_at m k f) m
cheaper_changed m k f each =
    elim (fin.get m k) as (λ (o : Option Node). fin.get m k ≡ o → IsCheaper (unwrap_or (option_map (λ x. fin.insert m k (f x)) o) m) m) [
      | None ↦ λ has q. omega arith
      | Some x ↦ λ has. cheaper_inserted m k x (f x) has (each x)
    ] refl

cheaper_removed : (m : Numbered Node) (k : ℕ) → IsCheaper (fin.remove m k) m
cheaper_removed m k q = elim (one_or_not q k) [
  | inl is ↦ rw is (subst (λ (o : Option Node). cost_at o ≤ cost_at (fin.get m k)) (sym (gone_here m k)) (at_least_none _))
  | inr apart ↦ le_same _ _ (ap cost_at (gone_there m k q apart))
]

cond_le : (b : Bool) (o : Option Node) → cost_at (cond b o None) ≤ cost_at o
cond_le true o = omega arith
cond_le false o = at_least_none o

pub cheaper_retained : (m : Numbered Node) (p : ℕ → Bool) → IsCheaper (fin.retain_keys m p) m
cheaper_retained m p q = subst (λ (o : Option Node). cost_at o ≤ cost_at (fin.get m q)) (sym (get-retain_keys m p q (λ x t. ap p (sym (nat_cmp-IsAntisymmetric q x t))))) (cond_le (p q) (fin.get m q))

-- ---- bodies

length_emptied : (name : List ℕ) (slots : List PlainSlot) → length (emptied name slots) ≡ length slots
length_emptied name slots =
    elim (position (is_named name) slots) as (λ (o : Option ℕ). length (unwrap_or (option_map (λ at. slice_set slots at (record { ino = 0; name = name })) o) slots) ≡ length slots) [
      | None ↦ refl
      | Some at ↦ length-set slots at _
    ]

pub emptied_cost : (name : List ℕ) (body : Body) → body_cost (on_slots (emptied name) body) ≤ body_cost body
emptied_cost name (Regular size parts) = omega arith
emptied_cost name (Directory slots) = le_same _ _ (ap (λ n. length (first_parts (parts_for n)) + index_blocks (first_parts (parts_for n))) (length_emptied name slots))
emptied_cost name (Special size area) = omega arith

cleared_cost : (body : Body) → body_cost (cleared body) ≤ body_cost body
cleared_cost (Regular size parts) =
    let none : length (fin.keys (fin.empty {X = List ℕ} {R = nat_cmp})) + index_blocks (fin.keys (fin.empty {X = List ℕ} {R = nat_cmp})) ≡ 0 = ap (λ (es : List (ℕ × List ℕ)). length (map (λ e. e.0) es) + index_blocks (map (λ e. e.0) es)) entries_none ∙ sym no_blocks in
    omega (arith, none)
cleared_cost (Directory slots) = omega arith
cleared_cost (Special size area) = omega arith

-- ---- operations

abbrev pub KeepsRoom : Tree → Tree → Type 0
KeepsRoom tree next = (cost next ≤ tree.cap) × (next.cap ≡ tree.cap)

fitted : (tree : Tree) (nodes : Numbered Node) → Always (KeepsRoom tree) (fitting tree nodes)
fitted tree nodes =
    elim (nat_le (cost (record tree { nodes = nodes })) tree.cap) as (λ b. nat_le (cost (record tree { nodes = nodes })) tree.cap ≡ b → Always (KeepsRoom tree) (need b ENOSPC >> Ok (record tree { nodes = nodes }))) [
      | true ↦ λ e. always_ok (KeepsRoom tree) _ (grind (arith, nat_tests), refl)
      | false ↦ λ e. always_err (KeepsRoom tree) ENOSPC
    ] refl

module _ (tree : Tree) (sound : cost tree ≤ tree.cap) where
  cheaper : (nodes : Numbered Node) → IsCheaper nodes tree.nodes → Always (KeepsRoom tree) (Ok (record tree { nodes = nodes }))
  cheaper nodes h = always_ok (KeepsRoom tree) _ (let le = cheaper_cost tree nodes h in omega (arith, le), refl)

  same_tree : Always (KeepsRoom tree) (Ok tree)
  same_tree = always_ok (KeepsRoom tree) _ (sound, refl)

  removed : (dir : ℕ) (name : List ℕ) (moment : ℕ) (target : Option ℕ) → Always (KeepsRoom tree) (Ok (remove_dir tree dir name moment target))
  removed dir name moment None = same_tree
  removed dir name moment (Some ino) = cheaper _ (cheaper_trans _ (fin.remove tree.nodes ino) tree.nodes (cheaper_changed _ dir (without_link moment name) (λ x. emptied_cost name x.body)) (cheaper_removed tree.nodes ino))

  lost : (nodes : Numbered Node) (opens : Counts) (moment ino : ℕ) → IsCheaper (less_name nodes opens moment ino) nodes
  lost nodes opens moment ino = elim (is_lost opens ino (option_map (unlinked moment) (fin.get nodes ino))) as (λ b. IsCheaper (if b then fin.remove nodes ino else changed_at nodes ino (unlinked moment)) nodes) [
    | true ↦ cheaper_removed nodes ino
    | false ↦ cheaper_changed nodes ino (unlinked moment) (λ x. omega arith)
  ]

  delinked : (opens : Counts) (dir : ℕ) (name : List ℕ) (moment : ℕ) (target : Option ℕ) → Always (KeepsRoom tree) (Ok (delink tree opens dir name moment target))
  delinked opens dir name moment None = same_tree
  delinked opens dir name moment (Some ino) = cheaper _ (cheaper_trans _ (changed_at tree.nodes dir (without_name moment name)) tree.nodes (lost _ opens moment ino) (cheaper_changed tree.nodes dir (without_name moment name) (λ x. emptied_cost name x.body)))

  pub after_op : (opens : Counts) (made : FsOp) (pick : Option ℕ) → Always (KeepsRoom tree) (tree_after tree opens made pick)
  after_op opens (op.Create dir name mode uid gid moment) pick = always_bind (KeepsRoom tree) (some pick ENOSPC) _ (λ ino. fitted tree _)
  after_op opens (op.Empty ino moment) pick = cheaper _ (cheaper_changed tree.nodes ino (blanked moment) (λ x. cleared_cost x.body))
  after_op opens (op.MakeDir dir name mode uid gid moment) pick = always_then (KeepsRoom tree) (need (nat_lt (nlink_in tree.nodes dir) 32767) EMLINK) _ (always_bind (KeepsRoom tree) (some pick ENOSPC) _ (λ ino. fitted tree _))
  after_op opens (op.RemoveDir dir name moment) pick = removed dir name moment (number_in tree.nodes dir name)
  after_op opens (op.Enlink dir name ino moment) pick = always_then (KeepsRoom tree) (need (nat_lt (nlink_in tree.nodes ino) 32767) EMLINK) _ (fitted tree _)
  after_op opens (op.Delink dir name moment) pick = delinked opens dir name moment (number_in tree.nodes dir name)
  after_op opens (op.Put ino offset bytes moment) pick = always_then (KeepsRoom tree) (need (nat_le (offset + length bytes) 1082201088) EFBIG) _ (fitted tree _)
  after_op opens (op.SetMode ino mode moment) pick = cheaper _ (cheaper_changed tree.nodes ino (with_mode mode moment) (λ x. omega arith))
  after_op opens (op.SetOwner ino uid gid moment) pick = cheaper _ (cheaper_changed tree.nodes ino (with_owner uid gid moment) (λ x. omega arith))
  after_op opens (op.SetTimes ino atime mtime moment) pick = cheaper _ (cheaper_changed tree.nodes ino (with_times atime mtime moment) (λ x. omega arith))
  after_op opens (op.Hold ino) pick = same_tree
  after_op opens (op.Release inos) pick = cheaper _ (cheaper_retained tree.nodes _)

  after_effect : (opens : Counts) (made : Option FsOp) (pick : Option ℕ) (held : TreeAndOpens) → effect_of tree opens made pick ≡ Ok held → KeepsRoom tree held.tree
  after_effect opens None pick held h = let e = same_ok _ _ h in subst (λ (h : TreeAndOpens). KeepsRoom tree h.tree) e (sound, refl)
  after_effect opens (Some made) pick held h =
      let one = bind_ok (tree_after tree opens made pick) _ held h in
      let e = same_ok {A = TreeAndOpens} (record { tree = one.0; opens = opens_after opens made pick }) held one.2 in
      subst (λ (h : TreeAndOpens). KeepsRoom tree h.tree) e ((after_op opens made pick).holds one.0 one.1)

pub cost_kept : CostKept
cost_kept machine caller call moment pick sound =
    elim (serve machine caller call moment pick) as (λ (r : Answer (Reply × Machine)). serve machine caller call moment pick ≡ r → KeepsRoom machine.tree (or_refused machine r).1.tree) [
      | Ok s ↦ λ is. let by = served machine caller call moment pick s.0 s.1 is in subst (λ (t : Tree). KeepsRoom machine.tree t) (sym by.tree) (after_effect machine.tree sound (counts machine.seats) by.planned.op pick by.held by.acts)
      | Err e ↦ λ is. (sound, refl)
    ] refl
