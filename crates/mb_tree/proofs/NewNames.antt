-- Entering a name, making a file and making a directory keep a sound tree sound.
use Rattle.std.proofs.Common.{◌≡◌, ◌≢◌, inl, inr, ℕ, ◌<◌, ◌≤◌, Bool, true, false, List, Option, Some, None, Ok, option_map, unwrap_or, refl, sym, ap, subst, ◌∙◌, arith, nat_lt, nat_le}
use Rattle.std.proofs.lemmas.Option.{none-some, same_Some}
use Rattle.std.proofs.lemmas.Bool.Decides.{nat_tests}
use Rattle.std.specs.FinMap as fin
use Rattle.mb_kinds.specs.declared.errors.Errno.{Errno}
use Rattle.mb_kinds.specs.declared.errors.Errno.TheVariants.{ENOSPC, EMLINK}
use Rattle.mb_tree.specs.Answers.{need, some}
use Rattle.mb_tree.specs.Maps.{Numbered, changed_at}
use Rattle.mb_tree.specs.Inodes.{slots_of}
use Rattle.mb_tree.specs.Cost.{cost}
use Rattle.mb_tree.specs.Effect.{linked, made, nlink_in, on_slots, entered, with_name, dot, fitting}
use Rattle.mb_tree.specs.Fits.{IsLeafAt, IsMissing}
use Rattle.mb_tree.specs.Trees.{links_from, IsSound}
use Rattle.mb_tree.specs.NameLaws.{EnlinkKept}
use Rattle.mb_tree.specs.declared.nodes.PlainSlot.{PlainSlot}
use Rattle.mb_tree.specs.declared.nodes.Node.{Node}
use Rattle.mb_tree.specs.declared.nodes.Body.{Body}
use Rattle.mb_tree.specs.declared.nodes.Body.TheVariants.{Directory}
use Rattle.mb_tree.specs.declared.trees.Tree.{Tree}
use Rattle.mb_tree.specs.declared.operations.FsOp.TheVariants.{Enlink}
use Rattle.mb_tree.proofs.FiniteMaps.{same, get_here, get_there, one_or_not}
use Rattle.mb_tree.proofs.Always.{then_ok, same_ok}
use Rattle.mb_tree.proofs.Cheaper.{after_op}
use Rattle.mb_tree.proofs.Rewritten.{number_by}
use Rattle.mb_tree.proofs.Shapes.{IsNoDirectory, CanBePut, no_links_leaf}
use Rattle.mb_tree.proofs.Entering.{CanBeEntered, entered_sound}

-- ---- answers and maps

need_ok : (test : Bool) (e : Errno) (u : Unit {0}) → need test e ≡ Ok u → test ≡ true
need_ok true e u h = refl
need_ok false e u h = cc

pub some_ok : {A : Type 0} (o : Option A) (e : Errno) (x : A) → some o e ≡ Ok x → o ≡ Some x
some_ok None e x h = cc
some_ok (Some y) e x h = let is : y ≡ x = cc in ap Some is

pub changed_is : (nodes : Numbered Node) (k : ℕ) (f : Node → Node) (x : Node) → fin.get nodes k ≡ Some x → changed_at nodes k f ≡ fin.insert nodes k (f x)
changed_is nodes k f x has = ap (λ (o : Option Node). unwrap_or (option_map (λ x. fin.insert nodes k (f x)) o) nodes) has

pub swapped : (nodes : Numbered Node) (i j : ℕ) (x y : Node) → i ≢ j → fin.insert (fin.insert nodes i x) j y ≡ fin.insert (fin.insert nodes j y) i x
swapped nodes i j x y apart = same _ _ (λ q. elim (one_or_not q i) [
  | inl is ↦
      let other : q ≢ j = (λ e. apart (sym is ∙ e)) in
      get_there (fin.insert nodes i x) j y q other ∙ rw is (get_here nodes i x ∙ sym (get_here (fin.insert nodes j y) i x))
  | inr beside ↦ elim (one_or_not q j) [
    | inl is ↦ rw is (get_here (fin.insert nodes i x) j y ∙ sym (get_here nodes j y) ∙ sym (get_there (fin.insert nodes j y) i x j (λ e. apart (sym e))))
    | inr other ↦ get_there (fin.insert nodes i x) j y q other ∙ get_there nodes i x q beside ∙ sym (get_there nodes j y q other) ∙ sym (get_there (fin.insert nodes j y) i x q beside)
  ]
])

-- a tree with the same nodes
pub sound_at : (tree next : Tree) (nodes made : Numbered Node) → nodes ≡ made → record tree { nodes = nodes } ≡ next → cost next ≤ tree.cap
    → (cost (record tree { nodes = made }) ≤ tree.cap → IsSound (record tree { nodes = made })) → IsSound next
sound_at tree next nodes made are is room sound =
    let all : ◌≡◌ {A = Tree} (record tree { nodes = made }) next = ap (λ n. record tree { nodes = n }) (sym are) ∙ is in
    subst IsSound all (sound (subst (λ (t : Tree). cost t ≤ tree.cap) (sym all) room))

pub entered_body : (name : List ℕ) (ino : ℕ) (body : Body) (old : List PlainSlot) → body ≡ Directory old → on_slots (entered name ino) body ≡ Directory (entered name ino old)
entered_body name ino body old e = ap (on_slots (entered name ino)) e

-- ---- inodes

pub leaf_of : (nodes : Numbered Node) (ino : ℕ) → IsLeafAt nodes ino → IsNoDirectory nodes ino
leaf_of nodes ino leaf node slots has body =
    let same : leaf.node ≡ node = same_Some leaf.node node (sym leaf.has ∙ has) in
    none-some slots (sym leaf.body ∙ ap (λ (n : Node). slots_of n.body) same ∙ ap slots_of body)

pub no_slots : (body : Body) (slots : List PlainSlot) → slots_of body ≡ None → body ≡ Directory slots → ⊥
no_slots body slots none e = none-some slots (sym none ∙ ap slots_of e)

module _ (tree : Tree) (sound : IsSound tree) where
  pub not_root : (ino : ℕ) → IsNoDirectory tree.nodes ino → ino ≢ 2
  not_root ino leaf e = leaf sound.root.node sound.root.slots (ap (fin.get tree.nodes) e ∙ sound.root.has) sound.root.body

  -- inode 1 is no directory
  pub not_one : (dir : ℕ) (x : Node) (old : List PlainSlot) → fin.get tree.nodes dir ≡ Some x → x.body ≡ Directory old → dir ≢ 1
  not_one dir x old has body =
      let a = sound.slots dir x old has body in
      let low = (sound.numbers dir x has).0 in
      (a.leads 0 (record { ino = dir; name = dot }) (record { has = a.first; used = grind (arith, nat_tests) })).0

  -- ---- a name for an inode that is there

  put_leaf : (ino moment : ℕ) (leaf : IsLeafAt tree.nodes ino) → CanBePut tree ino (linked moment leaf.node)
  put_leaf ino moment leaf = record {
    low = (sound.numbers ino leaf.node leaf.has).0;
    high = (sound.numbers ino leaf.node leaf.has).1;
    under = not_root ino (leaf_of tree.nodes ino leaf);
    leaf = leaf_of tree.nodes ino leaf;
    kind = sound.kinds ino leaf.node leaf.has;
    size = sound.sizes ino leaf.node leaf.has;
    slots = λ slots body. absurd (no_slots leaf.node.body slots leaf.body body);
    late = λ q. no_links_leaf 2 q leaf.node.body (λ slots body. no_slots leaf.node.body slots leaf.body body);
  }

  enters_leaf : (dir ino : ℕ) (name : List ℕ) (moment : ℕ) (missing : IsMissing tree.nodes dir name) (leaf : IsLeafAt tree.nodes ino) → ino ≢ 1 → leaf.node.nlink < 32767
      → CanBeEntered tree dir ino name missing.directory.node (with_name moment name ino missing.directory.node) (linked moment leaf.node) missing.directory.slots
  enters_leaf dir ino name moment missing leaf ordinary few =
      let none : (q : ℕ) → links_from 0 q leaf.node.body ≡ 0 = (λ q. no_links_leaf 0 q leaf.node.body (λ slots body. no_slots leaf.node.body slots leaf.body body)) in
      record {
        put = put_leaf ino moment leaf;
        has = missing.directory.has;
        before = missing.directory.body;
        after = entered_body name ino missing.directory.node.body missing.directory.slots missing.directory.body;
        mode = refl;
        ordinary = ordinary;
        named = missing.named;
        missing = sym (number_by tree.nodes dir name missing.directory.node missing.directory.slots missing.directory.has missing.directory.body) ∙ missing.missing;
        upward = λ slots body. absurd (no_slots leaf.node.body slots leaf.body body);
        counted = omega (arith, sound.counted ino leaf.node leaf.has ordinary, none ino);
        few = omega arith;
        counted_above = omega (arith, none dir);
        few_above = λ ordinary. sound.few dir missing.directory.node missing.directory.has ordinary;
        others = λ q some other beside. none q;
      }

nlink_is : (nodes : Numbered Node) (ino : ℕ) (x : Node) → fin.get nodes ino ≡ Some x → nlink_in nodes ino ≡ x.nlink
nlink_is nodes ino x has = ap (λ (o : Option Node). unwrap_or (option_map (λ (node : Node). node.nlink) o) 0) has

pub few_of : (nodes : Numbered Node) (ino : ℕ) (x : Node) (u : Unit {0}) → fin.get nodes ino ≡ Some x → need (nat_lt (nlink_in nodes ino) 32767) EMLINK ≡ Ok u → x.nlink < 32767
few_of nodes ino x u has h =
    let test = need_ok (nat_lt (nlink_in nodes ino) 32767) EMLINK u h in
    let is = nlink_is nodes ino x has in
    let less : nlink_in nodes ino < 32767 = grind (arith, nat_tests) in
    omega (arith, is, less)

-- what fitted is the tree that was asked for
pub fitted_is : (tree next : Tree) (nodes : Numbered Node) → fitting tree nodes ≡ Ok next → record tree { nodes = nodes } ≡ next
fitted_is tree next nodes h =
    let two = then_ok (need (nat_le (cost (record tree { nodes = nodes })) tree.cap) ENOSPC) (Ok (record tree { nodes = nodes })) next h in
    same_ok {A = Tree} (record tree { nodes = nodes }) next two.2

pub enlink_kept : EnlinkKept
enlink_kept dir name ino moment tree opens pick next sound fits h =
    let room = (after_op tree sound.room opens (Enlink dir name ino moment) pick).holds next h in
    let nodes : Numbered Node = changed_at (changed_at tree.nodes ino (linked moment)) dir (with_name moment name ino) in
    let one = then_ok (need (nat_lt (nlink_in tree.nodes ino) 32767) EMLINK) (fitting tree nodes) next h in
    let leaf = fits.leaf in
    let x = fits.missing.directory in
    let z = linked moment leaf.node in
    let enters = enters_leaf tree sound dir ino name moment fits.missing leaf fits.ordinary (few_of tree.nodes ino leaf.node one.0 leaf.has one.1) in
    let apart : dir ≢ ino = (λ e. leaf_of tree.nodes ino leaf x.node x.slots (sym (ap (fin.get tree.nodes) e) ∙ x.has) x.body) in
    let first = changed_is tree.nodes ino (linked moment) leaf.node leaf.has in
    let then = changed_is (fin.insert tree.nodes ino z) dir (with_name moment name ino) x.node (get_there tree.nodes ino z dir apart ∙ x.has) in
    sound_at tree next nodes (fin.insert (fin.insert tree.nodes ino z) dir (with_name moment name ino x.node)) (ap (λ n. changed_at n dir (with_name moment name ino)) first ∙ then) (fitted_is tree next nodes one.2) room.0
    (entered_sound tree sound dir ino name x.node (with_name moment name ino x.node) z x.slots enters)
