-- Trees that are sound but for their link counts, their cost and what leads to one inode.
use Rattle.std.proofs.Common.{◌≡◌, ◌≢◌, inl, inr, ℕ, ◌+◌, ◌≤◌, List, Option, Some, None, refl, sym, ap, subst, ◌∙◌, arith}
use Rattle.std.proofs.lemmas.Option.{same_Some}
use Rattle.std.specs.FinMap as fin
use Rattle.mb_tree.specs.Maps.{Numbered}
use Rattle.mb_tree.specs.Cost.{cost}
use Rattle.std.specs.Prelude.{slice_get}
use Rattle.mb_tree.specs.Trees.{IsThere, IsUsedAt, HasKind, HasSize, AreSlots, links_from, links_at, links_past, links, Leads, Reached, HasParent, IsRoot, Each, EachDirectory, IsSound}
use Rattle.mb_tree.specs.Trees.Reached.{root, down}
use Rattle.mb_tree.specs.declared.nodes.PlainSlot.{PlainSlot}
use Rattle.mb_tree.specs.declared.nodes.Node.{Node}
use Rattle.mb_tree.specs.declared.nodes.Body.{Body}
use Rattle.mb_tree.specs.declared.nodes.Body.TheVariants.{Regular, Directory, Special}
use Rattle.mb_tree.specs.declared.trees.Tree.{Tree}
use Rattle.mb_tree.proofs.FiniteMaps.{get_here, get_there, one_or_not}
use Rattle.mb_tree.proofs.Sums.{sum_put}

-- sound but for link counts and room, and for what leads to the inode with the number free
pub record IsShaped (tree : Tree) (free : ℕ) : Type 0 where
  pub numbers : Each tree (λ ino node. (1 ≤ ino) × (ino ≤ tree.last))
  pub kinds : Each tree (λ ino node. HasKind node.mode node.body)
  pub sizes : Each tree (λ ino node. HasSize node.body)
  pub root : IsRoot tree
  pub slots : EachDirectory tree (AreSlots tree.nodes)
  pub parents : EachDirectory tree (λ ino slots. ino ≢ 2 → ino ≢ free → HasParent tree ino slots)

-- no late slot of an inode is used
abbrev pub IsBarren : Numbered Node → ℕ → Type 0
IsBarren nodes ino = (at other : ℕ) → Leads nodes ino at other → ⊥

-- an inode is no directory
abbrev pub IsNoDirectory : Numbered Node → ℕ → Type 0
IsNoDirectory nodes ino = (node : Node) (slots : List PlainSlot) → fin.get nodes ino ≡ Some node → node.body ≡ Directory slots → ⊥

pub barren_leaf : (nodes : Numbered Node) (ino : ℕ) → IsNoDirectory nodes ino → IsBarren nodes ino
barren_leaf nodes ino leaf at other h = leaf h.node h.slots h.has h.body

pub shape_of : (tree : Tree) (free : ℕ) → IsSound tree → IsShaped tree free
shape_of tree free sound = record {
  numbers = sound.numbers;
  kinds = sound.kinds;
  sizes = sound.sizes;
  root = sound.root;
  slots = sound.slots;
  parents = λ ino node slots has body under other. sound.parents ino node slots has body under;
}

pub sound_of : (tree : Tree) (free : ℕ) → IsShaped tree free
    → ((node : Node) (slots : List PlainSlot) → fin.get tree.nodes free ≡ Some node → node.body ≡ Directory slots → free ≢ 2 → HasParent tree free slots)
    → Each tree (λ ino node. ino ≢ 1 → (node.nlink ≡ links tree ino) × (node.nlink ≤ 32767)) → cost tree ≤ tree.cap → IsSound tree
sound_of tree free shape led counted room = record {
  numbers = shape.numbers;
  kinds = shape.kinds;
  sizes = shape.sizes;
  root = shape.root;
  slots = shape.slots;
  parents = λ ino node slots has body under. elim (one_or_not ino free) [
    | inl is ↦ subst (λ q. HasParent tree q slots) (sym is) (led node slots (sym (ap (fin.get tree.nodes) is) ∙ has) body (λ e. under (is ∙ e)))
    | inr apart ↦ shape.parents ino node slots has body under apart
  ];
  counted = λ ino node has other. (counted ino node has other).0;
  few = λ ino node has other. (counted ino node has other).1;
  room = room;
}

-- the slots of a directory whose targets stay
pub slots_stay : (old new : Numbered Node) (ino : ℕ) (slots : List PlainSlot) → ((at : ℕ) (slot : PlainSlot) → IsUsedAt slots at slot → IsThere old slot.ino → IsThere new slot.ino)
    → AreSlots old ino slots → AreSlots new ino slots
slots_stay old new ino slots there h = record {
  first = h.first;
  parent = h.parent;
  second = h.second;
  upward = h.upward;
  no_dots = h.no_dots;
  leads = λ at slot u. let l = h.leads at slot u in (l.0, there at slot u l.1);
  names = h.names;
  distinct = h.distinct;
}

-- ---- a shape carried over to other nodes

-- a directory whose second slot is that one
pub record HasSecond (nodes : Numbered Node) (ino : ℕ) (second : Option PlainSlot) : Type 0 where
  pub node : Node
  pub slots : List PlainSlot
  pub has : fin.get nodes ino ≡ Some node
  pub body : node.body ≡ Directory slots
  pub is : slice_get slots 1 ≡ second

-- nodes that are well made, each by itself, and that lead to the directories other than free as the tree's do
pub record CanBeCarried (tree : Tree) (nodes : Numbered Node) (free : ℕ) : Type 0 where
  pub numbers : Each (record tree { nodes = nodes }) (λ ino node. (1 ≤ ino) × (ino ≤ tree.last))
  pub kinds : Each (record tree { nodes = nodes }) (λ ino node. HasKind node.mode node.body)
  pub sizes : Each (record tree { nodes = nodes }) (λ ino node. HasSize node.body)
  pub slots : EachDirectory (record tree { nodes = nodes }) (AreSlots nodes)
  -- the root is a directory yet, and each directory was one, with the same `..`
  pub top : (node : Node) (slots : List PlainSlot) → fin.get tree.nodes 2 ≡ Some node → node.body ≡ Directory slots → HasSecond nodes 2 (slice_get slots 1)
  pub was : EachDirectory (record tree { nodes = nodes }) (λ ino slots. ino ≢ free → HasSecond tree.nodes ino (slice_get slots 1))
  -- the same late slots lead to what is not free
  pub leads : (dir at q : ℕ) → q ≢ free → Leads tree.nodes dir at q → Leads nodes dir at q
  pub late : (q : ℕ) → q ≢ 0 → q ≢ free → links_past 2 (record tree { nodes = nodes }) q ≡ links_past 2 tree q
  pub under : free ≢ 2
  pub barren : IsBarren tree.nodes free

module _ (tree : Tree) (nodes : Numbered Node) (free : ℕ) (shape : IsShaped tree free) (h : CanBeCarried tree nodes free) where
  reached_carried : (q : ℕ) → q ≢ free → Reached tree.nodes q → Reached nodes q
  reached_carried q other root = root
  reached_carried q other (down dir at r l) = down dir at (reached_carried dir (λ e. h.barren at q (subst (λ d. Leads tree.nodes d at q) e l)) r) (h.leads dir at q other l)

  pub carried : IsShaped (record tree { nodes = nodes }) free
  carried = record {
    numbers = h.numbers;
    kinds = h.kinds;
    sizes = h.sizes;
    root =
        let r = shape.root in
        let top = h.top r.node r.slots r.has r.body in
        record { node = top.node; slots = top.slots; has = top.has; body = top.body; upward = top.is ∙ r.upward; top = h.late 2 (omega arith) (λ e. h.under (sym e)) ∙ r.top };
    slots = h.slots;
    parents = λ ino node slots has body below apart.
        let some : ino ≢ 0 = (λ e. absurd (omega (arith, e, (h.numbers ino node has).0))) in
        let was = h.was ino node slots has body apart in
        let old = shape.parents ino was.node was.slots was.has was.body below apart in
        record { one = h.late ino some apart ∙ old.one; parent = old.parent; at = old.at; upward = sym was.is ∙ old.upward; entry = h.leads old.parent old.at ino apart old.entry; reached = reached_carried ino apart old.reached };
  }

-- what is no directory leads nowhere
pub no_links_leaf : (skip q : ℕ) (body : Body) → ((slots : List PlainSlot) → body ≡ Directory slots → ⊥) → links_from skip q body ≡ 0
no_links_leaf skip q (Regular size parts) leaf = refl
no_links_leaf skip q (Directory slots) leaf = absurd (leaf slots refl)
no_links_leaf skip q (Special size area) leaf = refl

-- a number has one inode
pub same_node : (a b : Node) (o : Option Node) → o ≡ Some a → o ≡ Some b → a ≡ b
same_node a b o e f = same_Some a b (sym e ∙ f)

-- ---- an inode put under a number that is free or a leaf's

-- x may be put under the number ino: its slots are a new directory's, if it has any
pub record CanBePut (tree : Tree) (ino : ℕ) (x : Node) : Type 0 where
  pub low : 1 ≤ ino
  pub high : ino ≤ tree.last
  pub under : ino ≢ 2
  pub leaf : IsNoDirectory tree.nodes ino
  pub kind : HasKind x.mode x.body
  pub size : HasSize x.body
  pub slots : (slots : List PlainSlot) → x.body ≡ Directory slots → AreSlots (fin.insert tree.nodes ino x) ino slots
  pub late : (q : ℕ) → links_from 2 q x.body ≡ 0

module _ (tree : Tree) (ino : ℕ) (x : Node) (shape : IsShaped tree ino) (h : CanBePut tree ino x) where
  abbrev next : Tree
  next = record tree { nodes = fin.insert tree.nodes ino x }

  links_before : (skip q : ℕ) (o : Option Node) → fin.get tree.nodes ino ≡ o → links_at skip q o ≡ 0
  links_before skip q None e = refl
  links_before skip q (Some old) e = no_links_leaf skip q old.body (λ slots body. h.leaf old slots e body)

  pub links_put : (skip q : ℕ) → links_past skip next q ≡ links_past skip tree q + links_from skip q x.body
  links_put skip q =
      let all = sum_put (links_at skip q) tree.nodes ino (tree.last + 1) (omega (arith, h.high)) x in
      let none = links_before skip q (fin.get tree.nodes ino) refl in
      omega (arith, all, none)

  late_put : (q : ℕ) → links_past 2 next q ≡ links_past 2 tree q
  late_put q = omega (arith, links_put 2 q, h.late q)

  there_put : (q : ℕ) → IsThere tree.nodes q → IsThere next.nodes q
  there_put q t = elim (one_or_not q ino) [
    | inl is ↦ record { node = x; has = ap (fin.get next.nodes) is ∙ get_here tree.nodes ino x }
    | inr apart ↦ record { node = t.node; has = get_there tree.nodes ino x q apart ∙ t.has }
  ]

  -- a directory that was there has another number
  pub directory_apart : (q : ℕ) (node : Node) (slots : List PlainSlot) → fin.get tree.nodes q ≡ Some node → node.body ≡ Directory slots → q ≢ ino
  directory_apart q node slots has body e = h.leaf node slots (sym (ap (fin.get tree.nodes) e) ∙ has) body

  leads_put : (dir at q : ℕ) → Leads tree.nodes dir at q → Leads next.nodes dir at q
  leads_put dir at q l = record { node = l.node; slots = l.slots; slot = l.slot; has = get_there tree.nodes ino x dir (directory_apart dir l.node l.slots l.has l.body) ∙ l.has; body = l.body; late = l.late; entry = l.entry; leads = l.leads }

  -- each inode is the new one, or was there
  each_put : (P : ℕ → Node → Type 0) → P ino x → Each tree P → Each next P
  each_put P one all q node has = elim (one_or_not q ino) [
    | inl is ↦
        let same : x ≡ node = same_Some x node (sym (get_here tree.nodes ino x) ∙ sym (ap (fin.get next.nodes) is) ∙ has) in
        subst (λ i. P i node) (sym is) (subst (P ino) same one)
    | inr apart ↦ all q node (sym (get_there tree.nodes ino x q apart) ∙ has)
  ]

  pub shape_put : IsShaped next ino
  shape_put = carried tree next.nodes ino shape (record {
    numbers = each_put (λ q node. (1 ≤ q) × (q ≤ tree.last)) (h.low, h.high) shape.numbers;
    kinds = each_put (λ q node. HasKind node.mode node.body) h.kind shape.kinds;
    sizes = each_put (λ q node. HasSize node.body) h.size shape.sizes;
    slots = λ q node slots has. each_put (λ q node. node.body ≡ Directory slots → AreSlots next.nodes q slots) (h.slots slots)
        (λ q node has body. slots_stay tree.nodes next.nodes q slots (λ at slot u. there_put slot.ino) (shape.slots q node slots has body)) q node has;
    top = λ node slots has body. record { node = node; slots = slots; has = get_there tree.nodes ino x 2 (λ e. h.under (sym e)) ∙ has; body = body; is = refl };
    was = λ q node slots has body apart. record { node = node; slots = slots; has = sym (get_there tree.nodes ino x q apart) ∙ has; body = body; is = refl };
    leads = λ dir at q other. leads_put dir at q;
    late = λ q some other. late_put q;
    under = h.under;
    barren = barren_leaf tree.nodes ino h.leaf;
  })
