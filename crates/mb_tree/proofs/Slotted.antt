-- One late slot of a directory put at a place: a name entered, or a slot emptied.
use Rattle.std.proofs.Common.{◌≡◌, ◌≢◌, ◌⊎◌, inl, inr, ℕ, ◌+◌, ◌<◌, ◌≤◌, true, false, cond, List, drop, Option, Some, None, refl, sym, ap, subst, ◌∙◌, arith, nat_eq}
use Rattle.std.proofs.lemmas.Option.{same_Some}
use Rattle.std.specs.Prelude.{count_by, slice_get}
use Rattle.std.proofs.lemmas.Bool.Decides.{nat_tests}
use Rattle.std.specs.FinMap as fin
use Rattle.mb_tree.specs.Maps.{Numbered}
use Rattle.mb_tree.specs.Inodes.{is_directory}
use Rattle.mb_tree.specs.Lookup.{is_used}
use Rattle.mb_tree.specs.Rows.{is_dots}
use Rattle.mb_tree.specs.Trees.{IsThere, HasKind, HasSize, IsName, IsUsedAt, AreSlots, leads_to, links_from, links_at, links_past, Leads, Each}
use Rattle.mb_tree.specs.declared.nodes.PlainSlot.{PlainSlot}
use Rattle.mb_tree.specs.declared.nodes.Node.{Node}
use Rattle.mb_tree.specs.declared.nodes.Body.{Body}
use Rattle.mb_tree.specs.declared.nodes.Body.TheVariants.{Directory}
use Rattle.mb_tree.specs.declared.trees.Tree.{Tree}
use Rattle.mb_tree.proofs.FiniteMaps.{get_here, get_there, one_or_not}
use Rattle.mb_tree.proofs.Sums.{sum_put}
use Rattle.mb_tree.proofs.SlotLists.{weight}
use Rattle.mb_tree.proofs.Rewritten.{IsRewritten, counts_past}
use Rattle.mb_tree.proofs.Shapes.{IsShaped, IsBarren, HasSecond, slots_stay, carried}

-- what a used slot asks of the slots beside it
pub record MayStand (nodes : Numbered Node) (old : List PlainSlot) (at : ℕ) (slot : PlainSlot) : Type 0 where
  pub no_dots : is_dots slot.name ≡ false
  pub ordinary : slot.ino ≢ 1
  pub there : IsThere nodes slot.ino
  pub named : IsName slot.name
  pub single : (k : ℕ) (twin : PlainSlot) → IsUsedAt old k twin → slot.name ≢ twin.name

-- a directory whose slots change at one place, where the old and the new slot lead at most to one inode, and
-- no late slot of that inode is used
pub record CanBeSlotted (tree : Tree) (dir target : ℕ) (x y : Node) (old new : List PlainSlot) (at : ℕ) (slot : PlainSlot) : Type 0 where
  pub has : fin.get tree.nodes dir ≡ Some x
  pub before : x.body ≡ Directory old
  pub after : y.body ≡ Directory new
  pub mode : y.mode ≡ x.mode
  pub rewritten : IsRewritten old new at slot
  pub under : target ≢ 2
  pub barren : IsBarren tree.nodes target
  pub was : (s : PlainSlot) → slice_get old at ≡ Some s → is_used s ≡ true → s.ino ≡ target
  pub is : is_used slot ≡ true → slot.ino ≡ target
  pub stands : is_used slot ≡ true → MayStand tree.nodes old at slot

weight_apart : (q target : ℕ) (s : PlainSlot) → q ≢ 0 → q ≢ target → (is_used s ≡ true → s.ino ≡ target) → weight (leads_to q) (Some s) ≡ 0
weight_apart q target s some apart to = elim (nat_eq s.ino q) as (λ b. nat_eq s.ino q ≡ b → cond {A = ℕ} b 1 0 ≡ 0) [
  | true ↦ λ e.
      let is : s.ino ≡ q = grind (arith, nat_tests) in
      let used : is_used s ≡ true = grind (arith, nat_tests) in
      absurd (apart (sym is ∙ to used))
  | false ↦ λ e. refl
] refl

weight_none : (q target : ℕ) (o : Option PlainSlot) → q ≢ 0 → q ≢ target → ((s : PlainSlot) → o ≡ Some s → is_used s ≡ true → s.ino ≡ target) → weight (leads_to q) o ≡ 0
weight_none q target None some apart to = refl
weight_none q target (Some s) some apart to = weight_apart q target s some apart (to s refl)

module _ (tree : Tree) (dir target : ℕ) (x y : Node) (old new : List PlainSlot) (at : ℕ) (slot : PlainSlot) (shape : IsShaped tree target) (h : CanBeSlotted tree dir target x y old new at slot) where
  abbrev next : Tree
  next = record tree { nodes = fin.insert tree.nodes dir y }

  low : dir < tree.last + 1
  low = omega (arith, (shape.numbers dir x h.has).1)

  pub links_slotted : (skip q : ℕ) → skip ≤ 2 → links_past skip next q + weight (leads_to q) (slice_get old at) ≡ links_past skip tree q + weight (leads_to q) (Some slot)
  links_slotted skip q few =
      let all = sum_put (links_at skip q) tree.nodes dir (tree.last + 1) low y in
      let one : links_at skip q (fin.get tree.nodes dir) ≡ count_by (leads_to q) (drop skip old) = ap (links_at skip q) h.has ∙ ap (links_from skip q) h.before in
      let two : links_from skip q y.body ≡ count_by (leads_to q) (drop skip new) = ap (links_from skip q) h.after in
      let counts = counts_past skip old new at slot few h.rewritten (leads_to q) in
      omega (arith, all, one, two, counts)

  pub links_others : (skip q : ℕ) → skip ≤ 2 → q ≢ 0 → q ≢ target → links_past skip next q ≡ links_past skip tree q
  links_others skip q few some apart =
      let one = weight_none q target (slice_get old at) some apart h.was in
      let two = weight_apart q target slot some apart h.is in
      omega (arith, one, two, links_slotted skip q few)

  there_slotted : (q : ℕ) → IsThere tree.nodes q → IsThere next.nodes q
  there_slotted q t = elim (one_or_not q dir) [
    | inl is ↦ record { node = y; has = ap (fin.get next.nodes) is ∙ get_here tree.nodes dir y }
    | inr apart ↦ record { node = t.node; has = get_there tree.nodes dir y q apart ∙ t.has }
  ]

  -- each inode is the changed directory, or was there
  each_slotted : (P : ℕ → Node → Type 0) → P dir y → Each tree P → Each next P
  each_slotted P one all q node has = elim (one_or_not q dir) [
    | inl is ↦
        let same : y ≡ node = same_Some y node (sym (get_here tree.nodes dir y) ∙ sym (ap (fin.get next.nodes) is) ∙ has) in
        subst (λ i. P i node) (sym is) (subst (P dir) same one)
    | inr apart ↦ all q node (sym (get_there tree.nodes dir y q apart) ∙ has)
  ]

  same_slots : (a b : List PlainSlot) → ◌≡◌ {A = Body} (Directory a) (Directory b) → a ≡ b
  same_slots a b e = cc

  -- what leads to another inode still leads there
  pub leads_slotted : (d k q : ℕ) → q ≢ target → Leads tree.nodes d k q → Leads next.nodes d k q
  leads_slotted d k q other l = elim (one_or_not d dir) [
    | inl is ↦
        let node_is : x ≡ l.node = same_Some x l.node (sym h.has ∙ sym (ap (fin.get tree.nodes) is) ∙ l.has) in
        let slots_are : l.slots ≡ old = same_slots l.slots old (sym l.body ∙ ap (λ (n : Node). n.body) (sym node_is) ∙ h.before) in
        let stood : slice_get old k ≡ Some l.slot = ap (λ s. slice_get s k) (sym slots_are) ∙ l.entry.has in
        let beside : k ≢ at = (λ e. other (sym l.leads ∙ h.was l.slot (sym (ap (slice_get old) e) ∙ stood) l.entry.used)) in
        record { node = y; slots = new; slot = l.slot; has = ap (fin.get next.nodes) is ∙ get_here tree.nodes dir y; body = h.after; late = l.late; entry = record { has = h.rewritten.there k beside ∙ stood; used = l.entry.used }; leads = l.leads }
    | inr apart ↦ record { node = l.node; slots = l.slots; slot = l.slot; has = get_there tree.nodes dir y d apart ∙ l.has; body = l.body; late = l.late; entry = l.entry; leads = l.leads }
  ]

  -- a used slot of the changed directory is the new one, or stood before
  stood : (k : ℕ) (s : PlainSlot) → IsUsedAt new k s → ((k ≡ at) × (s ≡ slot) × (is_used slot ≡ true)) ⊎ ((k ≢ at) × IsUsedAt old k s)
  stood k s u = elim (one_or_not k at) [
    | inl is ↦
        let same : slot ≡ s = same_Some slot s (sym h.rewritten.here ∙ sym (ap (slice_get new) is) ∙ u.has) in
        inl (is, sym same, ap is_used same ∙ u.used)
    | inr apart ↦ inr (apart, record { has = sym (h.rewritten.there k apart) ∙ u.has; used = u.used })
  ]

  -- what holds of the new slot and of each used slot holds of each used slot afterwards
  each_used : (P : ℕ → PlainSlot → Type 0) → (is_used slot ≡ true → P at slot) → ((k : ℕ) (s : PlainSlot) → IsUsedAt old k s → P k s) → (k : ℕ) (s : PlainSlot) → IsUsedAt new k s → P k s
  each_used P one all k s u = elim (stood k s u) [
    | inl now ↦ subst (λ i. P i s) (sym now.0) (subst (P at) (sym now.1) (one now.2))
    | inr then ↦ all k s then.1
  ]

  one_name : (k j : ℕ) (s twin : PlainSlot) → AreSlots tree.nodes dir old → IsUsedAt new k s → IsUsedAt new j twin → s.name ≡ twin.name → k ≡ j
  one_name k j s twin a u v e = elim (stood k s u) [
    | inl now ↦ elim (stood j twin v) [
      | inl too ↦ now.0 ∙ sym too.0
      | inr then ↦ absurd ((h.stands now.2).single j twin then.1 (ap (λ (s : PlainSlot). s.name) (sym now.1) ∙ e))
    ]
    | inr then ↦ elim (stood j twin v) [
      | inl now ↦ absurd ((h.stands now.2).single k s then.1 (ap (λ (s : PlainSlot). s.name) (sym now.1) ∙ sym e))
      | inr too ↦ a.distinct k j s twin then.1 too.1 e
    ]
  ]

  front : (k : ℕ) → k < 2 → slice_get new k ≡ slice_get old k
  front k less = h.rewritten.there k (λ e. let late = h.rewritten.late in absurd (omega (arith, e, less, late)))

  slots_slotted : AreSlots next.nodes dir new
  slots_slotted =
      let a = shape.slots dir x old h.has h.before in
      record {
        first = front 0 (omega arith) ∙ a.first;
        parent = a.parent;
        second = front 1 (omega arith) ∙ a.second;
        upward = a.upward;
        no_dots = λ k s late u. each_used (λ k s. 2 ≤ k → is_dots s.name ≡ false) (λ used late. (h.stands used).no_dots) (λ k s u late. a.no_dots k s late u) k s u late;
        leads = each_used (λ k s. (s.ino ≢ 1) × IsThere next.nodes s.ino) (λ used. ((h.stands used).ordinary, there_slotted slot.ino (h.stands used).there)) (λ k s u. let l = a.leads k s u in (l.0, there_slotted s.ino l.1));
        names = each_used (λ k s. IsName s.name) (λ used. (h.stands used).named) a.names;
        distinct = λ k j s twin u v e. one_name k j s twin a u v e;
      }

  -- the root's `..` is as it was, and so is each directory's
  top_slotted : (node : Node) (slots : List PlainSlot) → fin.get tree.nodes 2 ≡ Some node → node.body ≡ Directory slots → HasSecond next.nodes 2 (slice_get slots 1)
  top_slotted node slots has body = elim (one_or_not 2 dir) [
    | inl is ↦
        let node_is : x ≡ node = same_Some x node (sym h.has ∙ sym (ap (fin.get tree.nodes) is) ∙ has) in
        let slots_are : slots ≡ old = same_slots slots old (sym body ∙ ap (λ (n : Node). n.body) (sym node_is) ∙ h.before) in
        record { node = y; slots = new; has = ap (fin.get next.nodes) is ∙ get_here tree.nodes dir y; body = h.after; is = front 1 (omega arith) ∙ ap (λ s. slice_get s 1) (sym slots_are) }
    | inr apart ↦ record { node = node; slots = slots; has = get_there tree.nodes dir y 2 apart ∙ has; body = body; is = refl }
  ]

  was_slotted : (q : ℕ) (node : Node) (slots : List PlainSlot) → fin.get next.nodes q ≡ Some node → node.body ≡ Directory slots → HasSecond tree.nodes q (slice_get slots 1)
  was_slotted q node slots has = each_slotted (λ q node. node.body ≡ Directory slots → HasSecond tree.nodes q (slice_get slots 1))
      (λ body. record { node = x; slots = old; has = h.has; body = h.before; is = sym (front 1 (omega arith)) ∙ ap (λ s. slice_get s 1) (same_slots new slots (sym h.after ∙ body)) })
      (λ q node has body. record { node = node; slots = slots; has = has; body = body; is = refl }) q node has

  pub shape_slotted : IsShaped next target
  shape_slotted = carried tree next.nodes target shape (record {
    numbers = each_slotted (λ q node. (1 ≤ q) × (q ≤ tree.last)) (shape.numbers dir x h.has) shape.numbers;
    kinds = each_slotted (λ q node. HasKind node.mode node.body)
        (subst (HasKind y.mode) (sym h.after) (subst (λ mode. is_directory mode ≡ true) (sym h.mode) (subst (HasKind x.mode) h.before (shape.kinds dir x h.has)))) shape.kinds;
    sizes = each_slotted (λ q node. HasSize node.body) (subst HasSize (sym h.after) (omega (arith, h.rewritten.long, h.rewritten.grown))) shape.sizes;
    slots = λ q node slots has. each_slotted (λ q node. node.body ≡ Directory slots → AreSlots next.nodes q slots)
        (λ body. subst (AreSlots next.nodes dir) (same_slots new slots (sym h.after ∙ body)) slots_slotted)
        (λ q node has body. slots_stay tree.nodes next.nodes q slots (λ at slot u. there_slotted slot.ino) (shape.slots q node slots has body)) q node has;
    top = top_slotted;
    was = λ q node slots has body apart. was_slotted q node slots has body;
    leads = leads_slotted;
    late = λ q some apart. links_others 2 q (omega arith) some apart;
    under = h.under;
    barren = h.barren;
  })
