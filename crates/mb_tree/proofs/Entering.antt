-- A tree stays sound where an inode is put under a number and a missing name of a directory leads to it.
use Rattle.std.proofs.Common.{◌≡◌, ◌≢◌, inl, inr, ℕ, ◌+◌, ◌≤◌, true, false, ◌||◌, List, drop, Some, None, refl, sym, ap, subst, ◌∙◌, arith}
use Rattle.std.proofs.lemmas.Option.{same_Some}
use Rattle.std.specs.Prelude.{count_by, slice_get}
use Rattle.std.specs.Str.{bytes_eq}
use Rattle.std.proofs.lemmas.Bool.Decides.{nat_tests}
use Rattle.std.proofs.lemmas.Slice.Eq.{bytes_eq-Decides}
use Rattle.std.specs.FinMap as fin
use Rattle.mb_tree.specs.Maps.{Numbered}
use Rattle.mb_tree.specs.Cost.{cost}
use Rattle.mb_tree.specs.Lookup.{is_used, number_of}
use Rattle.mb_tree.specs.Rows.{is_dots}
use Rattle.mb_tree.specs.Effect.{entered, dot, dot_dot}
use Rattle.mb_tree.specs.Trees.{IsName, AreSlots, leads_to, links_from, links_past, links, Leads, Reached, HasParent, Each, IsSound}
use Rattle.mb_tree.specs.Trees.Reached.{root, down}
use Rattle.mb_tree.specs.declared.nodes.PlainSlot.{PlainSlot}
use Rattle.mb_tree.specs.declared.nodes.Node.{Node}
use Rattle.mb_tree.specs.declared.nodes.Body.TheVariants.{Directory}
use Rattle.mb_tree.specs.declared.trees.Tree.{Tree}
use Rattle.mb_tree.proofs.FiniteMaps.{get_here, get_there, one_or_not}
use Rattle.mb_tree.proofs.SlotLists.{weight, count_some, weight_none, weight_one}
use Rattle.mb_tree.proofs.Rewritten.{IsEntered, is_entered, is_missing}
use Rattle.mb_tree.proofs.Shapes.{IsShaped, IsBarren, CanBePut, shape_of, sound_of, shape_put, links_put, directory_apart, same_node}
use Rattle.mb_tree.proofs.Slotted.{CanBeSlotted, MayStand, shape_slotted, links_slotted, links_others}

-- z is put under the number ino, and the name of the directory x, which becomes y, leads to it
pub record CanBeEntered (tree : Tree) (dir ino : ℕ) (name : List ℕ) (x y z : Node) (old : List PlainSlot) : Type 0 where
  pub put : CanBePut tree ino z
  pub has : fin.get tree.nodes dir ≡ Some x
  pub before : x.body ≡ Directory old
  pub after : y.body ≡ Directory (entered name ino old)
  pub mode : y.mode ≡ x.mode
  pub ordinary : ino ≢ 1
  pub named : IsName name
  pub missing : number_of old name ≡ None
  pub upward : (slots : List PlainSlot) → z.body ≡ Directory slots → (slice_get slots 1 ≡ Some (record { ino = dir; name = dot_dot })) × (links_past 2 tree ino ≡ 0)
  -- the name counts, and so does what the inode's own slots lead to
  pub counted : z.nlink ≡ links tree ino + links_from 0 ino z.body + 1
  pub few : z.nlink ≤ 32767
  pub counted_above : y.nlink ≡ x.nlink + links_from 0 dir z.body
  pub few_above : dir ≢ 1 → y.nlink ≤ 32767
  pub others : (q : ℕ) → q ≢ 0 → q ≢ ino → q ≢ dir → links_from 0 q z.body ≡ 0

pub used_number : (q : ℕ) (name : List ℕ) → q ≢ 0 → is_used (record { ino = q; name = name }) ≡ true
used_number q name some = grind (arith, nat_tests)

pub leads_itself : (slot : PlainSlot) → leads_to slot.ino slot ≡ true
leads_itself slot = grind (arith, nat_tests)

unused_leads : (q : ℕ) (slot : PlainSlot) → q ≢ 0 → is_used slot ≡ false → leads_to q slot ≡ false
unused_leads q slot some unused = grind (arith, nat_tests)

-- a name that is neither of the first two is no dots
apart_dots : (name : List ℕ) → name ≢ dot → name ≢ dot_dot → is_dots name ≡ false
apart_dots name one two = elim (bytes_eq name dot) as (λ b. bytes_eq name dot ≡ b → (b || bytes_eq name dot_dot) ≡ false) [
  | true ↦ λ e. absurd (one ((bytes_eq-Decides name dot).0 e))
  | false ↦ λ e. elim (bytes_eq name dot_dot) as (λ b. bytes_eq name dot_dot ≡ b → b ≡ false) [
    | true ↦ λ e. absurd (two ((bytes_eq-Decides name dot_dot).0 e))
    | false ↦ λ e. refl
  ] refl
] refl

-- no late slot of an inode from which none leads is used
pub barren_late : (nodes : Numbered Node) (ino : ℕ) (z : Node) → fin.get nodes ino ≡ Some z → ((q : ℕ) → links_from 2 q z.body ≡ 0) → IsBarren nodes ino
barren_late nodes ino z has late at other l =
    let same : l.node ≡ z = same_Some l.node z (sym l.has ∙ has) in
    let none : count_by (leads_to l.slot.ino) (drop 2 l.slots) ≡ 0 = sym (ap (λ (n : Node). links_from 2 l.slot.ino n.body) (sym same) ∙ ap (links_from 2 l.slot.ino) l.body) ∙ late l.slot.ino in
    let one = weight_one (leads_to l.slot.ino) (slice_get l.slots at) l.slot l.entry.has (leads_itself l.slot) in
    let some = count_some (leads_to l.slot.ino) 2 l.slots at l.late in
    omega (arith, none, one, some)

module _ (tree : Tree) (sound : IsSound tree) (dir ino : ℕ) (name : List ℕ) (x y z : Node) (old : List PlainSlot) (h : CanBeEntered tree dir ino name x y z old) where
  abbrev first : Tree
  first = record tree { nodes = fin.insert tree.nodes ino z }

  abbrev next : Tree
  next = record tree { nodes = fin.insert first.nodes dir y }

  abbrev slot : PlainSlot
  slot = record { ino = ino; name = name }

  some_dir : dir ≢ 0
  some_dir e = absurd (omega (arith, e, (sound.numbers dir x h.has).0))

  some_ino : ino ≢ 0
  some_ino e = absurd (omega (arith, e, h.put.low))

  apart : dir ≢ ino
  apart = directory_apart tree ino z (shape_of tree ino sound) h.put dir x old h.has h.before

  has_first : fin.get first.nodes dir ≡ Some x
  has_first = get_there tree.nodes ino z dir apart ∙ h.has

  slots_old : AreSlots tree.nodes dir old
  slots_old = sound.slots dir x old h.has h.before

  place : IsEntered old name ino
  place = is_entered old name ino (record { ino = dir; name = dot }, slots_old.first, used_number dir dot some_dir) (record { ino = slots_old.parent; name = dot_dot }, slots_old.second, used_number slots_old.parent dot_dot slots_old.upward)

  stands : MayStand first.nodes old place.at slot
  stands = record {
    no_dots = apart_dots name (is_missing old name 0 (record { ino = dir; name = dot }) h.missing slots_old.first (used_number dir dot some_dir))
        (is_missing old name 1 (record { ino = slots_old.parent; name = dot_dot }) h.missing slots_old.second (used_number slots_old.parent dot_dot slots_old.upward));
    ordinary = h.ordinary;
    there = record { node = z; has = get_here tree.nodes ino z };
    named = h.named;
    single = λ k twin u. is_missing old name k twin h.missing u.has u.used;
  }

  fits : CanBeSlotted first dir ino x y old (entered name ino old) place.at slot
  fits = record {
    has = has_first;
    before = h.before;
    after = h.after;
    mode = h.mode;
    rewritten = place.rewritten;
    under = h.put.under;
    barren = barren_late first.nodes ino z (get_here tree.nodes ino z) h.put.late;
    was = λ s has used. absurd (let no = place.unused s has in cc);
    is = λ used. refl;
    stands = λ used. stands;
  }

  shape_first : IsShaped first ino
  shape_first = shape_put tree ino z (shape_of tree ino sound) h.put

  shape_next : IsShaped next ino
  shape_next = shape_slotted first dir ino x y old (entered name ino old) place.at slot shape_first fits

  weight_old : weight (leads_to ino) (slice_get old place.at) ≡ 0
  weight_old = weight_none (leads_to ino) (slice_get old place.at) (λ s has. unused_leads ino s some_ino (place.unused s has))

  weight_new : weight (leads_to ino) (Some slot) ≡ 1
  weight_new = weight_one (leads_to ino) (Some slot) slot refl (leads_itself slot)

  links_target : (skip : ℕ) → skip ≤ 2 → links_past skip next ino ≡ links_past skip tree ino + links_from skip ino z.body + 1
  links_target skip few =
      let one = links_slotted first dir ino x y old (entered name ino old) place.at slot shape_first fits skip ino few in
      let two = links_put tree ino z (shape_of tree ino sound) h.put skip ino in
      omega (arith, one, two, weight_old, weight_new)

  links_rest : (q : ℕ) → q ≢ 0 → q ≢ ino → links next q ≡ links tree q + links_from 0 q z.body
  links_rest q some other = links_others first dir ino x y old (entered name ino old) place.at slot shape_first fits 0 q (omega arith) some other ∙ links_put tree ino z (shape_of tree ino sound) h.put 0 q

  has_dir : fin.get next.nodes dir ≡ Some y
  has_dir = get_here first.nodes dir y

  has_ino : fin.get next.nodes ino ≡ Some z
  has_ino = get_there first.nodes dir y ino (λ e. apart (sym e)) ∙ get_here tree.nodes ino z

  reached_dir : Reached next.nodes dir
  reached_dir = elim (one_or_not dir 2) [
    | inl is ↦ subst (Reached next.nodes) (sym is) root
    | inr below ↦ (shape_next.parents dir y (entered name ino old) has_dir h.after below apart).reached
  ]

  entry : Leads next.nodes dir place.at ino
  entry = record { node = y; slots = entered name ino old; slot = slot; has = has_dir; body = h.after; late = place.rewritten.late; entry = record { has = place.rewritten.here; used = used_number ino name some_ino }; leads = refl }

  led : (node : Node) (slots : List PlainSlot) → fin.get next.nodes ino ≡ Some node → node.body ≡ Directory slots → ino ≢ 2 → HasParent next ino slots
  led node slots has body below =
      let up = h.upward slots (ap (λ (n : Node). n.body) (same_node z node (fin.get next.nodes ino) has_ino has) ∙ body) in
      record { one = omega (arith, links_target 2 (omega arith), h.put.late ino, up.1); parent = dir; at = place.at; upward = up.0; entry = entry; reached = down dir place.at reached_dir entry }

  -- its link count is right and small
  abbrev IsCounted : ℕ → Node → Type 0
  IsCounted q node = (node.nlink ≡ links next q) × (node.nlink ≤ 32767)

  counted_dir : dir ≢ 1 → IsCounted dir y
  counted_dir ordinary = (omega (arith, h.counted_above, sound.counted dir x h.has ordinary, links_rest dir some_dir apart), h.few_above ordinary)

  counted_rest : (q : ℕ) (node : Node) → fin.get tree.nodes q ≡ Some node → q ≢ dir → q ≢ ino → q ≢ 1 → IsCounted q node
  counted_rest q node has beside other ordinary =
      let some : q ≢ 0 = (λ e. absurd (omega (arith, e, (sound.numbers q node has).0))) in
      (omega (arith, sound.counted q node has ordinary, links_rest q some other, h.others q some other beside), sound.few q node has ordinary)

  counted : Each next (λ q node. q ≢ 1 → IsCounted q node)
  counted q node has ordinary = elim (one_or_not q dir) [
    | inl is ↦ subst (λ i. IsCounted i node) (sym is) (subst (IsCounted dir) (same_node y node (fin.get next.nodes dir) has_dir (sym (ap (fin.get next.nodes) is) ∙ has)) (counted_dir (λ e. ordinary (is ∙ e))))
    | inr beside ↦ elim (one_or_not q ino) [
      | inl is ↦ subst (λ i. IsCounted i node) (sym is) (subst (IsCounted ino) (same_node z node (fin.get next.nodes ino) has_ino (sym (ap (fin.get next.nodes) is) ∙ has)) (h.counted ∙ sym (links_target 0 (omega arith)), h.few))
      | inr other ↦ counted_rest q node (sym (get_there tree.nodes ino z q other) ∙ sym (get_there first.nodes dir y q beside) ∙ has) beside other ordinary
    ]
  ]

  pub entered_sound : cost next ≤ tree.cap → IsSound next
  entered_sound room = sound_of next ino shape_next led counted room
