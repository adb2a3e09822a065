-- A directory with two used slots to which no late slot leads is dropped; removing a directory keeps a sound
-- tree sound.
use Rattle.std.proofs.Common.{◌≡◌, ◌≢◌, inl, inr, ℕ, ◌+◌, ◌<◌, ◌≤◌, Bool, true, false, cond, List, length, drop, Option, Some, Ok, option_map, unwrap_or, refl, sym, ap, subst, ◌∙◌, arith, nat_eq}
use Rattle.std.proofs.lemmas.Option.{none-some}
use Rattle.std.specs.Prelude.{count_by, slice_get, option_and_then}
use Rattle.std.proofs.lemmas.Bool.Decides.{nat_tests}
use Rattle.std.specs.FinMap as fin
use Rattle.mb_tree.specs.Answers.{Answer}
use Rattle.mb_tree.specs.Maps.{Numbered, changed_at}
use Rattle.mb_tree.specs.Cost.{cost}
use Rattle.mb_tree.specs.Inodes.{slots_of}
use Rattle.mb_tree.specs.Lookup.{is_used, used_in}
use Rattle.mb_tree.specs.Rows.{is_dots}
use Rattle.mb_tree.specs.Effect.{without_link, remove_dir, dot, dot_dot}
use Rattle.mb_tree.specs.Trees.{IsThere, IsUsedAt, AreSlots, HasSize, leads_to, links_from, links_at, links_past, links, Leads, HasParent, Each, IsSound}
use Rattle.mb_tree.specs.NameLaws.{RemoveDirKept}
use Rattle.mb_tree.specs.declared.nodes.PlainSlot.{PlainSlot}
use Rattle.mb_tree.specs.declared.nodes.Node.{Node}
use Rattle.mb_tree.specs.declared.nodes.Body.{Body}
use Rattle.mb_tree.specs.declared.nodes.Body.TheVariants.{Directory}
use Rattle.mb_tree.specs.declared.trees.Tree.{Tree}
use Rattle.mb_tree.specs.declared.operations.FsOp.TheVariants.{RemoveDir}
use Rattle.mb_tree.proofs.FiniteMaps.{same, get_here, get_there, gone_here, gone_there, one_or_not}
use Rattle.mb_tree.proofs.Always.{same_ok}
use Rattle.mb_tree.proofs.Cheaper.{after_op}
use Rattle.mb_tree.proofs.Sums.{sum_gone, sum_term, sum_terms}
use Rattle.mb_tree.proofs.SlotLists.{weight, count_late, count_some, count_none, weight_one}
use Rattle.mb_tree.proofs.Rewritten.{IsFound, is_found, number_by}
use Rattle.mb_tree.proofs.Shapes.{IsShaped, IsBarren, shape_of, sound_of, slots_stay, carried, same_node}
use Rattle.mb_tree.proofs.Entering.{used_number, leads_itself}
use Rattle.mb_tree.proofs.NewNames.{changed_is, sound_at, not_one}
use Rattle.mb_tree.proofs.Leaving.{CanBeEmptied, emptied_body, shape_emptied, links_emptied, links_kept}

same_slots : (a b : List PlainSlot) (x y : Node) → x ≡ y → x.body ≡ Directory a → y.body ≡ Directory b → a ≡ b
same_slots a b x y e f g = let both : ◌≡◌ {A = Body} (Directory a) (Directory b) = sym f ∙ ap (λ (n : Node). n.body) e ∙ g in cc

same_entry : (a b : PlainSlot) (slots : List PlainSlot) (at : ℕ) → slice_get slots at ≡ Some a → slice_get slots at ≡ Some b → a ≡ b
same_entry a b slots at e f = cc

-- what a late slot leads to has a link
led_once : (nodes : Numbered Node) (dir at q : ℕ) → Leads nodes dir at q → 1 ≤ links_at 2 q (fin.get nodes dir)
led_once nodes dir at q l =
    let is : links_at 2 q (fin.get nodes dir) ≡ count_by (leads_to q) (drop 2 l.slots) = ap (links_at 2 q) l.has ∙ ap (links_from 2 q) l.body in
    let passes : leads_to q l.slot ≡ true = ap (λ n. nat_eq l.slot.ino n) (sym l.leads) ∙ leads_itself l.slot in
    let one = weight_one (leads_to q) (slice_get l.slots at) l.slot l.entry.has passes in
    omega (arith, is, one, count_some (leads_to q) 2 l.slots at l.late)

-- ---- the drop

module _ (tree : Tree) (ino : ℕ) (w : Node) (own : List PlainSlot) (shape : IsShaped tree ino) (has : fin.get tree.nodes ino ≡ Some w) (body : w.body ≡ Directory own) (under : ino ≢ 2) (barren : IsBarren tree.nodes ino) (alone : links_past 2 tree ino ≡ 0) where
  abbrev less : Tree
  less = record tree { nodes = fin.remove tree.nodes ino }

  not_late : (dir at : ℕ) → Leads tree.nodes dir at ino → ⊥
  not_late dir at l =
      let one = led_once tree.nodes dir at ino l in
      let low : dir < tree.last + 1 = omega (arith, (shape.numbers dir l.node l.has).1) in
      let most = sum_term (λ q. links_at 2 ino (fin.get tree.nodes q)) dir (tree.last + 1) low in
      omega (arith, one, most, alone)

  not_upward : (dir : ℕ) (node : Node) (slots : List PlainSlot) (slot : PlainSlot) → dir ≢ ino → fin.get tree.nodes dir ≡ Some node → node.body ≡ Directory slots → slice_get slots 1 ≡ Some slot → slot.ino ≢ ino
  not_upward dir node slots slot apart there is stands e = elim (one_or_not dir 2) [
    | inl two ↦
        let r = shape.root in
        let slots_are = same_slots slots r.slots node r.node (same_node node r.node (fin.get tree.nodes 2) (sym (ap (fin.get tree.nodes) two) ∙ there) r.has) is r.body in
        let same = same_entry slot (record { ino = 2; name = dot_dot }) slots 1 stands (ap (λ s. slice_get s 1) slots_are ∙ r.upward) in
        under (sym e ∙ ap (λ (s : PlainSlot). s.ino) same)
    | inr below ↦
        let p = shape.parents dir node slots there is below apart in
        let same = same_entry slot (record { ino = p.parent; name = dot_dot }) slots 1 stands p.upward in
        barren p.at dir (subst (λ d. Leads tree.nodes d p.at dir) (sym (ap (λ (s : PlainSlot). s.ino) same) ∙ e) p.entry)
  ]

  -- no used slot of another directory leads to it
  apart_led : (dir at : ℕ) (node : Node) (slots : List PlainSlot) (slot : PlainSlot) → dir ≢ ino → fin.get tree.nodes dir ≡ Some node → node.body ≡ Directory slots → IsUsedAt slots at slot → slot.ino ≢ ino
  apart_led dir at node slots slot apart there is u e = elim (one_or_not at 0) [
    | inl first ↦
        let same = same_entry slot (record { ino = dir; name = dot }) slots 0 (sym (ap (slice_get slots) first) ∙ u.has) (shape.slots dir node slots there is).first in
        apart (sym (ap (λ (s : PlainSlot). s.ino) same) ∙ e)
    | inr later ↦ elim (one_or_not at 1) [
      | inl second ↦ not_upward dir node slots slot apart there is (sym (ap (slice_get slots) second) ∙ u.has) e
      | inr late ↦ not_late dir at (record { node = node; slots = slots; slot = slot; has = there; body = is; late = omega (arith, later, late); entry = u; leads = e })
    ]
  ]

  was : (q : ℕ) (node : Node) → fin.get less.nodes q ≡ Some node → (q ≢ ino) × (fin.get tree.nodes q ≡ Some node)
  was q node there =
      let apart : q ≢ ino = (λ e. none-some node (sym (gone_here tree.nodes ino) ∙ sym (ap (fin.get less.nodes) e) ∙ there)) in
      (apart, sym (gone_there tree.nodes ino q apart) ∙ there)

  there_gone : (q : ℕ) → q ≢ ino → IsThere tree.nodes q → IsThere less.nodes q
  there_gone q apart t = record { node = t.node; has = gone_there tree.nodes ino q apart ∙ t.has }

  leads_gone : (dir at q : ℕ) → Leads tree.nodes dir at q → Leads less.nodes dir at q
  leads_gone dir at q l =
      let apart : dir ≢ ino = (λ e. barren at q (subst (λ d. Leads tree.nodes d at q) e l)) in
      record { node = l.node; slots = l.slots; slot = l.slot; has = gone_there tree.nodes ino dir apart ∙ l.has; body = l.body; late = l.late; entry = l.entry; leads = l.leads }

  own_late : (q : ℕ) → q ≢ 0 → count_by (leads_to q) (drop 2 own) ≡ 0
  own_late q some = count_none (leads_to q) 2 own (λ at slot late stands. elim (leads_to q slot) as (λ b. leads_to q slot ≡ b → b ≡ false) [
    | true ↦ λ e.
        let is : slot.ino ≡ q = grind (arith, nat_tests) in
        let used : is_used slot ≡ true = grind (arith, nat_tests) in
        absurd (barren at q (record { node = w; slots = own; slot = slot; has = has; body = body; late = late; entry = record { has = stands; used = used }; leads = is }))
    | false ↦ λ e. refl
  ] refl)

  links_less : (skip q : ℕ) → links_past skip less q + count_by (leads_to q) (drop skip own) ≡ links_past skip tree q
  links_less skip q =
      let is : links_at skip q (fin.get tree.nodes ino) ≡ count_by (leads_to q) (drop skip own) = ap (links_at skip q) has ∙ ap (links_from skip q) body in
      let low : ino < tree.last + 1 = omega (arith, (shape.numbers ino w has).1) in
      omega (arith, is, sum_gone (links_at skip q) tree.nodes ino (tree.last + 1) low)

  late_gone : (q : ℕ) → q ≢ 0 → links_past 2 less q ≡ links_past 2 tree q
  late_gone q some = omega (arith, own_late q some, links_less 2 q)

  pub links_gone : (q : ℕ) → q ≢ 0 → links less q + (weight (leads_to q) (slice_get own 0) + weight (leads_to q) (slice_get own 1)) ≡ links tree q
  links_gone q some =
      let long : 2 ≤ length own = subst HasSize body (shape.sizes ino w has) in
      omega (arith, count_late (leads_to q) own long, own_late q some, links_less 0 q)

  pub shape_gone : IsShaped less ino
  shape_gone = carried tree less.nodes ino shape (record {
    numbers = λ q node there. shape.numbers q node (was q node there).1;
    kinds = λ q node there. shape.kinds q node (was q node there).1;
    sizes = λ q node there. shape.sizes q node (was q node there).1;
    slots = λ q node slots there is.
        let old = was q node there in
        slots_stay tree.nodes less.nodes q slots (λ at slot u. there_gone slot.ino (apart_led q at node slots slot old.0 old.1 is u)) (shape.slots q node slots old.1 is);
    top = λ node slots there is. record { node = node; slots = slots; has = gone_there tree.nodes ino 2 (λ e. under (sym e)) ∙ there; body = is; is = refl };
    was = λ q node slots there is apart. record { node = node; slots = slots; has = (was q node there).1; body = is; is = refl };
    leads = λ dir at q apart. leads_gone dir at q;
    late = λ q some apart. late_gone q some;
    under = under;
    barren = barren;
  })

-- ---- the operation

used_is : (nodes : Numbered Node) (ino : ℕ) (w : Node) (own : List PlainSlot) → fin.get nodes ino ≡ Some w → w.body ≡ Directory own → used_in nodes ino ≡ count_by is_used own
used_is nodes ino w own has body =
    ap (λ (o : Option Node). unwrap_or (option_map (count_by is_used) (option_and_then (λ (node : Node). slots_of node.body) o)) 0) has
    ∙ ap (λ b. unwrap_or (option_map (count_by is_used) (slots_of b)) 0) body

gone_over : (nodes : Numbered Node) (ino dir : ℕ) (y : Node) → dir ≢ ino → fin.insert (fin.remove nodes ino) dir y ≡ fin.remove (fin.insert nodes dir y) ino
gone_over nodes ino dir y apart = same _ _ (λ q. elim (one_or_not q ino) [
  | inl is ↦ rw is (get_there (fin.remove nodes ino) dir y ino (λ e. apart (sym e)) ∙ gone_here nodes ino ∙ sym (gone_here (fin.insert nodes dir y) ino))
  | inr other ↦ elim (one_or_not q dir) [
    | inl is ↦ rw is (get_here (fin.remove nodes ino) dir y ∙ sym (get_here nodes dir y) ∙ sym (gone_there (fin.insert nodes dir y) ino dir apart))
    | inr beside ↦ get_there (fin.remove nodes ino) dir y q beside ∙ gone_there nodes ino q other ∙ sym (get_there nodes dir y q beside) ∙ sym (gone_there (fin.insert nodes dir y) ino q other)
  ]
])

module _ (tree : Tree) (sound : IsSound tree) (dir ino : ℕ) (name : List ℕ) (moment : ℕ) (x w : Node) (old own : List PlainSlot)
    (has : fin.get tree.nodes dir ≡ Some x) (body : x.body ≡ Directory old) (found : IsFound old name ino) (no_dots : is_dots name ≡ false)
    (there : fin.get tree.nodes ino ≡ Some w) (folder : w.body ≡ Directory own) (few : used_in tree.nodes ino ≤ 2) where
  abbrev y : Node
  y = without_link moment name x

  abbrev first : Tree
  first = record tree { nodes = fin.insert tree.nodes dir y }

  abbrev next : Tree
  next = record tree { nodes = fin.remove first.nodes ino }

  slots_old : AreSlots tree.nodes dir old
  slots_old = sound.slots dir x old has body

  slots_own : AreSlots tree.nodes ino own
  slots_own = sound.slots ino w own there folder

  some_ino : ino ≢ 0
  some_ino e = absurd (omega (arith, e, (sound.numbers ino w there).0))

  some_dir : dir ≢ 0
  some_dir e = absurd (omega (arith, e, (sound.numbers dir x has).0))

  same_name : (at : ℕ) (s : PlainSlot) → found.at ≡ at → slice_get old at ≡ Some s → name ≡ s.name
  same_name at s e stands = sym found.named ∙ ap (λ (s : PlainSlot). s.name) (same_entry found.slot s old at (sym (ap (slice_get old) e) ∙ found.has) stands)

  not_first : found.at ≢ 0
  not_first e = let no : ◌≡◌ {A = Bool} true false = sym (ap is_dots (same_name 0 (record { ino = dir; name = dot }) e slots_old.first)) ∙ no_dots in cc

  not_second : found.at ≢ 1
  not_second e = let no : ◌≡◌ {A = Bool} true false = sym (ap is_dots (same_name 1 (record { ino = slots_old.parent; name = dot_dot }) e slots_old.second)) ∙ no_dots in cc

  entry : Leads tree.nodes dir found.at ino
  entry = record { node = x; slots = old; slot = found.slot; has = has; body = body; late = omega (arith, not_first, not_second); entry = record { has = found.has; used = found.used }; leads = found.leads }

  low_dir : dir < tree.last + 1
  low_dir = omega (arith, (sound.numbers dir x has).1)

  under : ino ≢ 2
  under e =
      let one = led_once tree.nodes dir found.at ino entry in
      let most = sum_term (λ q. links_at 2 ino (fin.get tree.nodes q)) dir (tree.last + 1) low_dir in
      let none : links_past 2 tree ino ≡ 0 = ap (links_past 2 tree) e ∙ sound.root.top in
      omega (arith, one, most, none)

  -- no late slot of it is used
  unused : count_by is_used (drop 2 own) ≡ 0
  unused =
      let one = weight_one is_used (slice_get own 0) (record { ino = ino; name = dot }) slots_own.first (used_number ino dot some_ino) in
      let two = weight_one is_used (slice_get own 1) (record { ino = slots_own.parent; name = dot_dot }) slots_own.second (used_number slots_own.parent dot_dot slots_own.upward) in
      let long : 2 ≤ length own = subst HasSize folder (sound.sizes ino w there) in
      omega (arith, few, used_is tree.nodes ino w own there folder, one, two, count_late is_used own long)

  barren_at : (nodes : Numbered Node) → fin.get nodes ino ≡ Some w → IsBarren nodes ino
  barren_at nodes is at other l =
      let slots_are = same_slots l.slots own l.node w (same_node l.node w (fin.get nodes ino) l.has is) l.body folder in
      let one = weight_one is_used (slice_get own at) l.slot (ap (λ s. slice_get s at) (sym slots_are) ∙ l.entry.has) l.entry.used in
      omega (arith, one, count_some is_used 2 own at l.late, unused)

  barren : IsBarren tree.nodes ino
  barren = barren_at tree.nodes there

  apart : dir ≢ ino
  apart e = barren found.at ino (subst (λ d. Leads tree.nodes d found.at ino) e entry)

  parent : HasParent tree ino own
  parent = sound.parents ino w own there folder under

  -- its `..` is the directory with the name
  parent_is : parent.parent ≡ dir
  parent_is = elim (one_or_not parent.parent dir) [
    | inl is ↦ is
    | inr beside ↦
        let one = led_once tree.nodes dir found.at ino entry in
        let two = led_once tree.nodes parent.parent parent.at ino parent.entry in
        let low : parent.parent < tree.last + 1 = omega (arith, (sound.numbers parent.parent parent.entry.node parent.entry.has).1) in
        let most = sum_terms (λ q. links_at 2 ino (fin.get tree.nodes q)) parent.parent dir (tree.last + 1) low low_dir beside in
        absurd (omega (arith, one, two, most, parent.one))
  ]

  empties : CanBeEmptied tree dir ino name x y old found.at found.slot
  empties = record {
    has = has;
    before = body;
    after = emptied_body name ino x.body old found body;
    mode = refl;
    late = omega (arith, not_first, not_second);
    stands = found.has;
    used = found.used;
    leads = found.leads;
    under = under;
    barren = barren;
  }

  shape_tree : IsShaped tree ino
  shape_tree = shape_of tree ino sound

  shape_first : IsShaped first ino
  shape_first = shape_emptied tree dir ino name x y old found.at found.slot shape_tree empties

  there_first : fin.get first.nodes ino ≡ Some w
  there_first = get_there tree.nodes dir y ino (λ e. apart (sym e)) ∙ there

  alone : links_past 2 first ino ≡ 0
  alone = omega (arith, links_emptied tree dir ino name x y old found.at found.slot shape_tree empties 2 (omega arith), parent.one)

  shape_next : IsShaped next ino
  shape_next = shape_gone first ino w own shape_first there_first folder under (barren_at first.nodes there_first) alone

  weight_first : (q : ℕ) → q ≢ ino → weight (leads_to q) (slice_get own 0) ≡ 0
  weight_first q other = let fails : nat_eq ino q ≡ false = grind (arith, nat_tests) in ap (weight (leads_to q)) slots_own.first ∙ ap (λ b. cond {A = ℕ} b 1 0) fails

  links_rest : (q : ℕ) → q ≢ 0 → q ≢ ino → links next q + weight (leads_to q) (slice_get own 1) ≡ links tree q
  links_rest q some other = omega (
    arith,
    links_gone first ino w own shape_first there_first folder under (barren_at first.nodes there_first) alone q some,
    weight_first q other,
    links_kept tree dir ino name x y old found.at found.slot shape_tree empties q some other,
  )

  links_dir : links next dir + 1 ≡ links tree dir
  links_dir =
      let passes : nat_eq parent.parent dir ≡ true = let is = parent_is in grind (arith, nat_tests) in
      let one : weight (leads_to dir) (slice_get own 1) ≡ 1 = ap (weight (leads_to dir)) parent.upward ∙ ap (λ b. cond {A = ℕ} b 1 0) passes in
      omega (arith, links_rest dir some_dir apart, one)

  links_others : (q : ℕ) → q ≢ 0 → q ≢ ino → q ≢ dir → links next q ≡ links tree q
  links_others q some other beside =
      let fails : nat_eq parent.parent q ≡ false = let is = parent_is in grind (arith, nat_tests) in
      let none : weight (leads_to q) (slice_get own 1) ≡ 0 = ap (weight (leads_to q)) parent.upward ∙ ap (λ b. cond {A = ℕ} b 1 0) fails in
      omega (arith, links_rest q some other, none)

  -- its link count is right and small
  abbrev IsCounted : ℕ → Node → Type 0
  IsCounted q node = (node.nlink ≡ links next q) × (node.nlink ≤ 32767)

  counted_dir : IsCounted dir y
  counted_dir =
      let ordinary = not_one tree sound dir x old has body in
      let counts = sound.counted dir x has ordinary in
      let few = sound.few dir x has ordinary in
      (omega (arith, counts, links_dir), omega (arith, few))

  not_ino : (q : ℕ) (node : Node) → fin.get next.nodes q ≡ Some node → q ≢ ino
  not_ino q node is e = none-some node (sym (gone_here first.nodes ino) ∙ sym (ap (fin.get next.nodes) e) ∙ is)

  counted : Each next (λ q node. q ≢ 1 → IsCounted q node)
  counted q node is ordinary =
      let other = not_ino q node is in
      let was : fin.get first.nodes q ≡ Some node = sym (gone_there first.nodes ino q other) ∙ is in
      elim (one_or_not q dir) [
        | inl at ↦ subst (λ i. IsCounted i node) (sym at) (subst (IsCounted dir) (same_node y node (fin.get first.nodes dir) (get_here tree.nodes dir y) (sym (ap (fin.get first.nodes) at) ∙ was)) counted_dir)
        | inr beside ↦
            let before : fin.get tree.nodes q ≡ Some node = sym (get_there tree.nodes dir y q beside) ∙ was in
            let some : q ≢ 0 = (λ e. absurd (omega (arith, e, (sound.numbers q node before).0))) in
            (sound.counted q node before ordinary ∙ sym (links_others q some other beside), sound.few q node before ordinary)
      ]

  pub removed_sound : cost next ≤ tree.cap → IsSound next
  removed_sound room = sound_of next ino shape_next (λ node slots is body below. absurd (not_ino ino node is refl)) counted room

  pub removed_is : changed_at (fin.remove tree.nodes ino) dir (without_link moment name) ≡ next.nodes
  removed_is = changed_is (fin.remove tree.nodes ino) dir (without_link moment name) x (gone_there tree.nodes ino dir apart ∙ has) ∙ gone_over tree.nodes ino dir y apart

pub remove_dir_kept : RemoveDirKept
remove_dir_kept dir name moment tree opens pick next sound fits h =
    let room = (after_op tree sound.room opens (RemoveDir dir name moment) pick).holds next h in
    let x = fits.parent in
    let w = fits.directory in
    let is = same_ok {A = Tree} _ next (subst (λ t. ◌≡◌ {A = Answer Tree} (Ok (remove_dir tree dir name moment t)) (Ok next)) fits.leads h) in
    let found = is_found x.slots name fits.ino (sym (number_by tree.nodes dir name x.node x.slots x.has x.body) ∙ fits.leads) in
    sound_at tree next _ _ (removed_is tree sound dir fits.ino name moment x.node w.node x.slots w.slots x.has x.body found fits.no_dots w.has w.body fits.empty) is room.0
    (removed_sound tree sound dir fits.ino name moment x.node w.node x.slots w.slots x.has x.body found fits.no_dots w.has w.body fits.empty)
