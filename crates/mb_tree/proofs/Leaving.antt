-- A name's slot emptied, and a leaf that loses a name.
use Rattle.std.proofs.Common.{◌≡◌, ◌≢◌, ◌⊎◌, inl, inr, ℕ, ◌+◌, ◌≤◌, Bool, true, false, cond, if◌then◌else◌, List, Option, Some, None, Ok, option_map, refl, sym, ap, subst, ◌∙◌, arith, nat_eq}
use Rattle.std.specs.Prelude.{slice_get, slice_set}
use Rattle.std.proofs.lemmas.Bool.Decides.{nat_tests}
use Rattle.std.proofs.lemmas.Option.{same_Some, slice_get_within}
use Rattle.std.specs.FinMap as fin
use Rattle.mb_tree.specs.Answers.{Answer}
use Rattle.mb_tree.specs.Maps.{Numbered, changed_at}
use Rattle.mb_tree.specs.Cost.{cost}
use Rattle.mb_tree.specs.Sessions.{Counts}
use Rattle.mb_tree.specs.Lookup.{is_used}
use Rattle.mb_tree.specs.Effect.{unlinked, on_slots, emptied, without_name, is_lost, less_name, delink, dot, dot_dot}
use Rattle.mb_tree.specs.Fits.{IsLeafAt}
use Rattle.mb_tree.specs.Trees.{AreSlots, leads_to, links_from, links_past, links, Each, IsSound}
use Rattle.mb_tree.specs.Laws.{IsUnled}
use Rattle.mb_tree.specs.NameLaws.{DelinkKept}
use Rattle.mb_tree.specs.declared.nodes.PlainSlot.{PlainSlot}
use Rattle.mb_tree.specs.declared.nodes.Node.{Node}
use Rattle.mb_tree.specs.declared.nodes.Body.{Body}
use Rattle.mb_tree.specs.declared.nodes.Body.TheVariants.{Directory}
use Rattle.mb_tree.specs.declared.trees.Tree.{Tree}
use Rattle.mb_tree.specs.declared.operations.FsOp.TheVariants.{Delink}
use Rattle.mb_tree.proofs.FiniteMaps.{get_here, get_there, gone_here, gone_there, one_or_not}
use Rattle.mb_tree.proofs.Always.{same_ok}
use Rattle.mb_tree.proofs.Cheaper.{after_op, cheaper_cost, cheaper_trans, cheaper_inserted, emptied_cost}
use Rattle.mb_tree.proofs.Dropped.{drop_kept, nameless, lost_nlink}
use Rattle.mb_tree.proofs.SlotLists.{weight, weight_one}
use Rattle.mb_tree.proofs.Rewritten.{IsFound, is_found, number_by, set_rewritten}
use Rattle.mb_tree.proofs.Shapes.{IsShaped, IsBarren, IsNoDirectory, CanBePut, barren_leaf, shape_of, sound_of, shape_put, links_put, no_links_leaf, same_node}
use Rattle.mb_tree.proofs.Slotted.{CanBeSlotted, shape_slotted, links_slotted, links_others}
use Rattle.mb_tree.proofs.NewNames.{changed_is, sound_at, leaf_of, no_slots, not_root}

-- an emptied slot keeps its name
abbrev pub vacant : List ℕ → PlainSlot
vacant name = record { ino = 0; name = name }

-- the slot of a name of the directory x, which becomes y, may be emptied
pub record CanBeEmptied (tree : Tree) (dir ino : ℕ) (name : List ℕ) (x y : Node) (old : List PlainSlot) (at : ℕ) (slot : PlainSlot) : Type 0 where
  pub has : fin.get tree.nodes dir ≡ Some x
  pub before : x.body ≡ Directory old
  pub after : y.body ≡ Directory (slice_set old at (vacant name))
  pub mode : y.mode ≡ x.mode
  pub late : 2 ≤ at
  pub stands : slice_get old at ≡ Some slot
  pub used : is_used slot ≡ true
  pub leads : slot.ino ≡ ino
  pub under : ino ≢ 2
  pub barren : IsBarren tree.nodes ino

module _ (tree : Tree) (dir ino : ℕ) (name : List ℕ) (x y : Node) (old : List PlainSlot) (at : ℕ) (slot : PlainSlot) (shape : IsShaped tree ino) (h : CanBeEmptied tree dir ino name x y old at slot) where
  abbrev less : Tree
  less = record tree { nodes = fin.insert tree.nodes dir y }

  abbrev rest : List PlainSlot
  rest = slice_set old at (vacant name)

  same_slot : (s : PlainSlot) → slice_get old at ≡ Some s → s.ino ≡ ino
  same_slot s has = let same : slot ≡ s = same_Some slot s (sym h.stands ∙ has) in ap (λ (s : PlainSlot). s.ino) (sym same) ∙ h.leads

  fits : CanBeSlotted tree dir ino x y old rest at (vacant name)
  fits = record {
    has = h.has;
    before = h.before;
    after = h.after;
    mode = h.mode;
    rewritten = set_rewritten old at (vacant name) h.late (slice_get_within old at slot h.stands);
    under = h.under;
    barren = h.barren;
    was = λ s has used. same_slot s has;
    is = λ used. absurd (let no : false ≡ true = used in cc);
    stands = λ used. absurd (let no : false ≡ true = used in cc);
  }

  pub shape_emptied : IsShaped less ino
  shape_emptied = shape_slotted tree dir ino x y old rest at (vacant name) shape fits

  some_ino : ino ≢ 0
  some_ino e =
      let zero_there : slot.ino ≡ 0 = h.leads ∙ e in
      let unused : is_used slot ≡ false = grind (arith, nat_tests) in
      let used = h.used in
      cc

  weight_old : weight (leads_to ino) (slice_get old at) ≡ 1
  weight_old =
      let is = h.leads in
      let passes : leads_to ino slot ≡ true = grind (arith, nat_tests) in
      weight_one (leads_to ino) (slice_get old at) slot h.stands passes

  weight_new : weight (leads_to ino) (Some (vacant name)) ≡ 0
  weight_new =
      let some = some_ino in
      let fails : nat_eq 0 ino ≡ false = grind (arith, nat_tests) in
      ap (λ b. cond {A = ℕ} b 1 0) fails

  pub links_emptied : (skip : ℕ) → skip ≤ 2 → links_past skip less ino + 1 ≡ links_past skip tree ino
  links_emptied skip few = omega (arith, links_slotted tree dir ino x y old rest at (vacant name) shape fits skip ino few, weight_old, weight_new)

  pub links_kept : (q : ℕ) → q ≢ 0 → q ≢ ino → links less q ≡ links tree q
  links_kept q some other = links_others tree dir ino x y old rest at (vacant name) shape fits 0 q (omega arith) some other

-- ---- a leaf that loses a name

pub emptied_body : (name : List ℕ) (ino : ℕ) (body : Body) (old : List PlainSlot) (found : IsFound old name ino) → body ≡ Directory old → on_slots (emptied name) body ≡ Directory (slice_set old found.at (vacant name))
emptied_body name ino body old found e = ap (on_slots (emptied name)) e ∙ ap Directory found.is

module _ (tree : Tree) (sound : IsSound tree) (dir ino : ℕ) (name : List ℕ) (moment : ℕ) (x : Node) (old : List PlainSlot) (has : fin.get tree.nodes dir ≡ Some x) (body : x.body ≡ Directory old) (found : IsFound old name ino) (leaf : IsLeafAt tree.nodes ino) where
  abbrev y : Node
  y = without_name moment name x

  abbrev z : Node
  z = unlinked moment leaf.node

  abbrev first : Tree
  first = record tree { nodes = fin.insert tree.nodes dir y }

  abbrev next : Tree
  next = record tree { nodes = fin.insert first.nodes ino z }

  no_directory : IsNoDirectory tree.nodes ino
  no_directory = leaf_of tree.nodes ino leaf

  slots_old : AreSlots tree.nodes dir old
  slots_old = sound.slots dir x old has body

  same_number : (at : ℕ) (s : PlainSlot) → found.at ≡ at → slice_get old at ≡ Some s → ino ≡ s.ino
  same_number at s e stands = let same : found.slot ≡ s = same_Some found.slot s (sym found.has ∙ ap (slice_get old) e ∙ stands) in sym found.leads ∙ ap (λ (s : PlainSlot). s.ino) same

  -- the first two slots lead to directories
  not_first : found.at ≢ 0
  not_first e = no_directory x old (ap (fin.get tree.nodes) (same_number 0 (record { ino = dir; name = dot }) e slots_old.first) ∙ has) body

  not_second : found.at ≢ 1
  not_second e = elim (one_or_not dir 2) [
    | inl is ↦
        let r = sound.root in
        let node_is : x ≡ r.node = same_Some x r.node (sym has ∙ ap (fin.get tree.nodes) is ∙ r.has) in
        let slots_are : old ≡ r.slots = let o : ◌≡◌ {A = Body} (Directory old) (Directory r.slots) = sym body ∙ ap (λ (n : Node). n.body) node_is ∙ r.body in cc in
        not_root tree sound ino no_directory (same_number 1 (record { ino = 2; name = dot_dot }) e (ap (λ s. slice_get s 1) slots_are ∙ r.upward))
    | inr below ↦
        let p = sound.parents dir x old has body below in
        no_directory p.entry.node p.entry.slots (ap (fin.get tree.nodes) (same_number 1 (record { ino = p.parent; name = dot_dot }) e p.upward) ∙ p.entry.has) p.entry.body
  ]

  empties : CanBeEmptied tree dir ino name x y old found.at found.slot
  empties = record {
    has = has;
    before = body;
    after = emptied_body name ino x.body old found body;
    mode = refl;
    late = omega (arith, not_first, not_second);
    stands = found.has;
    used = found.used;
    leads = found.leads;
    under = not_root tree sound ino no_directory;
    barren = barren_leaf tree.nodes ino no_directory;
  }

  apart : dir ≢ ino
  apart e = no_directory x old (sym (ap (fin.get tree.nodes) e) ∙ has) body

  beside : ino ≢ dir
  beside e = apart (sym e)

  shape_first : IsShaped first ino
  shape_first = shape_emptied tree dir ino name x y old found.at found.slot (shape_of tree ino sound) empties

  has_leaf : fin.get first.nodes ino ≡ Some leaf.node
  has_leaf = get_there tree.nodes dir y ino beside ∙ leaf.has

  leaf_first : IsNoDirectory first.nodes ino
  leaf_first node slots there is = no_directory node slots (sym (get_there tree.nodes dir y ino beside) ∙ there) is

  puts : CanBePut first ino z
  puts = record {
    low = (sound.numbers ino leaf.node leaf.has).0;
    high = (sound.numbers ino leaf.node leaf.has).1;
    under = not_root tree sound ino no_directory;
    leaf = leaf_first;
    kind = sound.kinds ino leaf.node leaf.has;
    size = sound.sizes ino leaf.node leaf.has;
    slots = λ slots is. absurd (no_slots leaf.node.body slots leaf.body is);
    late = λ q. no_links_leaf 2 q leaf.node.body (λ slots is. no_slots leaf.node.body slots leaf.body is);
  }

  shape_next : IsShaped next ino
  shape_next = shape_put first ino z shape_first puts

  none_from : (q : ℕ) → links_from 0 q leaf.node.body ≡ 0
  none_from q = no_links_leaf 0 q leaf.node.body (λ slots is. no_slots leaf.node.body slots leaf.body is)

  links_target : links next ino + 1 ≡ links tree ino
  links_target = omega (arith, links_put first ino z shape_first puts 0 ino, none_from ino, links_emptied tree dir ino name x y old found.at found.slot (shape_of tree ino sound) empties 0 (omega arith))

  links_rest : (q : ℕ) → q ≢ 0 → q ≢ ino → links next q ≡ links tree q
  links_rest q some other = omega (arith, links_put first ino z shape_first puts 0 q, none_from q, links_kept tree dir ino name x y old found.at found.slot (shape_of tree ino sound) empties q some other)

  -- its link count is right and small
  abbrev IsCounted : ℕ → Node → Type 0
  IsCounted q node = (node.nlink ≡ links next q) × (node.nlink ≤ 32767)

  counted_leaf : ino ≢ 1 → IsCounted ino z
  counted_leaf ordinary = let few = sound.few ino leaf.node leaf.has ordinary in (omega (arith, links_target, sound.counted ino leaf.node leaf.has ordinary), omega (arith, few))

  counted_rest : (q : ℕ) (node : Node) → fin.get tree.nodes q ≡ Some node → q ≢ ino → q ≢ 1 → IsCounted q node
  counted_rest q node there other ordinary =
      let some : q ≢ 0 = (λ e. absurd (omega (arith, e, (sound.numbers q node there).0))) in
      (omega (arith, sound.counted q node there ordinary, links_rest q some other), sound.few q node there ordinary)

  counted : Each next (λ q node. q ≢ 1 → IsCounted q node)
  counted q node there ordinary = elim (one_or_not q ino) [
    | inl is ↦ subst (λ i. IsCounted i node) (sym is) (subst (IsCounted ino) (same_node z node (fin.get next.nodes ino) (get_here first.nodes ino z) (sym (ap (fin.get next.nodes) is) ∙ there)) (counted_leaf (λ e. ordinary (is ∙ e))))
    | inr other ↦ elim (one_or_not q dir) [
      | inl is ↦
          let now : fin.get next.nodes dir ≡ Some y = get_there first.nodes ino z dir apart ∙ get_here tree.nodes dir y in
          let same = same_node y node (fin.get next.nodes dir) now (sym (ap (fin.get next.nodes) is) ∙ there) in
          let one : IsCounted dir x = counted_rest dir x has apart (λ e. ordinary (is ∙ e)) in
          subst (λ i. IsCounted i node) (sym is) (subst (IsCounted dir) same one)
      | inr away ↦ counted_rest q node (sym (get_there tree.nodes dir y q away) ∙ sym (get_there first.nodes ino z q other) ∙ there) other ordinary
    ]
  ]

  room_next : cost next ≤ tree.cap
  room_next =
      let one = cheaper_inserted tree.nodes dir x y has (emptied_cost name x.body) in
      let two = cheaper_inserted first.nodes ino leaf.node z has_leaf (omega arith) in
      let all = cheaper_cost tree next.nodes (cheaper_trans next.nodes first.nodes tree.nodes two one) in
      omega (arith, all, sound.room)

  sound_next : IsSound next
  sound_next = sound_of next ino shape_next (λ node slots there is below. absurd (no_slots leaf.node.body slots leaf.body (ap (λ (n : Node). n.body) (same_node z node (fin.get next.nodes ino) (get_here first.nodes ino z) there) ∙ is))) counted room_next

  drops : z.nlink ≡ 0 → (q : ℕ) → (fin.get (fin.remove first.nodes ino) q ≡ fin.get next.nodes q) ⊎ ((fin.get (fin.remove first.nodes ino) q ≡ None) × IsUnled next q)
  drops none q = elim (one_or_not q ino) [
    | inl is ↦ inr (ap (fin.get (fin.remove first.nodes ino)) is ∙ gone_here first.nodes ino, subst (IsUnled next) (sym is) (nameless next sound_next ino z (get_here first.nodes ino z) none))
    | inr other ↦ inl (gone_there first.nodes ino q other ∙ sym (get_there first.nodes ino z q other))
  ]

  abbrev after : Bool → Tree
  after lost = record tree { nodes = if lost then fin.remove first.nodes ino else changed_at first.nodes ino (unlinked moment) }

  pub delinked_sound : (opens : Counts) → cost (record tree { nodes = less_name first.nodes opens moment ino }) ≤ tree.cap → IsSound (record tree { nodes = less_name first.nodes opens moment ino })
  delinked_sound opens = elim (is_lost opens ino (option_map (unlinked moment) (fin.get first.nodes ino))) as (λ b. is_lost opens ino (option_map (unlinked moment) (fin.get first.nodes ino)) ≡ b → cost (after b) ≤ tree.cap → IsSound (after b)) [
    | true ↦ λ e room.
        let none = lost_nlink next sound_next opens ino z (sym (ap (λ (o : Option Node). is_lost opens ino (option_map (unlinked moment) o)) has_leaf) ∙ e) in
        drop_kept next (fin.remove first.nodes ino) sound_next (drops none) room
    | false ↦ λ e room. subst (λ (n : Numbered Node). IsSound (record tree { nodes = n })) (sym (changed_is first.nodes ino (unlinked moment) leaf.node has_leaf)) sound_next
  ] refl

pub delink_kept : DelinkKept
delink_kept dir name moment tree opens pick next sound fits h =
    let room = (after_op tree sound.room opens (Delink dir name moment) pick).holds next h in
    let x = fits.directory in
    let is = same_ok {A = Tree} _ next (subst (λ t. ◌≡◌ {A = Answer Tree} (Ok (delink tree opens dir name moment t)) (Ok next)) fits.leads h) in
    let found = is_found x.slots name fits.ino (sym (number_by tree.nodes dir name x.node x.slots x.has x.body) ∙ fits.leads) in
    let nodes : Numbered Node = less_name (changed_at tree.nodes dir (without_name moment name)) opens moment fits.ino in
    let made : Numbered Node = less_name (fin.insert tree.nodes dir (without_name moment name x.node)) opens moment fits.ino in
    sound_at tree next nodes made (ap (λ n. less_name n opens moment fits.ino) (changed_is tree.nodes dir (without_name moment name) x.node x.has)) is room.0
    (delinked_sound tree sound dir fits.ino name moment x.node x.slots x.has x.body found fits.leaf opens)
