-- The scan's sixth part holds exactly where each directory has its parent and each inode its link count.
use Rattle.std.proofs.Common.{◌≡◌, ◌≢◌, ℕ, suc, zero, ◌<◌, ◌≤◌, List, [], ◌∷◌, Bool, true, false, not, ◌&&◌, ◌||◌, nat_eq, nat_le, if◌then◌else◌, length, Option, Some, None, slice_get, refl, sym, ap, subst, ◌∙◌, arith}
use Rattle.std.specs.FinMap as fin
use Rattle.std.proofs.lemmas.Bool.Decides.{nat_tests}
use Rattle.std.proofs.lemmas.Option.{same_Some}
use Rattle.mb_kinds.specs.Image.{Image}
use Rattle.mb_word.specs.Fields.{inode_block, inode_place, nlink_of}
use Rattle.mb_tree.specs.Blocks.{slot_in}
use Rattle.mb_tree.specs.Effect.{dot_dot}
use Rattle.mb_tree.specs.Inodes.{is_directory}
use Rattle.mb_tree.specs.Trees.{AreSlots, EachDirectory, HasParent, IsRoot, Reached, links, links_past}
use Rattle.mb_tree.specs.Volume.{last_inode}
use Rattle.mb_tree.specs.declared.nodes.Body.TheVariants.{Directory}
use Rattle.mb_tree.specs.declared.nodes.Node.{Node}
use Rattle.mb_tree.specs.declared.nodes.PlainSlot.{PlainSlot}
use Rattle.mb_tree.specs.declared.trees.Tree.{Tree}
use Rattle.mb_rules.specs.Items.{Item, Holds, each_from}
use Rattle.mb_rules.specs.Files.{mode_at}
use Rattle.mb_rules.specs.Parents.{all_to, has_parent, is_reached, is_top, late_from, late_to, link_items, parent_items, parents_items}
use Rattle.mb_rules.specs.ReachedLaws.{ShowsSlots}
use Rattle.mb_rules.proofs.ReachedTrees.{counts_links, late_leads, leads_late, reached_is}
use Rattle.mb_rules.proofs.Walks.{AllHold, both, each_hold, hold_append, hold_each, hold_left, hold_right}
use Rattle.mb_scan_laws.specs.Laws.{HasParents, ParentsAccept}
use Rattle.mb_scan_laws.specs.Shown.{IsShown}
use Rattle.mb_scan_laws.proofs.Modes.{HasNodes, node_in, node_used, none_free}
use Rattle.mb_scan_laws.proofs.RowsOf.{row_has}
use Rattle.mb_scan_laws.proofs.ShownDirectories.{IsListed, shown_nodes, listed, directory_has, directory_test, directory_two, directory_number}
use Rattle.mb_scan_laws.proofs.ShownTrees.{shows_slots}
use Rattle.mb_scan_laws.proofs.SlotRules.{and_both, there_to}
use Rattle.mb_scan_laws.proofs.WalkTests.{AreTests, tests_append, tests_each, walk_is}

eq_is : (a b : ℕ) → nat_eq a b ≡ true → a ≡ b
eq_is a b t = grind (arith, nat_tests)

is_eq : (a b : ℕ) → a ≡ b → nat_eq a b ≡ true
is_eq a b e = grind (arith, nat_tests)

not_eq : (a b : ℕ) → a ≢ b → nat_eq a b ≡ false
not_eq a b ne = grind (arith, nat_tests)

le_is : (a b : ℕ) → nat_le a b ≡ true → a ≤ b
le_is a b t = grind (arith, nat_tests)

is_le : (a b : ℕ) → a ≤ b → nat_le a b ≡ true
is_le a b h = grind (arith, nat_tests)

some_of : (n : ℕ) → not (nat_eq n 0) ≡ true → 0 < n
some_of zero t = absurd (cc)
some_of (suc n) t = omega arith

of_some : (n : ℕ) → 0 < n → not (nat_eq n 0) ≡ true
of_some n h = (let f : nat_eq n 0 ≡ false = not_eq n 0 (λ e. omega (arith, e, h)) in ap not f)

-- ---- the items by their tests

module _ (blocks : ℕ → List ℕ) where
  abbrev parent_by : ℕ → Bool → List Item
  parent_by ino directory = if directory then Holds (if nat_eq ino 2 then is_top blocks else has_parent blocks ino) (inode_block ino) 13 ∷ [] else []

  abbrev nlink : ℕ → ℕ
  nlink ino = nlink_of (blocks (inode_block ino)) (inode_place ino)

  abbrev link_by : ℕ → Bool → List Item
  link_by ino skipped = if skipped then [] else Holds (nat_eq (nlink ino) (all_to blocks ino) && nat_le (nlink ino) 32767) (inode_block ino) 14 ∷ []

  parent_tests : (ino : ℕ) (directory : Bool) → AreTests (parent_by ino directory)
  parent_tests ino true = tt
  parent_tests ino false = tt

  link_tests : (ino : ℕ) (skipped : Bool) → AreTests (link_by ino skipped)
  link_tests ino true = tt
  link_tests ino false = tt

  pub parents_tests : AreTests (parents_items blocks)
  parents_tests =
      tests_append (each_from (parent_items blocks) 1 (last_inode blocks)) (each_from (link_items blocks) 1 (last_inode blocks))
      (tests_each (parent_items blocks) 1 (last_inode blocks) (λ ino. parent_tests ino (is_directory (mode_at blocks ino))))
      (tests_each (link_items blocks) 1 (last_inode blocks) (λ ino. link_tests ino (nat_eq (mode_at blocks ino) 0 || nat_eq ino 1)))

module _ (image : Image) (tree : Tree) (chain : List ℕ) (shown : IsShown image tree chain) (slots_are : EachDirectory tree (AreSlots tree.nodes)) (root_is : is_directory (mode_at image.at 2) ≡ true) where
  nodes : HasNodes image.at tree
  nodes = shown_nodes image tree chain shown

  shows : ShowsSlots image.at tree
  shows = shows_slots image.at tree nodes

  low_numbers : (i : ℕ) (node : Node) → fin.get tree.nodes i ≡ Some node → i ≤ tree.last
  low_numbers i node has = (nodes.numbers i node has).1

  root_low : 2 ≤ last_inode image.at
  root_low = (let wide = shown.stored.sizes.some_inodes in omega (arith, wide))

  reached : (ino : ℕ) → 0 < ino → ino ≤ last_inode image.at → is_reached image.at (last_inode image.at) ino ≡ true → Reached tree.nodes ino
  reached ino some low h = (let l = nodes.last in let r = root_low in (reached_is image.at tree ino shows (omega (arith, l, r)) low_numbers some (omega (arith, l, low))).0 h)

  walked_to : (ino : ℕ) → 0 < ino → ino ≤ last_inode image.at → Reached tree.nodes ino → is_reached image.at (last_inode image.at) ino ≡ true
  walked_to ino some low h = (let l = nodes.last in let r = root_low in (reached_is image.at tree ino shows (omega (arith, l, r)) low_numbers some (omega (arith, l, low))).1 h)

  -- the number of a directory's `..`
  module _ (ino : ℕ) (node : Node) (slots : List PlainSlot) (has : fin.get tree.nodes ino ≡ Some node) (body : node.body ≡ Directory slots) where
    up_slot : slice_get slots 1 ≡ Some (slot_in image.at ino 1)
    up_slot =
        let two = directory_two image tree chain shown ino node slots has body in
        ap (λ xs. slice_get xs 1) (directory_has image tree chain shown ino node slots has body).each ∙ row_has (slot_in image.at ino) 0 (length slots) 1 (omega (arith, two))

    up_is : (parent : ℕ) → slice_get slots 1 ≡ Some (record { ino = parent; name = dot_dot }) → (slot_in image.at ino 1).ino ≡ parent
    up_is parent h = ap (λ s. s.ino) (same_Some (slot_in image.at ino 1) (record { ino = parent; name = dot_dot }) (sym up_slot ∙ h))

    up_low : (slots_are ino node slots has body).parent ≤ last_inode image.at
    up_low =
        let are = slots_are ino node slots has body in
        let used : nat_eq are.parent 0 ≡ false = not_eq are.parent 0 are.upward in
        let leads = are.leads 1 (record { ino = are.parent; name = dot_dot }) (record { has = are.second; used = ap not used }) in
        (there_to image.at tree nodes are.parent leads.1).0

    -- rule 13
    top_root : is_top image.at ≡ true → ino ≡ 2 → (slice_get slots 1 ≡ Some (record { ino = 2; name = dot_dot })) × (links_past 2 tree 2 ≡ 0)
    top_root t at =
        let two = both (nat_eq (slot_in image.at 2 1).ino 2) (nat_eq (late_to image.at 2) 0) t in
        let are = slots_are ino node slots has body in
        let up : are.parent ≡ 2 = sym (up_is are.parent are.second) ∙ ap (λ i. (slot_in image.at i 1).ino) at ∙ eq_is (slot_in image.at 2 1).ino 2 two.0 in
        (are.second ∙ ap (λ i. Some (record { ino = i; name = dot_dot })) up, (counts_links image.at tree shows 2).1 ∙ eq_is (late_to image.at 2) 0 two.1)

    root_top : ino ≡ 2 → slice_get slots 1 ≡ Some (record { ino = 2; name = dot_dot }) → links_past 2 tree 2 ≡ 0 → is_top image.at ≡ true
    root_top at up none =
        and_both (nat_eq (slot_in image.at 2 1).ino 2) (nat_eq (late_to image.at 2) 0) (is_eq (slot_in image.at 2 1).ino 2 (ap (λ i. (slot_in image.at i 1).ino) (sym at) ∙ up_is 2 up))
        (is_eq (late_to image.at 2) 0 (sym (counts_links image.at tree shows 2).1 ∙ none))

    parent_from : has_parent image.at ino ≡ true → HasParent tree ino slots
    parent_from t =
        let number = directory_number image tree chain shown ino node slots has body in
        let from = number.0 in
        let some : 0 < ino = omega (arith, from) in
        let one = nat_eq (late_to image.at ino) 1 in
        let up = not (nat_eq (late_from image.at ino (slot_in image.at ino 1).ino) 0) in
        let outer = both (one && up) (is_reached image.at (last_inode image.at) ino) t in
        let inner = both one up outer.0 in
        let are = slots_are ino node slots has body in
        let many : 0 < late_from image.at ino are.parent = subst (λ dir. 0 < late_from image.at ino dir) (up_is are.parent are.second) (some_of (late_from image.at ino (slot_in image.at ino 1).ino) inner.1) in
        let leads = late_leads image.at tree shows low_numbers ino are.parent some up_low many in
        record {
          one = (counts_links image.at tree shows ino).1 ∙ eq_is (late_to image.at ino) 1 inner.0;
          parent = are.parent;
          at = leads.0;
          upward = are.second;
          entry = leads.1;
          reached = reached ino some number.1 outer.1;
        }

    from_parent : HasParent tree ino slots → has_parent image.at ino ≡ true
    from_parent p =
        let number = directory_number image tree chain shown ino node slots has body in
        let from = number.0 in
        let one = is_eq (late_to image.at ino) 1 (sym (counts_links image.at tree shows ino).1 ∙ p.one) in
        let many : 0 < late_from image.at ino (slot_in image.at ino 1).ino =
        subst (λ dir. 0 < late_from image.at ino dir) (sym (up_is p.parent p.upward)) (leads_late image.at tree shows low_numbers p.parent p.at ino p.entry) in
        and_both (nat_eq (late_to image.at ino) 1 && not (nat_eq (late_from image.at ino (slot_in image.at ino 1).ino) 0)) (is_reached image.at (last_inode image.at) ino)
        (and_both (nat_eq (late_to image.at ino) 1) (not (nat_eq (late_from image.at ino (slot_in image.at ino 1).ino) 0)) one (of_some _ many))
        (walked_to ino (omega (arith, from)) number.1 p.reached)

  abbrev fit : ℕ → Bool
  fit ino = if nat_eq ino 2 then is_top image.at else has_parent image.at ino

  -- ---- from the tests

  module _ (all : AllHold (parents_items image.at)) where
    parents_all : AllHold (each_from (parent_items image.at) 1 (last_inode image.at))
    parents_all = hold_left (each_from (parent_items image.at) 1 (last_inode image.at)) (each_from (link_items image.at) 1 (last_inode image.at)) all

    links_all : AllHold (each_from (link_items image.at) 1 (last_inode image.at))
    links_all = hold_right (each_from (parent_items image.at) 1 (last_inode image.at)) (each_from (link_items image.at) 1 (last_inode image.at)) all

    fits_at : (ino : ℕ) → 1 ≤ ino → ino ≤ last_inode image.at → is_directory (mode_at image.at ino) ≡ true → fit ino ≡ true
    fits_at ino from low t =
        (subst (λ b. AllHold (parent_by image.at ino b)) t (hold_each (parent_items image.at) 1 (last_inode image.at) parents_all ino from (omega (arith, low)))).0

    root_from : IsRoot tree
    root_from =
        let at = listed image tree chain shown 2 root_low root_is in
        let top = top_root 2 at.node at.slots at.has at.body (fits_at 2 (omega arith) root_low root_is) refl in
        record { node = at.node; slots = at.slots; has = at.has; body = at.body; upward = top.0; top = top.1 }

    parents_from : EachDirectory tree (λ ino slots. ino ≢ 2 → HasParent tree ino slots)
    parents_from ino node slots has body off =
        let number = directory_number image tree chain shown ino node slots has body in
        parent_from ino node slots has body (subst (λ b. (if b then is_top image.at else has_parent image.at ino) ≡ true) (not_eq ino 2 off)
        (fits_at ino number.0 number.1 (directory_test image tree chain shown ino node slots has body)))

    link_at : (ino : ℕ) (node : Node) → fin.get tree.nodes ino ≡ Some node → ino ≢ 1 → (node.nlink ≡ links tree ino) × (node.nlink ≤ 32767)
    link_at ino node has off =
        let r = nodes.numbers ino node has in
        let low = r.1 in
        let l = nodes.last in
        let skip : (nat_eq (mode_at image.at ino) 0 || nat_eq ino 1) ≡ false = ap (λ b. b || nat_eq ino 1) (node_used image.at tree nodes ino node has) ∙ not_eq ino 1 off in
        let test = (subst (λ b. AllHold (link_by image.at ino b)) skip (hold_each (link_items image.at) 1 (last_inode image.at) links_all ino r.0 (omega (arith, low, l)))).0 in
        let two = both (nat_eq (nlink image.at ino) (all_to image.at ino)) (nat_le (nlink image.at ino) 32767) test in
        let is = (node_in image.at tree nodes ino node has).nlink in (
          sym is ∙ eq_is (nlink image.at ino) (all_to image.at ino) two.0 ∙ sym (counts_links image.at tree shows ino).0,
          subst (λ n. n ≤ 32767) is (le_is (nlink image.at ino) 32767 two.1),
        )

    pub parents_are : HasParents tree
    parents_are = record {
      root = root_from;
      parents = parents_from;
      counted = λ ino node has off. (link_at ino node has off).0;
      few = λ ino node has off. (link_at ino node has off).1;
    }

  -- ---- and to them

  module _ (are : HasParents tree) where
    fit_by : (ino : ℕ) → IsListed tree ino → (top : Bool) → nat_eq ino 2 ≡ top → (if top then is_top image.at else has_parent image.at ino) ≡ true
    fit_by ino at true t =
        let root = are.root in
        root_top 2 root.node root.slots root.has root.body refl root.upward root.top
    fit_by ino at false f = from_parent ino at.node at.slots at.has at.body (are.parents ino at.node at.slots at.has at.body (λ e. (let t : nat_eq ino 2 ≡ true = ap (λ n. nat_eq n 2) e in cc)))

    parent_by_test : (ino : ℕ) → ino ≤ last_inode image.at → (directory : Bool) → is_directory (mode_at image.at ino) ≡ directory → AllHold (parent_by image.at ino directory)
    parent_by_test ino low true t = (fit_by ino (listed image tree chain shown ino low t) (nat_eq ino 2) refl, tt)
    parent_by_test ino low false f = tt

    link_hold : (ino : ℕ) (node : Node) → fin.get tree.nodes ino ≡ Some node → ino ≢ 1 → (nat_eq (nlink image.at ino) (all_to image.at ino) && nat_le (nlink image.at ino) 32767) ≡ true
    link_hold ino node has off =
        let is = (node_in image.at tree nodes ino node has).nlink in
        and_both (nat_eq (nlink image.at ino) (all_to image.at ino)) (nat_le (nlink image.at ino) 32767)
        (is_eq (nlink image.at ino) (all_to image.at ino) (is ∙ are.counted ino node has off ∙ (counts_links image.at tree shows ino).0))
        (is_le (nlink image.at ino) 32767 (subst (λ n. n ≤ 32767) (sym is) (are.few ino node has off)))

    link_off : (a b : Bool) → (a || b) ≡ false → (a ≡ false) × (b ≡ false)
    link_off true b h = absurd (cc)
    link_off false b h = (refl, h)

    link_by_test : (ino : ℕ) (o : Option Node) → fin.get tree.nodes ino ≡ o → ino ≤ tree.last → (skipped : Bool) → (nat_eq (mode_at image.at ino) 0 || nat_eq ino 1) ≡ skipped → AllHold (link_by image.at ino skipped)
    link_by_test ino o e low true t = tt
    link_by_test ino None e low false f = absurd (let free : nat_eq (mode_at image.at ino) 0 ≡ true = ap (λ m. nat_eq m 0) (none_free image.at tree nodes ino low e) in let used = (link_off (nat_eq (mode_at image.at ino) 0) (nat_eq ino 1) f).0 in cc)
    link_by_test ino (Some node) e low false f =
        (link_hold ino node e (λ is. (let t : nat_eq ino 1 ≡ true = ap (λ n. nat_eq n 1) is in let off = (link_off (nat_eq (mode_at image.at ino) 0) (nat_eq ino 1) f).1 in cc)), tt)

    pub parents_hold : AllHold (parents_items image.at)
    parents_hold =
        let l = nodes.last in
        hold_append (each_from (parent_items image.at) 1 (last_inode image.at)) (each_from (link_items image.at) 1 (last_inode image.at))
        (each_hold (parent_items image.at) 1 (last_inode image.at) (λ ino from below. parent_by_test ino (omega (arith, below)) (is_directory (mode_at image.at ino)) refl))
        (each_hold (link_items image.at) 1 (last_inode image.at) (λ ino from below. link_by_test ino (fin.get tree.nodes ino) refl (omega (arith, below, l)) (nat_eq (mode_at image.at ino) 0 || nat_eq ino 1) refl))

pub parents_accept : ParentsAccept
parents_accept image tree chain met shown slots_are root_is =
    let is = walk_is met (parents_items image.at) (parents_tests image.at) in
    (λ h. parents_are image tree chain shown slots_are root_is (is.0 h), λ are. is.1 (parents_hold image tree chain shown slots_are root_is are))
