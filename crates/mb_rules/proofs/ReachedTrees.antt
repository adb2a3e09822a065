-- Links of a tree by the slots that the bytes show, and what its root leads to.
use Rattle.std.proofs.Common.{◌≡◌, ◌⊎◌, inl, inr, ℕ, zero, suc, ◌+◌, ◌<◌, ◌≤◌, List, [], ◌∷◌, Bool, true, false, not, ◌||◌, ◌&&◌, nat_eq, cond, Option, Some, None, slice_get, count_by, drop, length, refl, sym, ap, subst, ◌∙◌, arith}
use Rattle.std.specs.FinMap as fin
use Rattle.std.proofs.lemmas.Bool.Decides.{nat_tests}
use Rattle.std.proofs.Math.Seq.{drop-nil}
use Rattle.std.proofs.lemmas.List.Sums.{sum_by-cons}
use Rattle.mb_tree.specs.Counting.{sum_below}
use Rattle.mb_tree.specs.Lookup.{is_used}
use Rattle.mb_tree.specs.Trees.{Reached, root, down, Leads, leads_to, links_from, links_at, links_past}
use Rattle.mb_tree.specs.Volume.{last_inode}
use Rattle.mb_tree.specs.declared.nodes.PlainSlot.{PlainSlot}
use Rattle.mb_tree.specs.declared.nodes.Node.{Node}
use Rattle.mb_tree.specs.declared.nodes.Body.{Body}
use Rattle.mb_tree.specs.declared.nodes.Body.TheVariants.{Regular, Directory, Special}
use Rattle.mb_tree.specs.declared.trees.Tree.{Tree}
use Rattle.mb_tree.proofs.Sums.{sum_same}
use Rattle.mb_tree.proofs.SlotLists.{weight, count_some, weight_one}
use Rattle.mb_rules.specs.Slots.{slots_at}
use Rattle.mb_rules.specs.Parents.{late_from, is_reached}
use Rattle.mb_rules.specs.ReachedLaws.{body_slots, node_slots, ShowsSlots, CountsLinks, ReachedIs}
use Rattle.mb_rules.proofs.Files.{found_from}
use Rattle.mb_rules.proofs.FilesAccepted.{found_yes}
use Rattle.mb_rules.proofs.Reaching.{within_most}

body_links : (skip ino : ℕ) (body : Body) → links_from skip ino body ≡ count_by (leads_to ino) (drop skip (body_slots body))
body_links skip ino (Regular size parts) = ap (count_by (leads_to ino)) (sym (drop-nil skip))
body_links skip ino (Directory slots) = refl
body_links skip ino (Special size area) = ap (count_by (leads_to ino)) (sym (drop-nil skip))

node_links : (skip ino : ℕ) (o : Option Node) → links_at skip ino o ≡ count_by (leads_to ino) (drop skip (node_slots o))
node_links skip ino None = ap (count_by (leads_to ino)) (sym (drop-nil skip))
node_links skip ino (Some node) = body_links skip ino node.body

-- the links of the tree are those of the slots that the bytes show, with as many slots skipped
links_shown : (skip : ℕ) (blocks : ℕ → List ℕ) (tree : Tree) → ShowsSlots blocks tree → (ino : ℕ)
    → links_past skip tree ino ≡ sum_below (λ dir. count_by (leads_to ino) (drop skip (slots_at blocks dir))) (last_inode blocks + 1)
links_shown skip blocks tree shows ino =
    ap (sum_below (λ dir. links_at skip ino (fin.get tree.nodes dir))) (ap (λ n. n + 1) shows.last)
    ∙ sum_same (λ dir. count_by (leads_to ino) (drop skip (slots_at blocks dir))) (λ dir. links_at skip ino (fin.get tree.nodes dir)) (last_inode blocks + 1)
    (λ dir small. node_links skip ino (fin.get tree.nodes dir) ∙ ap (λ slots. count_by (leads_to ino) (drop skip slots)) (shows.slots dir (omega (arith, small))))

pub counts_links : CountsLinks
counts_links blocks tree shows ino = (links_shown 0 blocks tree shows ino, links_shown 2 blocks tree shows ino)

-- a place among those that are counted
pub record Counted (p : PlainSlot → Bool) (xs : List PlainSlot) : Type 0 where
  pub at : ℕ
  pub slot : PlainSlot
  pub here : slice_get xs at ≡ Some slot
  pub passes : p slot ≡ true

counted_in : (p : PlainSlot → Bool) (xs : List PlainSlot) → 0 < count_by p xs → Counted p xs
counted_in p [] h = absurd (omega arith)
counted_in p (x ∷ xs) h =
    elim (p x) as (λ b. p x ≡ b → Counted p (x ∷ xs)) [
      | true ↦ λ e. record { at = 0; slot = x; here = refl; passes = e }
      | false ↦ λ e.
          let rest : 0 < count_by p xs = (let cons : count_by p (x ∷ xs) ≡ weight p (Some x) + count_by p xs = sum_by-cons (λ y. cond {A = ℕ} (p y) 1 0) x xs in let none : weight p (Some x) ≡ 0 = rw e refl in omega arith) in
          let more = counted_in p xs rest in
          record { at = suc more.at; slot = more.slot; here = more.here; passes = more.passes }
    ] refl

-- a place after the second
late_in : (p : PlainSlot → Bool) (xs : List PlainSlot) → 0 < count_by p (drop 2 xs) → (at : ℕ) × (slot : PlainSlot) × (2 ≤ at) × (slice_get xs at ≡ Some slot) × (p slot ≡ true)
late_in p [] h = absurd (omega arith)
late_in p (x ∷ []) h = absurd (omega arith)
late_in p (x ∷ y ∷ xs) h =
    let one = counted_in p xs h in
    (suc (suc one.at), one.slot, omega arith, one.here, one.passes)

-- the slots of a node that has some are those of a directory
pub record HasSlots (o : Option Node) : Type 0 where
  pub node : Node
  pub slots : List PlainSlot
  pub has : o ≡ Some node
  pub body : node.body ≡ Directory slots

body_is : (node : Node) (body : Body) → node.body ≡ body → 0 < length (body_slots body) → (slots : List PlainSlot) × (node.body ≡ Directory slots)
body_is node (Regular size parts) e h = absurd (omega arith)
body_is node (Directory slots) e h = (slots, e)
body_is node (Special size area) e h = absurd (omega arith)

has_slots : (o : Option Node) → 0 < length (node_slots o) → HasSlots o
has_slots None h = absurd (omega arith)
has_slots (Some node) h = let found = body_is node node.body refl h in record { node = node; slots = found.0; has = refl; body = found.1 }

longer : (p : PlainSlot → Bool) (xs : List PlainSlot) → 0 < count_by p (drop 2 xs) → 0 < length xs
longer p [] h = absurd (omega arith)
longer p (x ∷ xs) h = omega arith

or_right : (a b : Bool) → b ≡ true → (a || b) ≡ true
or_right true b h = refl
or_right false b h = h

or_true : (a b : Bool) → (a || b) ≡ true → (a ≡ true) ⊎ (b ≡ true)
or_true true b h = inl refl
or_true false b h = inr h

both : (a b : Bool) → (a && b) ≡ true → (a ≡ true) × (b ≡ true)
both true b h = (refl, h)
both false b h = absurd (cc)

none_at_zero : (blocks : ℕ → List ℕ) → slots_at blocks 0 ≡ []
unfolding slots_at
none_at_zero blocks = refl

low_dir : (blocks : ℕ → List ℕ) (ino dir : ℕ) → 0 < late_from blocks ino dir → 0 < dir
low_dir blocks ino zero many = absurd (let none : 0 < count_by (leads_to ino) (drop 2 []) = subst (λ slots. 0 < count_by (leads_to ino) (drop 2 slots)) (none_at_zero blocks) many in omega arith)
low_dir blocks ino (suc dir) many = omega arith

some_late : (n : ℕ) → not (nat_eq n 0) ≡ true → 0 < n
some_late zero h = absurd (cc)
some_late (suc n) h = omega arith

module _ (blocks : ℕ → List ℕ) (tree : Tree) (shows : ShowsSlots blocks tree) (numbers : (i : ℕ) (node : Node) → fin.get tree.nodes i ≡ Some node → i ≤ tree.last) where
  slots_of_node : (dir : ℕ) (node : Node) (slots : List PlainSlot) → fin.get tree.nodes dir ≡ Some node → node.body ≡ Directory slots → slots ≡ slots_at blocks dir
  slots_of_node dir node slots has body = sym (ap body_slots body) ∙ sym (ap node_slots has) ∙ shows.slots dir (let low = numbers dir node has in let same = shows.last in omega (arith, low, same))

  pub leads_late : (dir at ino : ℕ) → Leads tree.nodes dir at ino → 0 < late_from blocks ino dir
  leads_late dir at ino leads =
      let same = slots_of_node dir leads.node leads.slots leads.has leads.body in
      let to : leads_to ino leads.slot ≡ true = (let is = leads.leads in grind (arith, nat_tests)) in
      let one = weight_one (leads_to ino) (slice_get leads.slots at) leads.slot leads.entry.has to in
      let some = count_some (leads_to ino) 2 leads.slots at leads.late in
      subst (λ slots. 0 < count_by (leads_to ino) (drop 2 slots)) same (omega arith)

  -- and where such a slot is shown, a directory has it
  pub late_leads : (ino dir : ℕ) → 0 < ino → dir ≤ last_inode blocks → 0 < late_from blocks ino dir → (at : ℕ) × Leads tree.nodes dir at ino
  late_leads ino dir some low many =
      let shown : 0 < count_by (leads_to ino) (drop 2 (node_slots (fin.get tree.nodes dir))) = subst (λ slots. 0 < count_by (leads_to ino) (drop 2 slots)) (sym (shows.slots dir low)) many in
      let node = has_slots (fin.get tree.nodes dir) (longer (leads_to ino) _ shown) in
      let same = slots_of_node dir node.node node.slots node.has node.body in
      let place = late_in (leads_to ino) node.slots (subst (λ slots. 0 < count_by (leads_to ino) (drop 2 slots)) (sym same) many) in
      let leads : place.1.ino ≡ ino = (let test = place.4 in grind (arith, nat_tests)) in
      let used : is_used place.1 ≡ true = (let no_hole : nat_eq place.1.ino 0 ≡ false = grind (arith, nat_tests) in rw no_hole refl) in
      (place.0, record { node = node.node; slots = node.slots; slot = place.1; has = node.has; body = node.body; late = place.2; entry = record { has = place.3; used = used }; leads = leads })

  reached_walks : (ino : ℕ) → Reached tree.nodes ino → (steps : ℕ) × (is_reached blocks steps ino ≡ true)
  unfolding is_reached
  reached_walks _ root = (0, grind (arith, nat_tests))
  reached_walks ino (down dir at before leads) =
      let up = reached_walks dir before in
      let low = numbers dir leads.node leads.has in
      let same = shows.last in
      let late = leads_late dir at ino leads in
      let test : nat_eq (late_from blocks ino dir) 0 ≡ false = grind (arith, nat_tests) in
      let passes : (is_reached blocks up.0 dir && not (nat_eq (late_from blocks ino dir) 0)) ≡ true = rw (up.1, test) refl in
      let found = found_yes (λ d. is_reached blocks up.0 d && not (nat_eq (late_from blocks ino d) 0)) 0 (last_inode blocks + 1) dir (omega arith) (omega arith) passes in
      (suc up.0, or_right (is_reached blocks up.0 ino) _ found)

  walks_reached : (steps ino : ℕ) → 0 < ino → is_reached blocks steps ino ≡ true → Reached tree.nodes ino
  unfolding is_reached
  walks_reached zero ino some h = let is : 2 ≡ ino = grind (arith, nat_tests) in subst (Reached tree.nodes) is root
  walks_reached (suc steps) ino some h =
      elim (or_true (is_reached blocks steps ino) _ h) [
        | inl before ↦ walks_reached steps ino some before
        | inr later ↦
            let found = found_from (λ d. is_reached blocks steps d && not (nat_eq (late_from blocks ino d) 0)) 0 (last_inode blocks + 1) later in
            let dir : ℕ = found.0 in
            let two = both (is_reached blocks steps dir) (not (nat_eq (late_from blocks ino dir) 0)) found.3 in
            let many : 0 < late_from blocks ino dir = some_late (late_from blocks ino dir) two.1 in
            let place = late_leads ino dir some (let below = found.2 in omega (arith, below)) many in
            down dir place.0 (walks_reached steps dir (low_dir blocks ino dir many) two.0) place.1
      ]

pub reached_is : ReachedIs
reached_is blocks tree ino shows root_in numbers some small = (
  λ h. walks_reached blocks tree shows numbers (last_inode blocks) ino some h,
  λ h. let walk = reached_walks blocks tree shows numbers ino h in let same = shows.last in within_most blocks walk.0 ino (omega arith) (omega arith) walk.1,
)
