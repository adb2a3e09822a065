-- The tree of a fresh volume is sound, and costs one block.
use Rattle.std.proofs.Common.{ℕ, zero, suc, ◌≡◌, ◌≢◌, ◌⊎◌, inl, inr, ◌+◌, ◌<◌, ◌≤◌, false, List, [], ◌∷◌, replicate, Option, Some, None, slice_index, slice_get, refl, sym, ap, subst, ◌∙◌, arith}
use Rattle.std.specs.FinMap as fin
use Rattle.std.specs.FinMap.{get-empty}
use Rattle.std.specs.Ordering.{nat_cmp}
use Rattle.mb_tree.specs.Cost.{cost, cost_at, body_cost, index_blocks}
use Rattle.mb_tree.specs.Effect.{dot, dot_dot, first_slots}
use Rattle.mb_tree.specs.Rows.{is_dots}
use Rattle.mb_tree.specs.Trees.{AreSlots, HasKind, HasSize, IsName, IsSound, IsThere, links, links_at}
use Rattle.mb_tree.specs.declared.nodes.Body.{Body}
use Rattle.mb_tree.specs.declared.nodes.Body.TheVariants.{Directory}
use Rattle.mb_tree.specs.declared.nodes.Node.{Node}
use Rattle.mb_tree.specs.declared.nodes.PlainSlot.{PlainSlot}
use Rattle.mb_tree.specs.declared.trees.Tree.{Tree}
use Rattle.mb_tree.proofs.FiniteMaps.{get_here, get_there, one_or_not}
use Rattle.mb_tree.proofs.Sums.{sum_but, sum_nothing}
use Rattle.mb_tree.proofs.Groups.{no_blocks}
use Rattle.mb_nodes.specs.Fresh.{fresh_root, fresh_tree}

none_in : (n k : ℕ) → slice_index (replicate {A = ℕ} n 0) k ≡ 0
none_in zero k = refl
none_in (suc n) zero = refl
none_in (suc n) (suc k) = none_in n k

dot_bytes : (k : ℕ) → (slice_index dot k ≡ 46) ⊎ (slice_index dot k ≡ 0)
dot_bytes zero = inl refl
dot_bytes (suc k) = inr (none_in 13 k)

dot_padding : (k later : ℕ) → k ≤ later → slice_index dot k ≡ 0 → slice_index dot later ≡ 0
dot_padding zero later low e = absurd (let no : ◌≡◌ {A = ℕ} 46 0 = e in omega (arith, no))
dot_padding (suc k) zero low e = absurd (omega (arith, low))
dot_padding (suc k) (suc later) low e = none_in 13 later

dot_dot_bytes : (k : ℕ) → (slice_index dot_dot k ≡ 46) ⊎ (slice_index dot_dot k ≡ 0)
dot_dot_bytes zero = inl refl
dot_dot_bytes (suc zero) = inl refl
dot_dot_bytes (suc (suc k)) = inr (none_in 12 k)

dot_dot_padding : (k later : ℕ) → k ≤ later → slice_index dot_dot k ≡ 0 → slice_index dot_dot later ≡ 0
dot_dot_padding zero later low e = absurd (let no : ◌≡◌ {A = ℕ} 46 0 = e in omega (arith, no))
dot_dot_padding (suc zero) later low e = absurd (let no : ◌≡◌ {A = ℕ} 46 0 = e in omega (arith, no))
dot_dot_padding (suc (suc k)) zero low e = absurd (omega (arith, low))
dot_dot_padding (suc (suc k)) (suc zero) low e = absurd (omega (arith, low))
dot_dot_padding (suc (suc k)) (suc (suc later)) low e = none_in 12 later

name_dot : IsName dot
name_dot = record {
  full = refl;
  some = λ e. (let no : ◌≡◌ {A = ℕ} 46 0 = e in omega (arith, no));
  no_slash = λ k low e. elim (dot_bytes k) [ inl a ↦ (let no : ◌≡◌ {A = ℕ} 46 47 = sym a ∙ e in omega (arith, no)) | inr a ↦ (let no : ◌≡◌ {A = ℕ} 0 47 = sym a ∙ e in omega (arith, no)) ];
  padding = dot_padding;
}

name_dot_dot : IsName dot_dot
name_dot_dot = record {
  full = refl;
  some = λ e. (let no : ◌≡◌ {A = ℕ} 46 0 = e in omega (arith, no));
  no_slash = λ k low e. elim (dot_dot_bytes k) [ inl a ↦ (let no : ◌≡◌ {A = ℕ} 46 47 = sym a ∙ e in omega (arith, no)) | inr a ↦ (let no : ◌≡◌ {A = ℕ} 0 47 = sym a ∙ e in omega (arith, no)) ];
  padding = dot_dot_padding;
}

abbrev own : PlainSlot
own = record { ino = 2; name = dot }

abbrev above : PlainSlot
above = record { ino = 2; name = dot_dot }

each_first : (P : ℕ → PlainSlot → Type 0) → P 0 own → P 1 above → (at : ℕ) (slot : PlainSlot) → slice_get (first_slots 2 2) at ≡ Some slot → P at slot
each_first P one two zero slot e = let same : own ≡ slot = cc in subst (P 0) same one
each_first P one two (suc zero) slot e = let same : above ≡ slot = cc in subst (P 1) same two
each_first P one two (suc (suc at)) slot e = absurd (let no : ◌≡◌ {A = Option PlainSlot} None (Some slot) = e in cc)

not_same : dot ≢ dot_dot
not_same e = let no : ◌≡◌ {A = ℕ} 0 46 = ap (λ name. slice_index name 1) e in omega (arith, no)

one_name : (at other : ℕ) (slot twin : PlainSlot) → slice_get (first_slots 2 2) at ≡ Some slot → slice_get (first_slots 2 2) other ≡ Some twin → slot.name ≡ twin.name → at ≡ other
one_name at other slot twin u v =
    each_first (λ at slot. slot.name ≡ twin.name → at ≡ other)
    (each_first (λ other twin. dot ≡ twin.name → 0 ≡ other) (λ e. refl) (λ e. absurd (not_same e)) other twin v)
    (each_first (λ other twin. dot_dot ≡ twin.name → 1 ≡ other) (λ e. absurd (not_same (sym e))) (λ e. refl) other twin v)
    at slot u

module _ (isize fsize : ℕ) (some : 3 ≤ isize) (room : isize < fsize) where
  abbrev pub tree : Tree
  tree = fresh_tree isize fsize

  pub root_at : fin.get tree.nodes 2 ≡ Some fresh_root
  root_at = get_here fin.empty 2 fresh_root

  pub no_other : (ino : ℕ) → ino ≢ 2 → fin.get tree.nodes ino ≡ None
  no_other ino apart = get_there fin.empty 2 fresh_root ino apart ∙ get-empty nat_cmp ino

  pub found : (ino : ℕ) (node : Node) → fin.get tree.nodes ino ≡ Some node → (ino ≡ 2) × (fresh_root ≡ node)
  found ino node e = elim (one_or_not ino 2) [
    | inl is ↦ (is, (let same : ◌≡◌ {A = Option Node} (Some fresh_root) (Some node) = sym root_at ∙ sym (ap (fin.get tree.nodes) is) ∙ e in cc))
    | inr apart ↦ absurd (let no : ◌≡◌ {A = Option Node} None (Some node) = sym (no_other ino apart) ∙ e in cc)
  ]

  body_found : (node : Node) (slots : List PlainSlot) → fresh_root ≡ node → node.body ≡ Directory slots → first_slots 2 2 ≡ slots
  body_found node slots same body = let e : ◌≡◌ {A = Body} (Directory (first_slots 2 2)) (Directory slots) = ap (λ (n : Node). n.body) same ∙ body in cc

  root_cost : body_cost (Directory (first_slots 2 2)) ≡ 1
  root_cost =
      let same : index_blocks (0 ∷ []) ≡ index_blocks [] = refl in
      let none : 0 ≡ 0 + index_blocks [] = no_blocks in
      let zero_blocks : index_blocks (0 ∷ []) ≡ 0 = omega (arith, same, none) in
      ap (λ n. 1 + n) zero_blocks

  pub fresh_cost : cost tree ≡ 1
  fresh_cost =
      let moved = sum_but (λ k. 0) (λ k. cost_at (fin.get tree.nodes k)) 2 (tree.last + 1) (omega (arith, some)) (λ k apart. ap cost_at (no_other k apart)) in
      let none = sum_nothing (λ k. 0) (tree.last + 1) (λ k low. refl) in
      let here : cost_at (fin.get tree.nodes 2) ≡ 1 = ap cost_at root_at ∙ root_cost in
      omega (arith, moved, none, here)

  root_links : links tree 2 ≡ 2
  root_links =
      let moved = sum_but (λ k. 0) (λ k. links_at 0 2 (fin.get tree.nodes k)) 2 (tree.last + 1) (omega (arith, some)) (λ k apart. ap (links_at 0 2) (no_other k apart)) in
      let none = sum_nothing (λ k. 0) (tree.last + 1) (λ k low. refl) in
      let here : links_at 0 2 (fin.get tree.nodes 2) ≡ 2 = ap (links_at 0 2) root_at in
      omega (arith, moved, none, here)

  there : IsThere tree.nodes 2
  there = record { node = fresh_root; has = root_at }

  root_or_none : (k : ℕ) → (fin.get tree.nodes k ≡ Some fresh_root) ⊎ (fin.get tree.nodes k ≡ None)
  root_or_none k = elim (one_or_not k 2) [ inl is ↦ inl (ap (fin.get tree.nodes) is ∙ root_at) | inr apart ↦ inr (no_other k apart) ]

  slots_now : AreSlots tree.nodes 2 (first_slots 2 2)
  slots_now = record {
    first = refl;
    parent = 2;
    second = refl;
    upward = λ e. omega (arith, e);
    no_dots = λ at slot late u. each_first (λ at slot. 2 ≤ at → is_dots slot.name ≡ false) (λ late. absurd (omega (arith, late))) (λ late. absurd (omega (arith, late))) at slot u.has late;
    leads = λ at slot u. each_first (λ at slot. (slot.ino ≢ 1) × IsThere tree.nodes slot.ino) (λ e. omega (arith, e), there) (λ e. omega (arith, e), there) at slot u.has;
    names = λ at slot u. each_first (λ at slot. IsName slot.name) name_dot name_dot_dot at slot u.has;
    distinct = λ at other slot twin u v. one_name at other slot twin u.has v.has;
  }

  pub fresh_sound : IsSound tree
  fresh_sound = record {
    numbers = λ ino node e. (let f = found ino node e in let is = f.0 in (omega (arith, is), omega (arith, is, some)));
    kinds = λ ino node e. subst (λ (n : Node). HasKind n.mode n.body) (found ino node e).1 refl;
    sizes = λ ino node e. subst (λ (n : Node). HasSize n.body) (found ino node e).1 (omega arith);
    root = record {
      node = fresh_root;
      slots = first_slots 2 2;
      has = root_at;
      body = refl;
      upward = refl;
      top = sum_nothing _ (tree.last + 1) (λ k low. elim (root_or_none k) [ inl e ↦ rw e refl | inr e ↦ rw e refl ]);
    };
    slots = λ ino node slots e body.
        (let f = found ino node e in
        subst (λ i. AreSlots tree.nodes i slots) (sym f.0) (subst (AreSlots tree.nodes 2) (body_found node slots f.1 body) slots_now));
    parents = λ ino node slots e body apart. absurd (apart (found ino node e).0);
    counted = λ ino node e ordinary.
        (let f = found ino node e in
        subst (λ (n : Node). n.nlink ≡ links tree ino) f.1 (subst (λ i. ◌≡◌ {A = ℕ} 2 (links tree i)) (sym f.0) (sym root_links)));
    few = λ ino node e ordinary. subst (λ (n : Node). n.nlink ≤ 32767) (found ino node e).1 (omega arith);
    room = (let c = fresh_cost in omega (arith, c, room));
  }
