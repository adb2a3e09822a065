-- What an inode more costs does not depend on its number.
use Rattle.std.proofs.Common.{List, [], ◌∷◌, ◌++◌, ℕ, ◌+◌, ◌≡◌, ◌≢◌, ◌≤◌, Bool, true, false, not, Option, Some, None, Ok, Err, option_map, unwrap_or, length, length-append, refl, ap, sym, ◌∙◌, arith}
use Rattle.std.proofs.lemmas.List.{length-set}
use Rattle.std.specs.Prelude.{nat_le, nat_lt, position, slice_set, bit_or}
use Rattle.std.specs.FinMap as fin
use Rattle.mb_kinds.specs.declared.errors.Errno.{Errno}
use Rattle.mb_kinds.specs.declared.errors.Errno.TheVariants.{EMLINK, ENOSPC}
use Rattle.mb_tree.specs.Answers.{◌>>◌, need}
use Rattle.mb_tree.specs.Cost.{body_cost, cost, cost_at, first_parts, index_blocks, parts_for}
use Rattle.mb_tree.specs.Effect.{create, entered, first_slots, fitting, made, make_dir, nlink_in, on_slots, with_link, with_name}
use Rattle.mb_tree.specs.Lookup.{is_used}
use Rattle.mb_tree.specs.Maps.{changed_at}
use Rattle.mb_tree.specs.Step.{IsFreeNumber}
use Rattle.mb_tree.specs.declared.nodes.Body.{Body}
use Rattle.mb_tree.specs.declared.nodes.Body.TheVariants.{Regular, Directory, Special}
use Rattle.mb_tree.specs.declared.nodes.Node.{Node}
use Rattle.mb_tree.specs.declared.nodes.PlainSlot.{PlainSlot}
use Rattle.mb_tree.specs.declared.trees.Tree.{Tree}
use Rattle.mb_tree.proofs.FiniteMaps.{get_there}
use Rattle.mb_tree.proofs.NewNames.{changed_is}
use Rattle.mb_tree.proofs.Sums.{sum_put}

-- a name entered makes a list of slots as long, whatever number it leads to
entered_at : (name : List ℕ) (a b : ℕ) (slots : List PlainSlot) (o : Option ℕ)
    → length (unwrap_or (option_map (λ at. slice_set slots at (record { ino = a; name = name })) o) (slots ++ (record { ino = a; name = name }) ∷ []))
    ≡ length (unwrap_or (option_map (λ at. slice_set slots at (record { ino = b; name = name })) o) (slots ++ (record { ino = b; name = name }) ∷ []))
entered_at name a b slots None = rw (length-append, length-append) refl
entered_at name a b slots (Some at) = length-set slots at _ ∙ sym (length-set slots at _)

entered_long : (name : List ℕ) (a b : ℕ) (slots : List PlainSlot) → length (entered name a slots) ≡ length (entered name b slots)
entered_long name a b slots = entered_at name a b slots (position (λ (other : PlainSlot). not (is_used other)) slots)

pub named_cost : (name : List ℕ) (a b : ℕ) (body : Body) → body_cost (on_slots (entered name a) body) ≡ body_cost (on_slots (entered name b) body)
named_cost name a b (Regular size parts) = refl
named_cost name a b (Directory slots) = ap (λ n. length (first_parts (parts_for n)) + index_blocks (first_parts (parts_for n))) (entered_long name a b slots)
named_cost name a b (Special size area) = refl

-- the cost of a tree with an inode more, whose directory changed
module _ (tree : Tree) (dir : ℕ) (node : Node) (has : fin.get tree.nodes dir ≡ Some node) (low : dir ≤ tree.last) where
  apart_from : (ino : ℕ) → IsFreeNumber tree ino → ino ≢ dir
  apart_from ino free same = let no : None ≡ Some node = sym free.unused ∙ ap (fin.get tree.nodes) same ∙ has in none_some node no
    where
      none_some : (n : Node) → None ≡ Some n → ⊥
      none_some n h = cc

  new_cost : (f : Node → Node) (x : Node) (ino : ℕ) → IsFreeNumber tree ino
      → cost (record tree { nodes = fin.insert (changed_at tree.nodes dir f) ino x }) + body_cost node.body ≡ cost tree + body_cost (f node).body + body_cost x.body
  new_cost f x ino free =
      let within = free.within in
      let first = sum_put cost_at tree.nodes dir (tree.last + 1) (omega arith) (f node) in
      let second = sum_put cost_at (fin.insert tree.nodes dir (f node)) ino (tree.last + 1) (omega arith) x in
      let none : cost_at (fin.get (fin.insert tree.nodes dir (f node)) ino) ≡ 0 = ap cost_at (get_there tree.nodes dir (f node) ino (apart_from ino free) ∙ free.unused) in
      let was : cost_at (fin.get tree.nodes dir) ≡ body_cost node.body = ap cost_at has in
      rw (changed_is tree.nodes dir f node has) (omega (arith, first, second, none, was))

  fits_by : (count cap : ℕ) (made_tree : Tree) (e : Errno) → (need (nat_le count cap) ENOSPC >> Ok made_tree) ≡ Err e → (next : Tree) → (need (nat_le count cap) ENOSPC >> Ok next) ≡ Err e
  fits_by count cap made_tree e is next = go (nat_le count cap) is
    where
      go : (b : Bool) → (need b ENOSPC >> Ok made_tree) ≡ Err e → (need b ENOSPC >> Ok next) ≡ Err e
      go true h = cc
      go false h = h

  -- two trees of one cost are refused alike
  refused_alike : (f g : Node → Node) (x y : Node) (a b : ℕ) (e : Errno) → IsFreeNumber tree a → IsFreeNumber tree b → body_cost (f node).body ≡ body_cost (g node).body → body_cost x.body ≡ body_cost y.body
      → fitting tree (fin.insert (changed_at tree.nodes dir f) a x) ≡ Err e → fitting tree (fin.insert (changed_at tree.nodes dir g) b y) ≡ Err e
  refused_alike f g x y a b e one other alike new is =
      let costs : cost (record tree { nodes = fin.insert (changed_at tree.nodes dir f) a x }) ≡ cost (record tree { nodes = fin.insert (changed_at tree.nodes dir g) b y }) =
      omega (arith, new_cost f x a one, new_cost g y b other, alike, new) in
      fits_by _ tree.cap _ e (ap (λ n. need (nat_le n tree.cap) ENOSPC >> Ok (record tree { nodes = fin.insert (changed_at tree.nodes dir f) a x })) (sym costs) ∙ is) _

  pub create_alike : (name : List ℕ) (mode uid gid moment a b : ℕ) (e : Errno) → IsFreeNumber tree a → IsFreeNumber tree b → create tree dir name mode uid gid moment (Some a) ≡ Err e
      → create tree dir name mode uid gid moment (Some b) ≡ Err e
  create_alike name mode uid gid moment a b e one other is =
      refused_alike (with_name moment name a) (with_name moment name b) (made (bit_or 0x8000 mode) 1 uid gid moment (Regular 0 fin.empty)) (made (bit_or 0x8000 mode) 1 uid gid moment (Regular 0 fin.empty)) a b e one other
      (named_cost name a b node.body) refl is

  pub make_dir_alike : (name : List ℕ) (mode uid gid moment a b : ℕ) (e : Errno) → IsFreeNumber tree a → IsFreeNumber tree b → make_dir tree dir name mode uid gid moment (Some a) ≡ Err e
      → make_dir tree dir name mode uid gid moment (Some b) ≡ Err e
  make_dir_alike name mode uid gid moment a b e one other is = go (nat_lt (nlink_in tree.nodes dir) 32767) is
    where
      go : (t : Bool) → (need t EMLINK >> fitting tree (fin.insert (changed_at tree.nodes dir (with_link moment name a)) a (made (bit_or 0x4000 mode) 2 uid gid moment (Directory (first_slots a dir))))) ≡ Err e
          → (need t EMLINK >> fitting tree (fin.insert (changed_at tree.nodes dir (with_link moment name b)) b (made (bit_or 0x4000 mode) 2 uid gid moment (Directory (first_slots b dir))))) ≡ Err e
      go true h = refused_alike (with_link moment name a) (with_link moment name b) (made (bit_or 0x4000 mode) 2 uid gid moment (Directory (first_slots a dir))) (made (bit_or 0x4000 mode) 2 uid gid moment (Directory (first_slots b dir))) a b e one other
          (named_cost name a b node.body) refl h
      go false h = h
