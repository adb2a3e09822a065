-- A directory that is removed is not the one in which its name stands: only its dots are used.
use Rattle.std.proofs.Common.{ℕ, ◌≡◌, ◌≢◌, ◌≤◌, Bool, true, false, List, length, Option, Some, option_map, unwrap_or, refl, sym, ap, subst, ◌∙◌, arith}
use Rattle.std.specs.Prelude.{count_by, slice_get, option_and_then}
use Rattle.mb_tree.specs.Effect.{dot, dot_dot}
use Rattle.mb_tree.specs.Inodes.{slots_of}
use Rattle.mb_tree.specs.Lookup.{is_used, number_of, used_in}
use Rattle.mb_tree.specs.Rows.{is_dots}
use Rattle.mb_tree.specs.Trees.{AreSlots, HasSize, IsSound}
use Rattle.mb_tree.specs.declared.nodes.Node.{Node}
use Rattle.mb_tree.specs.declared.nodes.PlainSlot.{PlainSlot}
use Rattle.mb_tree.specs.declared.trees.Tree.{Tree}
use Rattle.mb_tree.proofs.Entering.{used_number}
use Rattle.mb_tree.proofs.Rewritten.{IsFound, is_found}
use Rattle.mb_tree.proofs.SlotLists.{count_late, count_some, weight_one}
use Rattle.mb_fsops.specs.Places.{IsDirectoryWith}

used_there : (tree : Tree) (dir : ℕ) (node : Node) (slots : List PlainSlot) → IsDirectoryWith tree dir node slots → used_in tree.nodes dir ≡ count_by is_used slots
used_there tree dir node slots is =
    ap (λ (o : Option Node). unwrap_or (option_map (count_by is_used) (option_and_then (λ (n : Node). slots_of n.body) o)) 0) is.has
    ∙ ap (λ b. unwrap_or (option_map (count_by is_used) (slots_of b)) 0) is.body

same_entry : (a b : PlainSlot) (slots : List PlainSlot) (at : ℕ) → slice_get slots at ≡ Some a → slice_get slots at ≡ Some b → a ≡ b
same_entry a b slots at e f = cc

module _ (tree : Tree) (sound : IsSound tree) (dir : ℕ) (name : List ℕ) (ino : ℕ) (node : Node) (slots : List PlainSlot)
    (is : IsDirectoryWith tree dir node slots) (leads : number_of slots name ≡ Some ino) (no_dots : is_dots name ≡ false) where
  found : IsFound slots name ino
  found = is_found slots name ino leads

  own : AreSlots tree.nodes dir slots
  own = sound.slots dir node slots is.has is.body

  not_a_dot : (at : ℕ) (slot : PlainSlot) → slice_get slots at ≡ Some slot → is_dots slot.name ≡ true → found.at ≢ at
  not_a_dot at slot stands dots e =
      let same = same_entry found.slot slot slots at (sym (ap (slice_get slots) e) ∙ found.has) stands in
      let no : ◌≡◌ {A = Bool} true false = sym dots ∙ ap is_dots (sym (ap (λ (s : PlainSlot). s.name) same) ∙ found.named) ∙ no_dots in
      cc

  late : 2 ≤ found.at
  late = omega (arith, not_a_dot 0 (record { ino = dir; name = dot }) own.first refl, not_a_dot 1 (record { ino = own.parent; name = dot_dot }) own.second refl)

  three_used : 3 ≤ count_by is_used slots
  three_used =
      let some : dir ≢ 0 = (λ e. absurd (omega (arith, e, (sound.numbers dir node is.has).0))) in
      let one = weight_one is_used (slice_get slots 0) (record { ino = dir; name = dot }) own.first (used_number dir dot some) in
      let two = weight_one is_used (slice_get slots 1) (record { ino = own.parent; name = dot_dot }) own.second (used_number own.parent dot_dot own.upward) in
      let three = weight_one is_used (slice_get slots found.at) found.slot found.has found.used in
      let long : 2 ≤ length slots = subst HasSize is.body (sound.sizes dir node is.has) in
      omega (arith, one, two, three, count_late is_used slots long, count_some is_used 2 slots found.at late)

  pub removed_apart : used_in tree.nodes ino ≤ 2 → ino ≢ dir
  removed_apart few e = absurd (omega (arith, subst (λ i. used_in tree.nodes i ≤ 2) e few, used_there tree dir node slots is, three_used))
