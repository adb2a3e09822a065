-- A directory's fields and one of its slots written, one after the other.
use Rattle.std.proofs.Common.{ℕ, ◌≡◌, ◌<◌, Bool, not, List, length, Option, Some, position, slice_set, unwrap_or, option_map, [], ◌∷◌, ◌++◌, sym, ap, subst, ◌∙◌, arith}
use Rattle.std.specs.FinMap as fin
use Rattle.std.proofs.lemmas.List.Quantifiers.{position-Some}
use Rattle.mb_kinds.specs.Image.{Image}
use Rattle.mb_tree.specs.Effect.{entered as entered_in, emptied, on_slots}
use Rattle.mb_tree.specs.Lookup.{is_used, is_named}
use Rattle.mb_tree.specs.Views.{IsPart}
use Rattle.mb_tree.specs.declared.nodes.Body.{Body}
use Rattle.mb_tree.specs.declared.nodes.Body.TheVariants.{Directory}
use Rattle.mb_tree.specs.declared.nodes.Node.{Node}
use Rattle.mb_tree.specs.declared.nodes.PlainSlot.{PlainSlot}
use Rattle.mb_tree.specs.declared.trees.Tree.{Tree}
use Rattle.mb_tree.proofs.FiniteMaps.{get_here}
use Rattle.mb_iface.specs.Acting.{with_changes}
use Rattle.mb_kinds.specs.Changed.{ChangeList}
use Rattle.mb_iface.specs.declared.replies.Need.{Need}
use Rattle.mb_nodes.specs.Stored.{IsStored, with_node}
use Rattle.mb_nodes.proofs.NodeParts.{node_stored}
use Rattle.mb_moves.specs.Advancing.{AdvancesTo}
use Rattle.mb_moves.proofs.InARow.{changed_in_turn, near_before}
use Rattle.mb_moves.proofs.Trees.{put_twice}
use Rattle.mb_dirs.specs.Entering.{ChangesDirectory, ClearsSlot, EntersName, RewritesSlot, SetsSlot, IsGap, named_node, unnamed_node}
use Rattle.mb_dirs.specs.Fields.{SetsFields, with_fields}
use Rattle.mb_dirs.specs.Steps.{IsLookedThrough}
use Rattle.mb_dirs.specs.declared.enters.Entered.TheVariants as entered
use Rattle.mb_dirs.specs.declared.enters.Gap.{Gap}
use Rattle.mb_dirs.specs.declared.enters.Gap.TheVariants as gap
use Rattle.mb_dirs.specs.declared.fields.FieldChange.TheVariants.{Touch}
use Rattle.mb_dirs.specs.declared.steps.Advanced.{Advanced}
use Rattle.mb_dirs.specs.declared.steps.Advanced.TheVariants as advanced

module _ (shown : ℕ → Option (List ℕ)) (old mid : ChangeList) (dir links moment : ℕ) (touches : SetsFields shown old mid dir (Touch links moment) advanced.Done) where
  -- the directory between the two writes
  abbrev between : Node → Node
  between node = with_fields (Touch links moment) node

  step : (image : Image) (tree : Tree) (chain : List ℕ) → IsPart shown image.at → IsStored (with_changes image old) tree chain → (looks : ℕ → Bool) (node : Node) → fin.get tree.nodes dir ≡ Some node
      → AdvancesTo image tree looks old mid (with_node tree dir (between node))
  step image tree chain part stored looks node has =
      touches.1 image tree chain part stored looks node has
      (let holds = node_stored (with_changes image old) tree chain stored dir node has in λ e. holds.used (holds.mode ∙ e))

  look_then : (tree : Tree) (looks : ℕ → Bool) (node : Node) (slots : List PlainSlot) → IsLookedThrough tree looks dir node slots → IsLookedThrough (with_node tree dir (between node)) looks dir (between node) slots
  look_then tree looks node slots look = record { has = get_here tree.nodes dir (between node); body = look.body; looked_at = look.looked_at }

  pub rewritten : (new : ChangeList) (at : ℕ) (name : List ℕ) (ino : ℕ) → SetsSlot shown mid new dir at name ino advanced.Done → RewritesSlot shown old new dir links moment at name ino advanced.Done
  rewritten new at name ino sets = (
    λ inside. sets.0 (touches.0 inside),
    λ image tree chain part stored looks node slots look low.
        (let first = step image tree chain part stored looks node look.has in
        let last : Node = record (between node) { body = Directory (slice_set slots at (record { ino = ino; name = name })) } in
        let second = sets.1 image (with_node tree dir (between node)) first.0 part first.1.follows.stored looks (between node) slots (look_then tree looks node slots look) low in
        subst (λ nodes. AdvancesTo image tree looks old new (record tree { nodes = nodes })) (put_twice tree.nodes dir (between node) last)
        (changed_in_turn image tree (with_node tree dir (between node)) (with_node (with_node tree dir (between node)) dir last) looks old mid new first second)),
  )

  pub slot_needs : (new : ChangeList) (at : ℕ) (name : List ℕ) (ino : ℕ) (need : Need) → SetsSlot shown mid new dir at name ino (advanced.Need need) → RewritesSlot shown old new dir links moment at name ino (advanced.Need need)
  slot_needs new at name ino need sets = (
    sets.0,
    λ image tree chain part stored looks node slots look low.
        (let first = step image tree chain part stored looks node look.has in
        near_before image tree (with_node tree dir (between node)) looks old mid need.first first (let some = sets.0.above in omega (arith, some))
        (sets.1 image (with_node tree dir (between node)) first.0 part first.1.follows.stored looks (between node) slots (look_then tree looks node slots look) low)),
  )

  pub both : (new : ChangeList) (at : ℕ) (name : List ℕ) (ino : ℕ) (result : Advanced) → SetsSlot shown mid new dir at name ino result → RewritesSlot shown old new dir links moment at name ino result
  both new at name ino advanced.Done sets = rewritten new at name ino sets
  both new at name ino (advanced.Need need) sets = slot_needs new at name ino need sets
  both new at name ino advanced.NoMemory sets = tt

pub touch_needs : (shown : ℕ → Option (List ℕ)) (old mid new : ChangeList) (dir links moment at : ℕ) (name : List ℕ) (ino : ℕ) (need : Need) → SetsFields shown old mid dir (Touch links moment) (advanced.Need need)
    → RewritesSlot shown old new dir links moment at name ino (advanced.Need need)
touch_needs shown old mid new dir links moment at name ino need touches = (touches.0, λ image tree chain part stored looks node slots look low. touches.1 image tree chain part stored looks node look.has)

-- what is asked of the slots, and the node, in other words
other_words : (shown : ℕ → Option (List ℕ)) (old new : ChangeList) (dir : ℕ) (Fits Gits : List PlainSlot → Type 0) (change other : Node → List PlainSlot → Node) (result : Advanced)
    → ((slots : List PlainSlot) → Gits slots → Fits slots) → ((node : Node) (slots : List PlainSlot) → node.body ≡ Directory slots → Gits slots → change node slots ≡ other node slots)
    → ChangesDirectory shown old new dir Fits change result → ChangesDirectory shown old new dir Gits other result
other_words shown old new dir Fits Gits change other advanced.Done fits same does = (
  does.0,
  λ image tree chain part stored looks node slots look asked.
      subst (λ n. AdvancesTo image tree looks old new (with_node tree dir n)) (same node slots look.body asked) (does.1 image tree chain part stored looks node slots look (fits slots asked)),
)
other_words shown old new dir Fits Gits change other (advanced.Need need) fits same does = (does.0, λ image tree chain part stored looks node slots look asked. does.1 image tree chain part stored looks node slots look (fits slots asked))
other_words shown old new dir Fits Gits change other advanced.NoMemory fits same does = tt

abbrev touched_with : ℕ → ℕ → Node → Body → Node
touched_with links moment node body = record node { nlink = links; mtime = moment; ctime = moment; body = body }

abbrev slot_of : ℕ → List ℕ → PlainSlot
slot_of ino name = record { ino = ino; name = name }

pub cleared : (shown : ℕ → Option (List ℕ)) (old new : ChangeList) (dir links moment at : ℕ) (name : List ℕ) (result : Advanced) → RewritesSlot shown old new dir links moment at name 0 result
    → ClearsSlot shown old new dir links moment at name result
cleared shown old new dir links moment at name result does =
    other_words shown old new dir (λ slots. at < length slots) (λ slots. position (is_named name) slots ≡ Some at)
    (λ node slots. touched_with links moment node (Directory (slice_set slots at (slot_of 0 name)))) (λ node slots. unnamed_node links moment name node) result
    (λ slots is. (position-Some (is_named name) slots at (slot_of 0 name) is).0)
    (λ node slots body is.
    sym (ap (λ b. touched_with links moment node (on_slots (emptied name) b)) body
    ∙ ap (λ o. touched_with links moment node (Directory (unwrap_or (option_map (λ found. slice_set slots found (slot_of 0 name)) o) slots))) is))
    does

-- the place of the first empty slot
entered_at : (shown : ℕ → Option (List ℕ)) (old new : ChangeList) (dir links moment at : ℕ) (name : List ℕ) (ino : ℕ) (result : Advanced) → RewritesSlot shown old new dir links moment at name ino result
    → ChangesDirectory shown old new dir (λ slots. IsGap slots (gap.At at)) (λ node slots. named_node links moment name ino node) result
entered_at shown old new dir links moment at name ino result does =
    other_words shown old new dir (λ slots. at < length slots) (λ slots. IsGap slots (gap.At at))
    (λ node slots. touched_with links moment node (Directory (slice_set slots at (slot_of ino name)))) (λ node slots. named_node links moment name ino node) result
    (λ slots is. (position-Some (λ (slot : PlainSlot). not (is_used slot)) slots at (slot_of ino name) is).0)
    (λ node slots body is.
    sym (ap (λ b. touched_with links moment node (on_slots (entered_in name ino) b)) body
    ∙ ap (λ o. touched_with links moment node (Directory (unwrap_or (option_map (λ found. slice_set slots found (slot_of ino name)) o) (slots ++ slot_of ino name ∷ [])))) is))
    does

module _ (shown : ℕ → Option (List ℕ)) (old new : ChangeList) (dir links moment at : ℕ) (name : List ℕ) (ino : ℕ) (place : Gap) (is : place ≡ gap.At at) where
  pub enters_done : RewritesSlot shown old new dir links moment at name ino advanced.Done → EntersName shown old new dir links moment place name ino entered.Done
  enters_done does = subst (λ p. EntersName shown old new dir links moment p name ino entered.Done) (sym is) (entered_at shown old new dir links moment at name ino advanced.Done does)

  pub enters_need : (need : Need) → RewritesSlot shown old new dir links moment at name ino (advanced.Need need) → EntersName shown old new dir links moment place name ino (entered.Need need)
  enters_need need does = subst (λ p. EntersName shown old new dir links moment p name ino (entered.Need need)) (sym is) (entered_at shown old new dir links moment at name ino (advanced.Need need) does)
