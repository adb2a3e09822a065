-- A slot of a directory written, and a name entered in a directory or taken out of it.
use Rattle.std.specs.Prelude.{List, ℕ, ◌<◌, ◌≡◌, not, Option, Some, None, Err, length, position, slice_set}
use Rattle.std.specs.FinMap as fin
use Rattle.mb_kinds.specs.declared.errors.Errno.TheVariants.{ENOSPC}
use Rattle.mb_tree.specs.Effect.{fitting, with_name, without_name}
use Rattle.mb_tree.specs.Lookup.{is_used, is_named}
use Rattle.mb_tree.specs.declared.nodes.Body.TheVariants.{Directory}
use Rattle.mb_tree.specs.declared.nodes.Node.{Node}
use Rattle.mb_tree.specs.declared.nodes.PlainSlot.{PlainSlot}
use Rattle.mb_kinds.specs.Changed.{ChangeList, IsWithinView}
use Rattle.mb_iface.specs.Needs.{IsNeed}
use Rattle.mb_nodes.specs.Stored.{with_node}
use Rattle.mb_moves.specs.Advancing.{AdvancesTo}
use Rattle.mb_dirs.specs.Steps.{OnSlots, IsNearFirst}
use Rattle.mb_dirs.specs.declared.enters.Entered.{Entered}
use Rattle.mb_dirs.specs.declared.enters.Entered.TheVariants as entered
use Rattle.mb_dirs.specs.declared.enters.Gap.{Gap}
use Rattle.mb_dirs.specs.declared.enters.Gap.TheVariants as gap
use Rattle.mb_dirs.specs.declared.steps.Advanced.{Advanced}
use Rattle.mb_dirs.specs.declared.steps.Advanced.TheVariants as advanced

-- the place of a new name: the first empty slot; or none is empty
abbrev pub IsGap : List PlainSlot → Gap → Type 0
IsGap slots (gap.At at) = position (λ (slot : PlainSlot). not (is_used slot)) slots ≡ Some at
IsGap slots gap.End = position (λ (slot : PlainSlot). not (is_used slot)) slots ≡ None

-- the directory with the name, and the one in which the name's slot is emptied, with this link count
abbrev pub named_node : ℕ → ℕ → List ℕ → ℕ → Node → Node
named_node links moment name ino node = record (with_name moment name ino node) { nlink = links }

abbrev pub unnamed_node : ℕ → ℕ → List ℕ → Node → Node
unnamed_node links moment name node = record (without_name moment name node) { nlink = links }

-- a step in a directory that is never refused: to which node it leads, where what it asks of the slots holds
abbrev pub ChangesDirectory : (ℕ → Option (List ℕ)) → ChangeList → ChangeList → ℕ → (List PlainSlot → Type 0) → (Node → List PlainSlot → Node) → Advanced → Type 0
ChangesDirectory shown old new dir Fits change advanced.Done = (IsWithinView shown old → IsWithinView shown new)
    × OnSlots shown old dir (λ image tree looks node slots. Fits slots → AdvancesTo image tree looks old new (with_node tree dir (change node slots)))
ChangesDirectory shown old new dir Fits change (advanced.Need need) = IsNeed shown need × OnSlots shown old dir (λ image tree looks node slots. Fits slots → IsNearFirst old need.first image tree looks)
ChangesDirectory shown old new dir Fits change advanced.NoMemory = Unit {0}

-- the slot at a place written
abbrev pub SetsSlot : (ℕ → Option (List ℕ)) → ChangeList → ChangeList → ℕ → ℕ → List ℕ → ℕ → Advanced → Type 0
SetsSlot shown old new dir at name ino result =
    ChangesDirectory shown old new dir (λ slots. at < length slots) (λ node slots. record node { body = Directory (slice_set slots at (record { ino = ino; name = name })) }) result

-- and with it the directory's link count and its times
abbrev pub RewritesSlot : (ℕ → Option (List ℕ)) → ChangeList → ChangeList → ℕ → ℕ → ℕ → ℕ → List ℕ → ℕ → Advanced → Type 0
RewritesSlot shown old new dir links moment at name ino result =
    ChangesDirectory shown old new dir (λ slots. at < length slots) (λ node slots. record node { nlink = links; mtime = moment; ctime = moment; body = Directory (slice_set slots at (record { ino = ino; name = name })) }) result

-- the slot of a name emptied
abbrev pub ClearsSlot : (ℕ → Option (List ℕ)) → ChangeList → ChangeList → ℕ → ℕ → ℕ → ℕ → List ℕ → Advanced → Type 0
ClearsSlot shown old new dir links moment at name result =
    ChangesDirectory shown old new dir (λ slots. position (is_named name) slots ≡ Some at) (λ node slots. unnamed_node links moment name node) result

-- a name entered at its place
abbrev pub EntersName : (ℕ → Option (List ℕ)) → ChangeList → ChangeList → ℕ → ℕ → ℕ → Gap → List ℕ → ℕ → Entered → Type 0
EntersName shown old new dir links moment place name ino entered.Done = (IsWithinView shown old → IsWithinView shown new)
    × OnSlots shown old dir (λ image tree looks node slots. IsGap slots place → AdvancesTo image tree looks old new (with_node tree dir (named_node links moment name ino node)))
EntersName shown old new dir links moment place name ino entered.NoneLeft =
    OnSlots shown old dir (λ image tree looks node slots. IsGap slots place → fitting tree (fin.insert tree.nodes dir (named_node links moment name ino node)) ≡ Err ENOSPC)
EntersName shown old new dir links moment place name ino (entered.Need need) = IsNeed shown need × OnSlots shown old dir (λ image tree looks node slots. IsGap slots place → IsNearFirst old need.first image tree looks)
EntersName shown old new dir links moment place name ino entered.NoMemory = Unit {0}
