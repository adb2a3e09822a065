-- What a question's result stands for: the reference model's answer on each volume of which the view is a
-- part, and of a Need which block it names.
use Rattle.std.specs.Prelude.{List, ℕ, ◌≡◌, Option, Result, Ok, Err}
use Rattle.mb_kinds.specs.Image.{Image}
use Rattle.mb_kinds.specs.declared.calls.Call.{Call}
use Rattle.mb_iface.specs.Near.{IsNear}
use Rattle.mb_iface.specs.Needs.{IsNeed}
use Rattle.mb_iface.specs.declared.replies.Need.{Need}
use Rattle.mb_tree.specs.Answers.{Answer}
use Rattle.mb_tree.specs.Machines.{IsSeated}
use Rattle.mb_tree.specs.Views.{IsPart}
use Rattle.mb_tree.specs.Volume.{IsVolume}
use Rattle.mb_tree.specs.declared.seats.Seat.{Seat}
use Rattle.mb_tree.specs.declared.trees.Tree.{Tree}
use Rattle.mb_calls.specs.Looked.{IsLooked}
use Rattle.mb_calls.specs.declared.halts.Halt.{Halt}
use Rattle.mb_calls.specs.declared.halts.Halt.TheVariants as halt

-- a volume of the tree, of which the view is a part, and a session that fits it
pub record IsViewOf (shown : ℕ → Option (List ℕ)) (seat : Seat) (image : Image) (tree : Tree) : Type 0 where
  pub part : IsPart shown image.at
  pub volume : IsVolume image tree
  pub seated : IsSeated tree.nodes seat

-- a refusal is the row's; a Need and want of memory say nothing of it
abbrev pub HaltMatches : {X : Type 0} → Halt → Answer X → Type 0
HaltMatches (halt.Refused e) row = row ≡ Err e
HaltMatches (halt.Need need) row = Unit {0}
HaltMatches halt.NoMemory row = Unit {0}

-- what is told is the row's
abbrev pub Matches : {X : Type 0} → Result X Halt → Answer X → Type 0
Matches (Ok x) row = row ≡ Ok x
Matches (Err why) row = HaltMatches why row

-- on each volume
abbrev pub SaysOnEach : {X : Type 0} → (ℕ → Option (List ℕ)) → Seat → Result X Halt → (Tree → Answer X) → Type 0
SaysOnEach shown seat result row = (image : Image) (tree : Tree) → IsViewOf shown seat image tree → Matches result (row tree)

-- what is said of a block that is asked for: that a view lacks it, or that it is near the inodes of a call
pub data Scope : Type 0 where
  lacking : (ℕ → Option (List ℕ)) → Scope
  around : Image → Tree → Seat → Call → Scope

abbrev pub Meets : Scope → Need → Type 0
Meets (lacking shown) need = IsNeed shown need
Meets (around image tree seat made) need = IsNear image tree (IsLooked tree.nodes seat made) need.first

abbrev pub NeedsOf : Scope → Halt → Type 0
NeedsOf scope (halt.Refused e) = Unit {0}
NeedsOf scope (halt.Need need) = Meets scope need
NeedsOf scope halt.NoMemory = Unit {0}

-- what is asked for is such
abbrev pub Needs : {X : Type 0} → Scope → Result X Halt → Type 0
Needs scope (Ok x) = Unit {0}
Needs scope (Err why) = NeedsOf scope why
