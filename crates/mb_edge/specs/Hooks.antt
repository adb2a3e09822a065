-- What a fault injector answers at a crossing.
use Rattle.std.specs.Prelude.{ℕ, ◌≤◌, ◌≡◌, Bool, true, false, List, Option, Some, None, IfSome}
use Rattle.mb_edge.specs.Causes.{Rose}
use Rattle.mb_edge.specs.declared.crossings.Crossing.{Crossing}
use Rattle.mb_edge.specs.declared.hooks.Word.{Word}
use Rattle.mb_edge.specs.declared.hooks.Word.TheVariants.{Go, Fault}
use Rattle.mb_edge.specs.declared.strokes.Stroke.{Stroke}

abbrev pub is_fault : Word → Bool
is_fault Go = false
is_fault Fault = true

-- the crossing where a call was struck, and nothing where it goes on
abbrev pub struck_by : Word → Crossing → Option Crossing
struck_by Go at = None
struck_by Fault at = Some at

-- the strokes of the crossing that was struck, and nothing where none was
abbrev pub strokes_at : Option Crossing → List Stroke → Option (List Stroke)
strokes_at None strokes = None
strokes_at (Some at) strokes = Some strokes

-- the test that holds at no crossing
abbrev pub nowhere : Crossing → Bool
nowhere at = false

-- a fault exactly where the test holds
abbrev pub AnswersTest : Option (Crossing → Bool) → Crossing → Word → Type 0
AnswersTest test at word = IfSome test (λ holds. is_fault word ≡ holds at)

-- the count never falls, and a fault comes only where it rose in that call
pub record HasFaultCause (before now : ℕ) (word : Word) : Type 0 where
  pub later : before ≤ now
  pub struck : word ≡ Fault → Rose before now
