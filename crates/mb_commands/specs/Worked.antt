-- Words that are commands, and words that are none.
use Rattle.std.specs.Prelude.{[], ◌∷◌, ◌≡◌, true, false, codes, Some, None}
use Rattle.mb_commands.specs.Words.{command_of, image_in, number_in}
use Rattle.mb_commands.specs.declared.commands.Command.TheVariants.{Mkfs, Check, Run}

pub record WordsWorked : Type 0 where
  pub mkfs : command_of (codes "mkfs" ∷ codes "v" ∷ codes "100" ∷ codes "16" ∷ []) ≡ Some (Mkfs 100 16)
  pub check : command_of (codes "check" ∷ codes "v" ∷ []) ≡ Some Check
  pub run : command_of (codes "run" ∷ codes "v" ∷ []) ≡ Some (Run false)
  pub threads : command_of (codes "run" ∷ codes "--threads" ∷ codes "v" ∷ []) ≡ Some (Run true)
  pub image : image_in (codes "run" ∷ codes "--threads" ∷ codes "v" ∷ []) ≡ codes "v"
  pub option : command_of (codes "run" ∷ codes "-v" ∷ []) ≡ None
  pub more : command_of (codes "check" ∷ codes "v" ∷ codes "w" ∷ []) ≡ None
  pub zero : number_in (codes "007") ≡ None
