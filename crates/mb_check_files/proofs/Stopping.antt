-- How a pass ends where a call in it ended.
use Rattle.std.proofs.Common.{◌≡◌, ℕ, List, Bool, Result, Ok, Err, refl, sym, ap, subst, ◌∙◌}
use Rattle.std.specs.Result.{IsErr, IsErrAnd}
use Rattle.mb_rules.specs.declared.findings.Finding.{Finding}
use Rattle.mb_rules.specs.Items.{Item, walked}
use Rattle.mb_check_files.specs.declared.stops.Stop.{Stop}
use Rattle.mb_check_files.specs.declared.stops.Stop.TheVariants.{Broken, Device, NoMemory}
use Rattle.mb_check_files.specs.Passes.{Passes}

-- an error that was made from another one
pub came_from : {T : Type 0} (r : Result T Stop) (stop : Stop) → IsErr r × IsErrAnd r (λ e. e ≡ stop) → r ≡ Err stop
came_from (Ok x) stop h = (let no = h.0 in absurd (cc))
came_from (Err e) stop h = ap (λ (s : Stop). Err s) h.1

-- a pass whose first part ended so ends so, whatever the flags
pub passes_on : (stop : Stop) (flags after : List Bool) (met later : List ℕ) (items all : List Item)
    → ((broken : Finding) → walked met items ≡ Err broken → walked later all ≡ Err broken) → Passes (Err stop) flags met items → Passes (Err stop) after later all
passes_on (Broken broken) flags after met later items all on h = on broken h
passes_on Device flags after met later items all on h = tt
passes_on NoMemory flags after met later items all on h = tt
