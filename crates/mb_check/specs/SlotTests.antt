-- What the tests of the slots of directories find; they meet no block.
use Rattle.std.specs.Prelude.{List, ℕ, ◌≡◌, Result, Ok, Err}
use Rattle.mb_tree.specs.Blocks.{slot_in}
use Rattle.mb_tree.specs.Counting.{any_from}
use Rattle.mb_tree.specs.Lookup.{is_named}
use Rattle.mb_rules.specs.Items.{Item, walked}
use Rattle.mb_check_files.specs.declared.stops.Stop.{Stop}
use Rattle.mb_check_files.specs.declared.stops.Stop.TheVariants.{Broken, Device, NoMemory}
use Rattle.mb_check.specs.declared.names.NameSet.{NameSet}
use Rattle.mb_check.specs.NameSets.{has_name}

-- the walk goes through the tests, or ends with the finding
abbrev pub Tests : Result Unit Stop → List ℕ → List Item → Type 0
Tests (Ok done) met items = walked met items ≡ Ok met
Tests (Err (Broken broken)) met items = walked met items ≡ Err broken
Tests (Err Device) met items = Unit {0}
Tests (Err NoMemory) met items = Unit {0}

-- a rule is broken
abbrev pub IsBroken : {T : Type 0} → Result T Stop → Type 0
IsBroken (Ok kept) = ⊥
IsBroken (Err (Broken broken)) = Unit {0}
IsBroken (Err Device) = ⊥
IsBroken (Err NoMemory) = ⊥

-- the names are those of the used slots of a directory before that one
abbrev pub KnowsNames : (ℕ → List ℕ) → ℕ → ℕ → NameSet → Type 0
KnowsNames blocks ino at names = (name : List ℕ) → has_name names name ≡ any_from (λ earlier. is_named name (slot_in blocks ino earlier)) 0 at
