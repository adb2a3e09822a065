-- What a part of the scan finds, whatever it keeps.
use Rattle.std.specs.Prelude.{List, ℕ, ◌<◌, ◌≤◌, ◌≡◌, Result, Ok, Err}
use Rattle.mb_word.specs.Fields.{isize_of, fsize_of, nfree_of}
use Rattle.mb_rules.specs.Items.{Item, walked}
use Rattle.mb_check_files.specs.declared.bounds.Bounds.{Bounds}
use Rattle.mb_check_files.specs.declared.stops.Stop.{Stop}
use Rattle.mb_check_files.specs.declared.stops.Stop.TheVariants.{Broken, Device, NoMemory}

-- the walk goes through, or ends with the finding
abbrev pub Finds : {T : Type 0} → Result T Stop → List ℕ → List Item → Type 0
Finds (Ok kept) met items = (after : List ℕ) × (walked met items ≡ Ok after)
Finds (Err (Broken broken)) met items = walked met items ≡ Err broken
Finds (Err Device) met items = Unit {0}
Finds (Err NoMemory) met items = Unit {0}

-- the numbers of the super-block, in their ranges
pub record AreSized (block : List ℕ) (bounds : Bounds) : Type 0 where
  pub low : isize_of block ≡ bounds.low
  pub high : fsize_of block ≡ bounds.high
  pub some : 3 ≤ bounds.low
  pub below : bounds.low ≤ 8193
  pub order : bounds.low < bounds.high
  pub most : bounds.high ≤ 262144
  pub free : nfree_of block ≤ 50
