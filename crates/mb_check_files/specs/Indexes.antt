-- Index blocks, and the addresses of the parts under them (V7 filsys(5)).
use Rattle.std.specs.Prelude.{List, [], ◌∷◌, ℕ, ◌/◌, ◌%◌}
use Rattle.mb_tree.specs.Blocks.{entry_in}
use Rattle.mb_rules.specs.Items.{Item, Holds, Held}
use Rattle.mb_rules.specs.FreeChain.{is_open}
use Rattle.mb_rules.specs.Files.{leads_on}

-- the address of an index block that is no hole, before the addresses in it
abbrev pub head_items : (ℕ → List ℕ) → ℕ → ℕ → List Item
head_items blocks holder address = Holds (is_open blocks address) holder 6 ∷ Held address ∷ Holds (leads_on blocks address) address 6 ∷ []

-- the address of a part under a single, a double and a triple index block, by its number there
abbrev pub under_single : (ℕ → List ℕ) → ℕ → ℕ → ℕ
under_single blocks address part = entry_in blocks address part

abbrev pub under_double : (ℕ → List ℕ) → ℕ → ℕ → ℕ
under_double blocks address part = entry_in blocks (entry_in blocks address (part / 128)) (part % 128)

abbrev pub under_triple : (ℕ → List ℕ) → ℕ → ℕ → ℕ
under_triple blocks address part = entry_in blocks (entry_in blocks (entry_in blocks address (part / 16384)) (part / 128 % 128)) (part % 128)
