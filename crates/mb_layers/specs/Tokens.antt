-- What the map of tokens tells of a block.
use Rattle.std.specs.Prelude.{◌≡◌, ℕ, ◌<◌, ◌≤◌, Bool, true, cond, List, length, slice_index_or, nat_eq, Option, None, Some}
use Rattle.std.specs.List.{list_any}
use denote.RawPtr.{Ptr}
use Rattle.indexmap.specs.IndexMap.{get}
use Rattle.mb_layers.specs.declared.tokens.Entry.{Entry}
use Rattle.mb_layers.specs.declared.tokens.Tokens.{Tokens}

-- whether a generation was dropped
abbrev pub is_dropped : Tokens → ℕ → Bool
is_dropped tokens generation = list_any (λ one. nat_eq one generation) tokens.dropped.items

-- the block's current page
abbrev pub current_of : Tokens → Option Entry → Option Ptr
current_of tokens None = None
current_of tokens (Some entry) = cond (nat_eq entry.generation tokens.present) (Some entry.newest) None

-- its sealed page
abbrev pub sealed_of : Tokens → Option Entry → Option Ptr
sealed_of tokens None = None
sealed_of tokens (Some entry) = cond (nat_eq entry.generation tokens.present) entry.older (cond (is_dropped tokens entry.generation) entry.older (Some entry.newest))

abbrev pub current_in : Tokens → ℕ → Option Ptr
current_in tokens block = current_of tokens (get nat_eq tokens.map block)

abbrev pub sealed_in : Tokens → ℕ → Option Ptr
sealed_in tokens block = sealed_of tokens (get nat_eq tokens.map block)

-- numbers that rise, each below a bound
pub record AreRising (numbers : List ℕ) (bound : ℕ) : Type 0 where
  pub ordered : (i j : ℕ) → i ≤ j → j < length numbers → slice_index_or numbers i 0 ≤ slice_index_or numbers j 0
  pub below : (i : ℕ) → i < length numbers → slice_index_or numbers i 0 < bound

-- no generation is later than the present one, and the dropped ones are earlier, the one that was dropped first in front
pub record IsAged (tokens : Tokens) : Type 0 where
  pub each : (block : ℕ) (entry : Entry) → get nat_eq tokens.map block ≡ Some entry → entry.generation ≤ tokens.present
  pub dropped : (generation : ℕ) → is_dropped tokens generation ≡ true → generation < tokens.present
  pub rising : AreRising tokens.dropped.items tokens.present

-- the generations stay
pub record SameAges (old new : Tokens) : Type 0 where
  pub present : new.present ≡ old.present
  pub dropped : new.dropped ≡ old.dropped
