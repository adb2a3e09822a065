-- Blocks in chains: where each of them stands in a list, found from the last one of its chain back.
use Rattle.std.specs.Prelude.{List, [], ◌∷◌, ℕ, zero, suc, ◌≡◌, ◌<◌, ◌%◌, Bool, Some, cond, length, min, nat_eq, slice_get, take}
use Rattle.std.specs.List.{IsDistinct}

-- the chain of a block
abbrev pub chain_of : ℕ → ℕ
chain_of block = block % 1024

-- the link to the last block of a chain, one more than its place, of a list with one block more at its front: with that behind
-- it, and whether it is of the chain
abbrev pub linked : ℕ → Bool → ℕ
linked zero here = cond here 1 0
linked (suc place) here = suc (suc place)

-- the link to the last block of a chain; 0 where it has none
unfoldable pub last_in : ℕ → List ℕ → ℕ
last_in chain [] = 0
last_in chain (block ∷ blocks) = linked (last_in chain blocks) (nat_eq (chain_of block) chain)

-- blocks, each once; beside each of them the link to the one before it in its chain, and by chain that to its last one
pub record AreChained (last before blocks : List ℕ) : Type 0 where
  pub once : IsDistinct nat_eq blocks
  pub beside : length before ≡ length blocks
  pub size : 0 < length last → length last ≡ 1024
  pub table : 0 < length blocks → length last ≡ 1024
  pub heads : (chain : ℕ) → chain < length last → slice_get last chain ≡ Some (last_in chain blocks)
  pub links : (place block : ℕ) → slice_get blocks place ≡ Some block → slice_get before place ≡ Some (last_in (chain_of block) (take place blocks))

-- how many more blocks there is room for: for none before the chains have their links
abbrev pub room_for : List ℕ → ℕ → ℕ → ℕ
room_for last blocks before = cond (nat_eq (length last) 1024) (min blocks before) 0
