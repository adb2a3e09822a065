-- The pieces between the slashes of a path.
use Rattle.std.specs.Prelude.{List, ℕ, ◌<◌, ◌≤◌, ◌≡◌, ◌≢◌, ◌⊎◌, length, slice_index}
use Rattle.mb_tree.specs.Lookup.{components, slash}

-- the same components, after the slashes at the front
pub record StartsPiece (path behind : List ℕ) : Type 0 where
  pub same : components behind ≡ components path
  pub shorter : length behind ≤ length path
  pub started : 0 < length behind → slice_index behind 0 ≢ slash

-- so many bytes stand before the first slash, or before the end
pub record IsPieceLen (path : List ℕ) (count : ℕ) : Type 0 where
  pub within : count ≤ length path
  pub no_slash : (at : ℕ) → at < count → slice_index path at ≢ slash
  pub ended : (count ≡ length path) ⊎ (slice_index path count ≡ slash)
