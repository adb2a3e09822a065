-- What the lists of bytes that callers hand in may hold.
use Rattle.std.specs.Prelude.{List, ℕ, ◌≤◌, ◌≢◌, length, All}

-- a read or a write moves at most 65,535 bytes (this project's limit)
abbrev pub AreOctets : List ℕ → Type 0
AreOctets bytes = length bytes ≤ 65535

-- a path is a text of C's, so no byte of it is 0; its length is this project's limit
pub record IsPath (bytes : List ℕ) : Type 0 where
  pub short : length bytes ≤ 255
  pub no_zero : All (λ byte. byte ≢ 0) bytes
