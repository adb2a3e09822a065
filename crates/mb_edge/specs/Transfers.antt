-- What one call moves between a list of bytes and the outside. The outside may tell nothing (`None`), and
-- then nothing is said of its bytes.
use Rattle.std.specs.Prelude.{ℕ, ◌<◌, ◌≡◌, ◌++◌, List, length, take, Option, Result, MatchResult, IfSome}
use Rattle.std.specs.Io.KnownBytes.{Appends, Consumes, Keeps, IsAtEnd}

-- a read gives the first bytes that are left and takes them away; 0 bytes into a buffer that is not empty
-- come where none is left, and a read that fails takes nothing
abbrev pub Reads : {E : Type 0} → Option (List ℕ) → Option (List ℕ) → Result ℕ E → List ℕ → Type 0
Reads old new result into = MatchResult result (λ count. Consumes old new (take count into) × (count ≡ 0 → 0 < length into → IsAtEnd old)) (λ _. Keeps old new)

-- a write appends the front of the piece that it answers to the bytes taken, and one that fails nothing
abbrev pub Writes : {E : Type 0} → Option (List ℕ) → Option (List ℕ) → Result ℕ E → List ℕ → Type 0
Writes old new result from = MatchResult result (λ count. Appends old new (take count from)) (λ _. Keeps old new)

-- a front of the text was appended, perhaps all of it
pub record TakesFront (old new : Option (List ℕ)) (text : List ℕ) : Type 0 where
  pub front : List ℕ
  pub back : List ℕ
  pub whole : text ≡ front ++ back
  pub took : Appends old new front

-- the whole text was appended, or a front of it where the answer is an error
abbrev pub Takes : {T E : Type 0} → Option (List ℕ) → Option (List ℕ) → Result T E → List ℕ → Type 0
Takes old new result text = MatchResult result (λ _. Appends old new text) (λ _. TakesFront old new text)

-- the first bytes that were left, at most that many
abbrev pub AreFirst : Option (List ℕ) → ℕ → List ℕ → Type 0
AreFirst left most bytes = IfSome left (λ all. bytes ≡ take most all)
