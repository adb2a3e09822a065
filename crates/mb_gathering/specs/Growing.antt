-- Views that only grow.
use Rattle.std.specs.Prelude.{List, ℕ, ◌≡◌, ◌⊎◌, Option, Some, IfSome}

-- a view that has all that it had, with the same bytes
abbrev pub ShowsAllOf : (ℕ → Option (List ℕ)) → (ℕ → Option (List ℕ)) → Type 0
ShowsAllOf shown later = (block : ℕ) → IfSome (shown block) (λ bytes. later block ≡ Some bytes)

-- a view whose blocks are those that it had, or the disk's
abbrev pub IsFrom : (ℕ → Option (List ℕ)) → (ℕ → Option (List ℕ)) → (ℕ → Option (List ℕ)) → Type 0
IsFrom disk shown later = (block : ℕ) → IfSome (later block) (λ bytes. (shown block ≡ Some bytes) ⊎ (disk block ≡ Some bytes))
