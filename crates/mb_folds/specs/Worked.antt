-- Folded lists, worked out.
use Rattle.std.specs.Prelude.{List, [], ◌∷◌, ◌++◌, ℕ, ◌+◌, ◌≡◌, length, Some, None}
use Rattle.mb_tree.specs.CarriedOut.{PickedOp}
use Rattle.mb_tree.specs.declared.operations.FsOp.{FsOp}
use Rattle.mb_tree.specs.declared.operations.FsOp.TheVariants.{Put, SetMode, SetOwner, SetTimes, Hold}
use Rattle.mb_folds.specs.Folded.{folded}

-- an operation that picked no number
abbrev pub plain : FsOp → PickedOp
plain op = record { op = op; pick = None }

-- two writes, the second right behind the first, with so many bytes together
abbrev pub Meet : ℕ → (List ℕ → List ℕ → List PickedOp) → Type 0
Meet count left = (front back : List ℕ) → length front + length back ≡ count
    → folded (plain (Put 3 7 front 1) ∷ plain (Put 3 (7 + length front) back 2) ∷ []) ≡ left front back

-- which operations become one, with which moment, and which stay two
pub record WorkedFolds : Type 0 where
  -- three writes in a row: one, at the moment of the last
  pub writes : folded (plain (Put 3 0 (97 ∷ 98 ∷ []) 4) ∷ plain (Put 3 2 (99 ∷ []) 5) ∷ plain (Put 3 3 (100 ∷ []) 6) ∷ []) ≡ plain (Put 3 0 (97 ∷ 98 ∷ 99 ∷ 100 ∷ []) 6) ∷ []
  -- 65,535 bytes together are one write, one byte more makes two
  pub full : Meet 65535 (λ front back. plain (Put 3 7 (front ++ back) 2) ∷ [])
  pub past : Meet 65536 (λ front back. plain (Put 3 7 front 1) ∷ plain (Put 3 (7 + length front) back 2) ∷ [])
  -- bytes that do not meet: a gap, or the same place again
  pub gap : folded (plain (Put 3 0 (97 ∷ 98 ∷ []) 4) ∷ plain (Put 3 3 (99 ∷ []) 5) ∷ []) ≡ plain (Put 3 0 (97 ∷ 98 ∷ []) 4) ∷ plain (Put 3 3 (99 ∷ []) 5) ∷ []
  pub over : folded (plain (Put 3 0 (97 ∷ 98 ∷ []) 4) ∷ plain (Put 3 0 (99 ∷ []) 5) ∷ []) ≡ plain (Put 3 0 (97 ∷ 98 ∷ []) 4) ∷ plain (Put 3 0 (99 ∷ []) 5) ∷ []
  -- two inodes
  pub apart : folded (plain (Put 3 0 (97 ∷ 98 ∷ []) 4) ∷ plain (Put 4 2 (99 ∷ []) 5) ∷ plain (SetMode 4 0x1A4 6) ∷ plain (SetMode 3 0x1A4 7) ∷ [])
      ≡ plain (Put 3 0 (97 ∷ 98 ∷ []) 4) ∷ plain (Put 4 2 (99 ∷ []) 5) ∷ plain (SetMode 4 0x1A4 6) ∷ plain (SetMode 3 0x1A4 7) ∷ []
  -- an operation with a pick, first or second
  pub picked : (number : ℕ) → folded ((record { op = SetMode 3 0x1A4 6; pick = Some number }) ∷ plain (SetMode 3 0x180 7) ∷ (record { op = SetMode 3 0x1FF 8; pick = Some number }) ∷ [])
      ≡ (record { op = SetMode 3 0x1A4 6; pick = Some number }) ∷ plain (SetMode 3 0x180 7) ∷ (record { op = SetMode 3 0x1FF 8; pick = Some number }) ∷ []
  -- attributes set again, and another operation between them
  pub again : folded (plain (SetMode 3 0x180 2) ∷ plain (SetMode 3 0x1A0 3) ∷ plain (SetOwner 3 1 2 4) ∷ plain (SetOwner 3 5 6 5) ∷ plain (SetTimes 3 10 11 6) ∷ plain (SetTimes 3 12 13 7) ∷ [])
      ≡ plain (SetMode 3 0x1A0 3) ∷ plain (SetOwner 3 5 6 5) ∷ plain (SetTimes 3 12 13 7) ∷ []
  pub between : folded (plain (SetMode 3 0x180 2) ∷ plain (Hold 3) ∷ plain (SetMode 3 0x1A0 3) ∷ []) ≡ plain (SetMode 3 0x180 2) ∷ plain (Hold 3) ∷ plain (SetMode 3 0x1A0 3) ∷ []
