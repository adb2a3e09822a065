-- Bytes put into a regular file, part by part in place of byte by byte: which parts stand after it, and what
-- each of them holds.
use Rattle.std.specs.Prelude.{List, [], ◌∷◌, ◌++◌, ℕ, ◌+◌, ◌-◌, ◌*◌, ◌/◌, ◌%◌, ◌<◌, ◌≤◌, ◌≡◌, ◌⊎◌, ◌↔◌, Option, Some, IsSome, length, take, drop, unwrap_or}
use Rattle.std.specs.FinMap as fin
use Rattle.mb_kinds.specs.Image.{zeros}
use Rattle.mb_word.specs.Numbers.{put_at}
use Rattle.mb_tree.specs.Maps.{Numbered}
use Rattle.mb_tree.specs.Inodes.{part_at}
use Rattle.mb_tree.specs.Effect.{put_bytes}

-- each part that stands has 512 bytes
abbrev pub AreWhole : Numbered (List ℕ) → Type 0
AreWhole parts = (part : ℕ) → length (part_at parts part) ≡ 512

-- of the bytes that are put from an index on, those that fall into a part
abbrev pub bytes_into : ℕ → ℕ → List ℕ → List ℕ
bytes_into part index bytes = take (512 - (index - 512 * part)) (drop (512 * part - index) bytes)

-- a part with bytes put into it from a place on; one into which none fall stays as it was
abbrev pub put_into : Option (List ℕ) → ℕ → List ℕ → Option (List ℕ)
put_into old place [] = old
put_into old place (byte ∷ bytes) = Some (put_at (unwrap_or old zeros) place (byte ∷ bytes))

-- each part after bytes were put
abbrev pub PartsAfterPut : Type 0
PartsAfterPut = (parts : Numbered (List ℕ)) (index : ℕ) (bytes : List ℕ) (part : ℕ) → AreWhole parts
    → fin.get (put_bytes parts index bytes) part ≡ put_into (fin.get parts part) (index - 512 * part) (bytes_into part index bytes)

-- a byte falls into the part
pub record IsReached (part index : ℕ) (bytes : List ℕ) : Type 0 where
  pub some : 0 < length bytes
  pub from : index / 512 ≤ part
  pub below : 512 * part < index + length bytes

-- the parts that stand are those that stood, and those into which a byte falls
abbrev pub PartsStandAfterPut : Type 0
PartsStandAfterPut = (parts : Numbered (List ℕ)) (index : ℕ) (bytes : List ℕ) (part : ℕ) → AreWhole parts
    → IsSome (fin.get (put_bytes parts index bytes) part) ↔ (IsSome (fin.get parts part) ⊎ IsReached part index bytes)

-- parts stay whole
abbrev pub PartsStayWhole : Type 0
PartsStayWhole = (parts : Numbered (List ℕ)) (index : ℕ) (bytes : List ℕ) → AreWhole parts → AreWhole (put_bytes parts index bytes)

-- bytes put in two runs
abbrev pub PutSplits : Type 0
PutSplits = (parts : Numbered (List ℕ)) (index : ℕ) (front back : List ℕ) → put_bytes parts index (front ++ back) ≡ put_bytes (put_bytes parts index front) (index + length front) back

-- bytes that end within the part in which they begin are one write to it
abbrev pub PutWithinPart : Type 0
PutWithinPart = (parts : Numbered (List ℕ)) (index : ℕ) (bytes : List ℕ) → 0 < length bytes → index % 512 + length bytes ≤ 512 → length (part_at parts (index / 512)) ≡ 512
    → put_bytes parts index bytes ≡ fin.insert parts (index / 512) (put_at (part_at parts (index / 512)) (index % 512) bytes)

-- four bytes put at index 510: two fall into part 0, from its place 510 on, and two into part 1, from its first
pub record WorkedParts : Type 0 where
  pub first : bytes_into 0 510 (7 ∷ 8 ∷ 9 ∷ 10 ∷ []) ≡ 7 ∷ 8 ∷ []
  pub place : 510 - 512 * 0 ≡ 510
  pub second : bytes_into 1 510 (7 ∷ 8 ∷ 9 ∷ 10 ∷ []) ≡ 9 ∷ 10 ∷ []
  pub start : 510 - 512 * 1 ≡ 0
  pub third : bytes_into 2 510 (7 ∷ 8 ∷ 9 ∷ 10 ∷ []) ≡ []
