-- The components of a path are names: not empty, without a slash, padded with 0.
use Rattle.std.proofs.Common.{◌≡◌, ◌≢◌, ◌⊎◌, inl, inr, nat_lt, ℕ, zero, suc, ◌+◌, ◌<◌, ◌≤◌, true, false, cond, not, List, [], ◌∷◌, ◌++◌, length, take, map, filter, replicate, get_or, refl, sym, ◌∙◌, arith}
use Rattle.std.proofs.lemmas.Bool.Decides.{nat_tests}
use Rattle.std.proofs.lemmas.List.{length-take, length-append}
use Rattle.std.specs.Prelude.{All, slice_index, ◌==◌}
use Rattle.std.specs.List.{AllByRecursion, slice_split, onto_first}
use Rattle.mb_tree.specs.Lookup.{padded, components, slash}
use Rattle.mb_tree.specs.Trees.{IsName}

-- ---- pieces between slashes

-- bytes that may stand in a name
abbrev IsByte : ℕ → Type 0
IsByte byte = (byte ≢ 0) × (byte ≢ slash)

abbrev IsPiece : List ℕ → Type 0
IsPiece piece = AllByRecursion IsByte piece

piece_byte : (piece : List ℕ) (at : ℕ) → IsPiece piece → slice_index piece at ≢ slash
piece_byte [] at h e = absurd (let no : 0 ≡ 47 = e in omega (arith, no))
piece_byte (x ∷ piece) zero h e = h.0.1 e
piece_byte (x ∷ piece) (suc at) h e = piece_byte piece at h.1 e

-- a 0 is past the end
piece_zero : (piece : List ℕ) (at later : ℕ) → IsPiece piece → at ≤ later → slice_index piece at ≡ 0 → slice_index piece later ≡ 0
piece_zero [] at later h b e = refl
piece_zero (x ∷ piece) zero later h b e = absurd (h.0.0 e)
piece_zero (x ∷ piece) (suc at) zero h b e = absurd (omega arith)
piece_zero (x ∷ piece) (suc at) (suc later) h b e = piece_zero piece at later h.1 (omega arith) e

piece_first : (piece : List ℕ) → IsPiece piece → not (length piece == 0) ≡ true → slice_index piece 0 ≢ 0
piece_first [] h some e = absurd (let no : false ≡ true = some in cc)
piece_first (x ∷ piece) h some e = h.0.0 e

first_longer : (x : ℕ) (parts : List (List ℕ)) → IsByte x → AllByRecursion IsPiece parts → AllByRecursion IsPiece (onto_first x parts)
first_longer x [] b h = ((b, tt), tt)
first_longer x (part ∷ parts) b h = ((b, h.0), h.1)

pieces : (path : List ℕ) → AllByRecursion (λ byte. byte ≢ 0) path → AllByRecursion IsPiece (slice_split (λ byte. byte == slash) path)
pieces [] h = (tt, tt)
pieces (x ∷ path) h = elim (x == slash) as (λ b. (x == slash) ≡ b → AllByRecursion IsPiece (cond b ([] ∷ slice_split (λ byte. byte == slash) path) (onto_first x (slice_split (λ byte. byte == slash) path)))) [
  | true ↦ λ e. (tt, pieces path h.1)
  | false ↦ λ e. let other : x ≢ slash = grind (arith, nat_tests) in first_longer x _ (h.0, other) (pieces path h.1)
] refl

-- ---- a piece padded

zeros_index : (n m at : ℕ) → slice_index (take n (replicate {A = ℕ} m 0)) at ≡ 0
zeros_index zero m at = refl
zeros_index (suc n) zero at = refl
zeros_index (suc n) (suc m) zero = refl
zeros_index (suc n) (suc m) (suc at) = zeros_index n m at

low_index : (n m at : ℕ) (piece : List ℕ) → at < n → slice_index (take n (piece ++ replicate {A = ℕ} m 0)) at ≡ slice_index piece at
low_index zero m at piece b = absurd (omega arith)
low_index (suc n) m at [] b = zeros_index (suc n) m at
low_index (suc n) m zero (x ∷ piece) b = refl
low_index (suc n) m (suc at) (x ∷ piece) b = low_index n m at piece (omega arith)

past_index : (n at : ℕ) (xs : List ℕ) → n ≤ at → slice_index (take n xs) at ≡ 0
past_index zero at xs b = refl
past_index (suc n) at [] b = refl
past_index (suc n) zero (x ∷ xs) b = absurd (omega arith)
past_index (suc n) (suc at) (x ∷ xs) b = past_index n at xs (omega arith)

full_length : (piece : List ℕ) → length (take 14 (piece ++ replicate {A = ℕ} 14 0)) ≡ 14
full_length piece =
    let all : length (piece ++ replicate {A = ℕ} 14 0) ≡ length piece + 14 = length-append piece (replicate {A = ℕ} 14 0) in
    let short = length-take 14 (piece ++ replicate {A = ℕ} 14 0) in
    omega (arith, all, short)

padded_low : (piece : List ℕ) (at : ℕ) → at < 14 → slice_index (padded piece) at ≡ slice_index piece at
unfolding padded
padded_low piece at b = low_index 14 14 at piece b

padded_past : (piece : List ℕ) (at : ℕ) → 14 ≤ at → slice_index (padded piece) at ≡ 0
unfolding padded
padded_past piece at b = past_index 14 at (piece ++ replicate 14 0) b

padded_full : (piece : List ℕ) → length (padded piece) ≡ 14
unfolding padded
padded_full piece = full_length piece

low_or_past : (at : ℕ) → (at < 14) ⊎ (14 ≤ at)
low_or_past at = elim (nat_lt at 14) as (λ b. nat_lt at 14 ≡ b → (at < 14) ⊎ (14 ≤ at)) [ true ↦ λ e. inl (grind (arith, nat_tests)) | false ↦ λ e. inr (grind (arith, nat_tests)) ] refl

padded_name : (piece : List ℕ) → IsPiece piece → not (length piece == 0) ≡ true → IsName (padded piece)
padded_name piece h some = record {
  full = padded_full piece;
  some = λ e. piece_first piece h some (sym (padded_low piece 0 (omega arith)) ∙ e);
  no_slash = λ at b e. piece_byte piece at h (sym (padded_low piece at b) ∙ e);
  padding = λ at later b e. elim (low_or_past later) [
    | inl low ↦ padded_low piece later low ∙ piece_zero piece at later h b (sym (padded_low piece at (omega arith)) ∙ e)
    | inr past ↦ padded_past piece later past
  ];
}

names : (parts : List (List ℕ)) → AllByRecursion IsPiece parts → AllByRecursion IsName (map padded (filter (λ piece. not (length piece == 0)) parts))
names [] h = tt
names (part ∷ parts) h = elim (not (length part == 0)) as (λ b. not (length part == 0) ≡ b → AllByRecursion IsName (map padded (cond b (part ∷ filter (λ piece. not (length piece == 0)) parts) (filter (λ piece. not (length piece == 0)) parts)))) [
  | true ↦ λ e. (padded_name part h.0 e, names parts h.1)
  | false ↦ λ e. names parts h.1
] refl

by_recursion : {X : Type 0} (P : X → Type 0) (xs : List X) → All P xs → AllByRecursion P xs
by_recursion P [] h = tt
by_recursion P (x ∷ xs) h = (h 0 x (omega arith), by_recursion P xs (λ k d b. h (suc k) d (omega arith)))

pub component_names : (path : List ℕ) → All (λ byte. byte ≢ 0) path → AllByRecursion IsName (components path)
component_names path h = names (slice_split (λ byte. byte == slash) path) (pieces path (by_recursion (λ byte. byte ≢ 0) path h))

pub last_name : (name : List ℕ) (rest : List (List ℕ)) → AllByRecursion IsName (name ∷ rest) → IsName (get_or (name ∷ rest) (length rest) [])
last_name name [] h = h.0
last_name name (next ∷ rest) h = last_name next rest h.1
