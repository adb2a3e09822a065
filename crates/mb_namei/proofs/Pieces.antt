-- The pieces between the slashes of a path, one after another.
use Rattle.std.proofs.Common.{ℕ, zero, suc, ◌≡◌, ◌≢◌, inl, inr, ◌+◌, ◌<◌, ◌≤◌, true, false, cond, not, List, [], ◌∷◌, length, take, drop, map, filter, refl, sym, ap, ◌∙◌, arith, add-one, drop-cons}
use Rattle.std.specs.Prelude.{slice_index, ◌==◌}
use Rattle.std.specs.List.{slice_split, onto_first}
use Rattle.std.proofs.lemmas.Bool.Decides.{nat_tests}
use Rattle.std.proofs.lemmas.List.{length-take, length-drop}
use Rattle.mb_tree.specs.Lookup.{padded, components, slash}
use Rattle.mb_namei.specs.Pieces.{StartsPiece, IsPieceLen}

abbrev split : List ℕ → List (List ℕ)
split path = slice_split (λ byte. byte == slash) path

split_slash : (x : ℕ) (path : List ℕ) → x ≡ slash → split (x ∷ path) ≡ [] ∷ split path
split_slash x path e = (let t : (x == slash) ≡ true = grind (arith, nat_tests) in ap (λ b. cond b ([] ∷ split path) (onto_first x (split path))) t)

split_byte : (x : ℕ) (path : List ℕ) → x ≢ slash → split (x ∷ path) ≡ onto_first x (split path)
split_byte x path e = (let t : (x == slash) ≡ false = grind (arith, nat_tests) in ap (λ b. cond b ([] ∷ split path) (onto_first x (split path))) t)

abbrev pub named : List (List ℕ) → List (List ℕ)
named pieces = map padded (filter (λ piece. not (length piece == 0)) pieces)

front : (path : List ℕ) (i : ℕ) → i < length path → drop i path ≡ slice_index path i ∷ drop (i + 1) path
front path i low = drop-cons path i 0 low ∙ ap (λ n. slice_index path i ∷ drop n path) (sym (add-one i))

pub piece_starts : (path behind : List ℕ) (i : ℕ) → behind ≡ drop i path → i < length path → length behind ≤ length path → slice_index path i ≢ slash → components (drop i path) ≡ components path → StartsPiece path behind
piece_starts path behind i is low shorter apart was = record {
  same = ap components is ∙ was;
  shorter = shorter;
  started = λ some e. apart (ap (λ xs. slice_index xs 0) (sym (is ∙ front path i low)) ∙ e);
}

-- ---- a piece and what is behind it

record IsSplitAt (path : List ℕ) (n : ℕ) : Type 0 where
  pub others : List (List ℕ)
  pub whole : split path ≡ take n path ∷ others
  pub behind : split (drop n path) ≡ [] ∷ others

later : (x : ℕ) (path : List ℕ) (n : ℕ) → IsPieceLen (x ∷ path) (suc n) → IsPieceLen path n
later x path n is = record {
  within = (let w = is.within in omega (arith, w));
  no_slash = λ at low. is.no_slash (suc at) (omega (arith, low));
  ended = elim is.ended [ inl all ↦ inl (omega (arith, all)) | inr at ↦ inr at ];
}

split_at : (path : List ℕ) (n : ℕ) → IsPieceLen path n → IsSplitAt path n
split_at [] zero is = record { others = []; whole = refl; behind = refl }
split_at [] (suc n) is = absurd (let w = is.within in omega (arith, w))
split_at (x ∷ path) zero is = elim is.ended [
  | inl all ↦ absurd (omega (arith, all))
  | inr at ↦ record { others = split path; whole = split_slash x path at; behind = split_slash x path at }
]
split_at (x ∷ path) (suc n) is =
    let rest = split_at path n (later x path n is) in
    record {
      others = rest.others;
      whole = split_byte x path (is.no_slash 0 (omega arith)) ∙ ap (onto_first x) rest.whole;
      behind = rest.behind;
    }

named_some : (piece : List ℕ) (others : List (List ℕ)) → 0 < length piece → named (piece ∷ others) ≡ padded piece ∷ named others
named_some piece others some =
    let t : not (length piece == 0) ≡ true = grind (arith, nat_tests) in
    ap (λ b. map padded (cond b (piece ∷ filter (λ piece. not (length piece == 0)) others) (filter (λ piece. not (length piece == 0)) others))) t

pub first_cut : (piece : List ℕ) (n : ℕ) → IsPieceLen piece n → 0 < length (take n piece) → components piece ≡ padded (take n piece) ∷ components (drop n piece)
first_cut piece n is some =
    let s = split_at piece n is in
    ap named s.whole ∙ named_some (take n piece) s.others some ∙ ap (λ xs. padded (take n piece) ∷ xs) (sym (ap named s.behind))

piece_some : (piece : List ℕ) (n : ℕ) → IsPieceLen piece n → 0 < length piece → (0 < length piece → slice_index piece 0 ≢ slash) → 0 < n
piece_some piece zero is some started = elim is.ended [ inl all ↦ absurd (omega (arith, all, some)) | inr at ↦ absurd (started some at) ]
piece_some piece (suc n) is some started = omega arith

-- the first component of a path, and what is behind it
pub first_found : (path piece : List ℕ) (n : ℕ) (name front rest : List ℕ) → StartsPiece path piece → IsPieceLen piece n → 0 < length piece → front ≡ take n piece → name ≡ padded front → rest ≡ drop n piece
    → (components path ≡ name ∷ components rest) × (length rest < length path)
first_found path piece n name front rest starts is some is_front is_name is_rest =
    let up = piece_some piece n is some starts.started in
    let w = is.within in
    let t = length-take n piece in
    let d = length-drop n piece in
    let r = ap length is_rest in
    let s = starts.shorter in
    let cut = first_cut piece n is (omega (arith, up, w, t)) in (
      sym starts.same ∙ cut ∙ ap (λ x. x ∷ components (drop n piece)) (ap padded (sym is_front) ∙ sym is_name) ∙ ap (λ xs. name ∷ components xs) (sym is_rest),
      omega (arith, up, w, d, r, s),
    )
