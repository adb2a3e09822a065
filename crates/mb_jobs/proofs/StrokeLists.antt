-- The strokes of a list of words, one stroke further on, and words that write none.
use Rattle.std.proofs.Common.{List, [], ◌∷◌, ◌++◌, ℕ, ◌<◌, ◌≤◌, ◌≡◌, ◌≢◌, Option, Some, None, false, length, get_or, map, option_map, codes, refl, ap, ◌∙◌, append_assoc, arith}
use Rattle.std.specs.Prelude.{bytes_eq}
use Rattle.mb_edge.specs.declared.strokes.Stroke.{Stroke}
use Rattle.mb_jobs.specs.Rules.{strokes_in, strokes_with}

-- a stroke put behind what is done, and not before the rest
behind : (done : List Stroke) (stroke : Stroke) (rest : Option (List Stroke)) → option_map (λ (more : List Stroke). (done ++ stroke ∷ []) ++ more) rest ≡ option_map (λ (more : List Stroke). done ++ more) (strokes_with (Some stroke) rest)
behind done stroke None = refl
behind done stroke (Some more) = ap Some (append_assoc done (stroke ∷ []) more)

pub strokes_more : {X : Type 0} (f : X → List ℕ) (done : List Stroke) (stroke : Stroke) (words after : List X) (all : Option (List Stroke)) → strokes_in (map f words) ≡ strokes_with (Some stroke) (strokes_in (map f after))
    → option_map (λ (more : List Stroke). done ++ more) (strokes_in (map f words)) ≡ all → option_map (λ (more : List Stroke). (done ++ stroke ∷ []) ++ more) (strokes_in (map f after)) ≡ all
strokes_more f done stroke words after all first so_far =
    let opened = rw first at so_far in
    behind done stroke (strokes_in (map f after)) ∙ opened

pub strokes_in-one : {X : Type 0} (f : X → List ℕ) (words : List X) → length words < 2 → length words ≢ 0 → strokes_in (map f words) ≡ None
strokes_in-one f [] short some = absurd (some refl)
strokes_in-one f (verb ∷ []) short some = refl
strokes_in-one f (verb ∷ first ∷ more) short some = absurd (omega arith)

pub strokes_in-two : {X : Type 0} (f : X → List ℕ) (words : List X) (d : X) → length words < 3 → 2 ≤ length words → bytes_eq (f (get_or words 0 d)) (codes "wipe") ≡ false → strokes_in (map f words) ≡ None
strokes_in-two f [] d short long other = absurd (omega arith)
strokes_in-two f (verb ∷ []) d short long other = absurd (omega arith)
strokes_in-two f (verb ∷ first ∷ []) d short long other = rw other refl
strokes_in-two f (verb ∷ first ∷ second ∷ more) d short long other = absurd (omega arith)
