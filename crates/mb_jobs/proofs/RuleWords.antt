-- Words that are too few for a rule, the call that a rule names, and a list of texts one text further on.
use Rattle.std.proofs.Common.{List, [], ◌∷◌, ◌++◌, ℕ, zero, suc, ◌+◌, ◌<◌, ◌≡◌, Option, Some, None, Result, length, get_or, drop, map, refl, arith}
use Rattle.std.specs.Prelude.{slice_get}
use Rattle.std.specs.Option.{option_map_or}
use Rattle.std.proofs.lemmas.List.{drop_more}
use Rattle.mb_jobs.specs.declared.jobs.JobCall.{JobCall}
use Rattle.mb_jobs.specs.Folds.{read_all}
use Rattle.mb_jobs.specs.Lists.{ordinals, ordinals_after}
use Rattle.mb_jobs.specs.Rules.{rule_of_words}

pub rule_of_words-short : {X : Type 0} (f : X → List ℕ) (calls : List JobCall) (words : List X) → length words < 4 → rule_of_words calls (map f words) ≡ None
rule_of_words-short f calls [] short = refl
rule_of_words-short f calls (call ∷ []) short = refl
rule_of_words-short f calls (call ∷ kind ∷ []) short = refl
rule_of_words-short f calls (call ∷ kind ∷ skip ∷ []) short = refl
rule_of_words-short f calls (call ∷ kind ∷ skip ∷ times ∷ strokes) short = absurd (omega arith)

length-after : (before calls : List JobCall) → length (ordinals_after before calls) ≡ length calls
length-after before [] = refl
length-after before (call ∷ more) = let rest = length-after (before ++ call ∷ []) more in omega arith

pub length-ordinals : (calls : List JobCall) → length (ordinals calls) ≡ length calls
length-ordinals calls = length-after [] calls

pub caller-at : (calls : List JobCall) (at : ℕ) (call : JobCall) → at < length calls → (get_or calls at call).caller ≡ option_map_or (λ (call : JobCall). call.caller) (slice_get calls at) 0
caller-at [] at call inside = absurd (omega arith)
caller-at (first ∷ more) zero call inside = refl
caller-at (first ∷ more) (suc at) call inside = caller-at more at call (omega arith)

pub read_all-more : {A X : Type 0} (f : X → List ℕ) (next : List A → List ℕ → Option A) (before : List A) (texts : List X) (i : ℕ) (d : X) (one : A) (all : Result (List A) ℕ) → i < length texts
    → next before (f (get_or texts i d)) ≡ Some one → read_all next before (map f (drop i texts)) ≡ all → read_all next (before ++ one ∷ []) (map f (drop (i + 1) texts)) ≡ all
read_all-more f next before texts i d one all inside found so_far =
    let opened = rw (drop_more texts i d inside) at so_far in
    rw found at opened
