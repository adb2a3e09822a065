-- The place of a call among its caller's calls is how many of them stand before it, and one.
use Rattle.std.proofs.Common.{List, [], ◌∷◌, ◌++◌, ℕ, zero, suc, ◌+◌, ◌<◌, ◌≡◌, get_or, length, take, ap, sym, ◌∙◌, append_assoc, append-nil, arith}
use Rattle.std.specs.Prelude.{slice_index}
use Rattle.mb_jobs.specs.declared.jobs.JobCall.{JobCall}
use Rattle.mb_jobs.specs.Lists.{calls_of, ordinals, ordinals_after}

place_after : (before calls : List JobCall) (place : ℕ) (d : JobCall) → place < length calls
    → slice_index (ordinals_after before calls) place ≡ calls_of (before ++ take place calls) (get_or calls place d).caller + 1
place_after before [] place d inside = absurd (omega arith)
place_after before (call ∷ more) zero d inside = ap (λ (some : List JobCall). calls_of some call.caller + 1) (sym (append-nil before))
place_after before (call ∷ more) (suc place) d inside =
    place_after (before ++ call ∷ []) more place d (omega arith)
    ∙ ap (λ (some : List JobCall). calls_of some (get_or more place d).caller + 1) (append_assoc before (call ∷ []) (take place more))

pub place_in : (calls : List JobCall) (place : ℕ) (d : JobCall) → place < length calls → slice_index (ordinals calls) place ≡ calls_of (take place calls) (get_or calls place d).caller + 1
place_in calls place d inside = place_after [] calls place d inside
