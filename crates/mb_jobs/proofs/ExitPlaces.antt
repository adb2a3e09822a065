-- The added calls, one caller further on.
use Rattle.std.proofs.Common.{List, ◌++◌, ℕ, ◌+◌, ◌<◌, ◌≡◌, drop, length, ◌∙◌, append_assoc}
use Rattle.std.proofs.lemmas.List.{drop_more}
use Rattle.mb_jobs.specs.declared.jobs.Caller.{Caller}
use Rattle.mb_jobs.specs.declared.jobs.JobCall.{JobCall}
use Rattle.mb_jobs.specs.Callers.{the_caller}
use Rattle.mb_jobs.specs.Lists.{exit_at, exits_from}

pub exits_more : (calls : List JobCall) (callers : List Caller) (done : List JobCall) (place : ℕ) (all : List JobCall) → place < length callers
    → done ++ exits_from calls place (drop place callers) ≡ all → (done ++ exit_at calls place) ++ exits_from calls (place + 1) (drop (place + 1) callers) ≡ all
exits_more calls callers done place all inside so_far =
    let opened = rw (drop_more callers place the_caller inside) at so_far in
    append_assoc done (exit_at calls place) (exits_from calls (place + 1) (drop (place + 1) callers)) ∙ opened
