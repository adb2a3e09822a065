use Rattle.std.proofs.Common.{◌≡◌, ◌<◌, ℕ}
use Rattle.std.specs.FinMap as fin
use Rattle.mb_session.proofs.sameness.have_same_files.Given as goal

abbrev pub invariant-loop-place : goal.invariant-loop-place
invariant-loop-place l = record { same : (k : ℕ) → k < l.place → fin.get l.files k ≡ fin.get l.others k }
