use Rattle.std.proofs.Common.{◌≡◌, ◌<◌, ℕ}
use Rattle.std.specs.FinMap as fin
use Rattle.mb_session.proofs.sameness.have_same_places.Given as goal

abbrev pub invariant-loop-fd : goal.invariant-loop-fd
invariant-loop-fd l = record { same : (k : ℕ) → k < l.fd → fin.get l.fds k ≡ fin.get l.others k }
