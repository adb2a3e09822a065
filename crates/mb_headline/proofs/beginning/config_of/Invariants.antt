use Rattle.std.proofs.Common.{◌≡◌, map, take}
use Rattle.mb_jobs.specs.declared.jobs.Caller.{Caller}
use Rattle.mb_headline.proofs.beginning.config_of.Given as goal

abbrev pub invariant-loop-caller : goal.invariant-loop-caller
invariant-loop-caller l = record {
  creds : l.creds.items ≡ map (λ (caller : Caller). caller.cred) (take l.caller-index l.caller-items);
}
