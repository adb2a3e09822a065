-- What a ticket is answered at the gate.
use Rattle.std.specs.Prelude.{ℕ, Bool, if◌then◌else◌, nat_eq}
use Rattle.mb_kinds.specs.declared.faults.Ticket.{Ticket}
use Rattle.mb_gate.specs.declared.verdicts.Verdict.{Verdict}
use Rattle.mb_gate.specs.declared.verdicts.Verdict.TheVariants as verdict

-- a ticket of another incarnation is skipped, and one of the present incarnation waits where the volume is shut
abbrev pub verdict_of : Ticket → ℕ → Bool → Verdict
verdict_of ticket incarnation shut =
    if nat_eq ticket.incarnation incarnation
    then (if shut then verdict.Shut else verdict.Pass)
    else verdict.Skip ticket.incarnation incarnation
