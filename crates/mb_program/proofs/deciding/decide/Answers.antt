use Rattle.mb_program.proofs.Words.{soak_numbers}
use Rattle.mb_program.proofs.deciding.decide.Goals as goal

pub soak_over-requires-clause-some : goal.soak_over-requires-clause-some
soak_over-requires-clause-some g c = (soak_numbers c.in-Some-Soak.number c.in-Some-Soak.calls c.in-Some-Soak.faults c.args.words.now c.command_of.result c.in-Some-Soak.field-0 c.command_of.ensures c.in-Some-Soak.is c.in-Some-Soak.field-0-is).0

pub soak_over-requires-clause-many : goal.soak_over-requires-clause-many
soak_over-requires-clause-many g c = (soak_numbers c.in-Some-Soak.number c.in-Some-Soak.calls c.in-Some-Soak.faults c.args.words.now c.command_of.result c.in-Some-Soak.field-0 c.command_of.ensures c.in-Some-Soak.is c.in-Some-Soak.field-0-is).1

pub soak_over-requires-clause-few : goal.soak_over-requires-clause-few
soak_over-requires-clause-few g c = (soak_numbers c.in-Some-Soak.number c.in-Some-Soak.calls c.in-Some-Soak.faults c.args.words.now c.command_of.result c.in-Some-Soak.field-0 c.command_of.ensures c.in-Some-Soak.is c.in-Some-Soak.field-0-is).2
