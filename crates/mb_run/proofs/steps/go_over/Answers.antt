use Rattle.std.proofs.Common.{arith, subst, sym}
use Rattle.mb_run.proofs.Finishing.{held_declared, held_mine, held_tables, need_lacks}
use Rattle.mb_run.specs.Pages.{IsUnderWay}
use Rattle.mb_run.proofs.Inside.{did_nothing}
use Rattle.mb_run.proofs.steps.go_over.Goals as goal

pub returns-in-NoMemory-clause-did : goal.returns-in-NoMemory-clause-did
returns-in-NoMemory-clause-did g c = did_nothing _ _ _ _ _ c.requires.may c.args.ticket.now c.requires.inside

pub perform-requires-clause-tables : goal.perform-requires-clause-tables
perform-requires-clause-tables g c = held_tables _ _ _ _ _ c.requires.may c.args.ticket.now c.requires.inside

pub perform-requires-clause-declared : goal.perform-requires-clause-declared
perform-requires-clause-declared g c = held_declared _ _ _ _ _ c.requires.may c.args.ticket.now c.requires.inside

pub gather_on-requires-clause-lacks : goal.gather_on-requires-clause-lacks
gather_on-requires-clause-lacks g c = need_lacks _ _ c.in-Need.ensures.asked

pub gather_on-requires-clause-first : goal.gather_on-requires-clause-first
gather_on-requires-clause-first g c = omega (arith, c.in-Need.ensures.asked.below)

pub gather_on-requires-clause-some : goal.gather_on-requires-clause-some
gather_on-requires-clause-some g c = c.in-Need.ensures.asked.some

pub gather_on-requires-clause-count : goal.gather_on-requires-clause-count
gather_on-requires-clause-count g c = c.in-Need.ensures.asked.few

pub perform-requires-clause-going : goal.perform-requires-clause-going
perform-requires-clause-going g c = subst (λ caller. IsUnderWay c.args.runner.now.pages caller c.args.call.now c.args.way.now) (sym (held_mine _ _ _ _ _ c.requires.may c.args.ticket.now c.requires.inside)) c.requires.going

pub gather_on-requires-clause-going : goal.gather_on-requires-clause-going
gather_on-requires-clause-going g c = subst (λ caller. IsUnderWay c.args.runner.now.pages caller c.args.call.now c.perform.new.way) (held_mine _ _ _ _ _ c.requires.may c.args.ticket.now c.requires.inside) c.perform.ensures.going

pub returns-in-NoMemory-clause-going : goal.returns-in-NoMemory-clause-going
returns-in-NoMemory-clause-going g c = subst (λ caller. IsUnderWay c.args.runner.now.pages caller c.args.call.now c.perform.new.way) (held_mine _ _ _ _ _ c.requires.may c.args.ticket.now c.requires.inside) c.perform.ensures.going
