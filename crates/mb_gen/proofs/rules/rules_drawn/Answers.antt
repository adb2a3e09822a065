use Rattle.std.proofs.Common.{sym}
use Rattle.mb_gen.proofs.OneMore.{rules_more, rules_none}
use Rattle.mb_gen.proofs.rules.rules_drawn.Goals as goal

pub rules-init : goal.rules-init
rules-init g c = rw c.new-rules.ensures.items (sym (rules_none g.G.NextWord.step c.args.calls.now c.args.bound c.args.draws.now))

pub rules-preserved : goal.rules-preserved
rules-preserved g c =
    rw c.in_ok-push.ensures.items
    (rules_more g.G.NextWord.step c.args.calls.now c.args.bound c.rules._index c.args.draws.now c.rules.draws c.rules.rules.items c.in_ok-rule_drawn.field-0 c.rule_drawn.new.draws c.rules.invariant c.in_ok-rule_drawn.ensures)
