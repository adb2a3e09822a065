use Rattle.std.proofs.Common.{arith}
use Rattle.std.proofs.lemmas.List.{length-set}
use Rattle.mb_plan.proofs.Marking.{marked_all, marked_more}
use Rattle.mb_plan.proofs.marked.MarkedRules.over.Goals as goal

pub loop-rule-preserved : goal.loop-rule-preserved
loop-rule-preserved c =
    let long = c.loop-rule.invariant.0 in (
      simp length-set long,
      marked_more c.args.rules.now c.loop-rule.marks c.loop-rule.rule-index c.slot_of.result c.rule-item.result (omega arith) (omega arith) c.rule-item.is c.slot_of.ensures.slot c.loop-rule.invariant.1,
    )

pub invariant_of-result : goal.invariant_of-result
invariant_of-result c = marked_all c.args.rules.now c.loop-rule.marks c.loop-rule.rule-index (omega arith) c.loop-rule.invariant.1
