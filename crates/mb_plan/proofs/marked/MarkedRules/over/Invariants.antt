use Rattle.std.proofs.Common.{◌≡◌, length, take}
use Rattle.mb_plan.specs.Marks.{AreMarked}
use Rattle.mb_plan.proofs.marked.MarkedRules.over.Given as goal

abbrev pub invariant-loop-rule : goal.invariant-loop-rule
invariant-loop-rule l = (length l.marks ≡ 65536) × AreMarked (take l.rule-index l.rules) l.marks
