use Rattle.mb_tree.proofs.Repicking.{replans}
use Rattle.mb_tree.proofs.pick_laws.plan_repicked.Goals as goal

pub returns : goal.returns
returns c = λ machine caller made moment number pick planned h. replans number machine caller made moment pick planned h
