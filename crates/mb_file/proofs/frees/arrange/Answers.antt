use Rattle.std.proofs.Common.{subst, sym, arith}
use Rattle.std.specs.List.Sorted.{IsPermutation}
use Rattle.std.proofs.lemmas.List.Sorted.{IsPermutation-swap, IsPermutation-trans}
use Rattle.mb_file.proofs.frees.arrange.Goals as goal
use Rattle.mb_file.proofs.frees.arrange.Goals.{then-is_none+then-from-len, then-is_none+else-from-len, else-is_none}

pub loop-at-preserved : goal.loop-at-preserved
loop-at-preserved g c = elim c.if-is_none.branch [
  | then-is_none+then-from-len w ↦
      subst (λ l. IsPermutation c.args.list.now.items l.items) (sym w.list-is)
      (IsPermutation-trans c.args.list.now.items c.loop-at.list.items w.swap.new.self.items c.loop-at.invariant
      (IsPermutation-swap c.loop-at.list.items w.swap.new.self.items w.if-from-before.from c.loop-at.at (omega (arith, w.if-from-len.true, w.len-then-is_none.ensures)) (omega (arith, c.loop-at-test.true, c.len-in-loop-at.ensures)) w.swap.ensures.items))
  | then-is_none+else-from-len w ↦ subst (λ l. IsPermutation c.args.list.now.items l.items) (sym w.list-is) c.loop-at.invariant
  | else-is_none w ↦ subst (λ l. IsPermutation c.args.list.now.items l.items) (sym w.list-is) c.loop-at.invariant
]
