use Rattle.std.proofs.Common.{inl, inr, subst, ◌≤◌, length}
use Rattle.mb_check.proofs.Tallying.{parents_past, parents_same, parents_set}
use Rattle.mb_check.proofs.tallies.add_parent.Goals as goal

pub returns-then-place-parents : goal.returns-then-place-parents
returns-then-place-parents c blocks slot keeps =
    parents_set blocks c.args.dir c.args.at c.args.parents.now keeps c.args.ino c.from-place.result slot c.if-at-eq1.true c.from-place.ensures c.if-place-parents.true

pub returns-else-at-eq1 : goal.returns-else-at-eq1
returns-else-at-eq1 c blocks slot keeps = elim c.else-at-eq1.either [
  | inl past ↦ parents_past blocks c.args.dir c.args.at c.args.parents.now keeps (subst (λ n. length c.args.parents.now ≤ n) c.from-place.ensures past.1)
  | inr off ↦ parents_same blocks c.args.dir c.args.at c.args.parents.now keeps off
]
