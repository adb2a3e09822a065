use Rattle.std.proofs.Common.{inl, inr, sym, subst, ap, ◌∙◌}
use Rattle.mb_iface.specs.Needs.{IsNeed}
use Rattle.mb_iface.specs.declared.replies.Need.{Need}
use Rattle.mb_alloc.proofs.Within.{lacks}
use Rattle.mb_kinds.specs.Changed.{changed}
use Rattle.mb_tree.specs.Blocks.{pointers}
use Rattle.mb_tree.specs.Views.{over}
use Rattle.std.specs.List.{Contains}
use Rattle.mb_file.specs.Walking.{under_dinode}
use Rattle.mb_file.proofs.frees.lacking_first.Goals as goal
use Rattle.mb_file.proofs.frees.lacking_first.Goals.{in-Some, in-None+in-None-seen}

pub returns : goal.returns
returns g c = elim c.match-lacking_parts.branch [
  | in-Some w ↦
      (let first = c.with.ensures.first ∙ ap (λ (need : Need). need.first) w.need-is in (
        c.with.ensures.need (g.V.View.shown c.args.view.now) (subst (IsNeed (g.V.View.shown c.args.view.now)) (sym w.need-is) w.in-Some.ensures.0),
        λ blocks part. inr (subst (Contains (under_dinode (pointers (over blocks (changed c.args.changes.now))) c.args.inode.now)) (sym first) (w.in-Some.ensures.1 blocks part)),
      ))
  | in-None+in-None-seen w ↦
      (let first = ap (λ (need : Need). need.first) w.need-is in (
        c.with.ensures.need (g.V.View.shown c.args.view.now) (subst (IsNeed (g.V.View.shown c.args.view.now)) (sym w.need-is) (w.one.ensures.need (g.V.View.shown c.args.view.now) (lacks (changed c.args.changes.now 1) (g.V.View.shown c.args.view.now 1) w.in-None-seen.ensures.missing))),
        λ blocks part. inl (c.with.ensures.first ∙ first ∙ w.one.ensures.first),
      ))
]
