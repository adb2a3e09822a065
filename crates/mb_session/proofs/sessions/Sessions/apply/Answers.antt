use Rattle.std.proofs.Common.{rules, ◌∙◌, sym, ap, subst}
use Rattle.mb_tree.specs.Sessions.{changed}
use Rattle.mb_session.specs.Ranges.{AreInRange, IsInRange}
use Rattle.mb_session.proofs.Ranges.{set_in, changed_in}
use Rattle.mb_session.proofs.sessions.Sessions.apply.Goals as goal

pub invariant_of-self : goal.invariant_of-self
invariant_of-self c =
    let fine = changed_in c.seat.result.now c.args.change c.requires.ready (c.self.invariant.1 c.args.caller c.seat.result.now (search rules)) in (
      search rules,
      subst AreInRange (sym c.set.ensures.items)
          (set_in _ _ _ (subst IsInRange (sym (c.change.ensures ∙ ap (λ s. changed s c.args.change) c.copied-seat.ensures)) fine) c.self.invariant.1),
    )
