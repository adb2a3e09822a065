use Rattle.std.proofs.Common.{subst, sym}
use Rattle.mb_core_events.specs.Callings.{HasOpenCall}
use Rattle.mb_volume.specs.Shared.{Shared}
use Rattle.mb_volume.proofs.shared.SharedCore.quit.Goals as goal

pub quit-requires : goal.quit-requires
quit-requires g c = rw c.deref_mut.ensures.value (subst (λ (s : Shared g.row.F.Denot g.row.D.Denot). HasOpenCall s.core.core c.args.caller) (sym c.self.view_is) c.requires)

pub invariant_of-self : goal.invariant_of-self
invariant_of-self g c =
    let has : HasOpenCall c.deref_mut.result.now.core.core c.args.caller = rw c.deref_mut.ensures.value (subst (λ (s : Shared g.row.F.Denot g.row.D.Denot). HasOpenCall s.core.core c.args.caller) (sym c.self.view_is) c.requires) in
    (rw c.deref_mut.ensures.value c.self.invariant.0, rw ((c.quit.ensures.quit has.0.mine has.0.here).0, c.deref_mut.ensures.value) c.self.invariant.1)
