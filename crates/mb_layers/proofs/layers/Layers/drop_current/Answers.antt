use Rattle.std.proofs.Common.{sym, subst, ◌≤◌, arith, rules}
use Rattle.mb_frames.specs.Pages.{standing}
use Rattle.mb_layers.proofs.Moved.{once_emptied}
use Rattle.mb_layers.proofs.Sealed.{begun_one}
use Rattle.mb_layers.proofs.Sound.{dropped_sound}
use Rattle.mb_layers.proofs.layers.Layers.drop_current.Goals as goal

pub invariant_of-self : goal.invariant_of-self
invariant_of-self c =
    dropped_sound c.self.inside.rings c.release.new.self c.self.inside.tokens c.drop_current.new.self c.self.inside.both.items c.self.invariant c.release.ensures.rings
    (λ p. subst (λ rs. standing p rs ≤ 1) (sym c.release.ensures.rings) (once_emptied c.self.inside.rings.rings 1 (omega (arith, c.self.invariant.rings.two)) c.self.invariant.rings.once p))
    c.drop_current.ensures.current c.drop_current.ensures.sealed c.drop_current.ensures.aged (search rules)
    (omega (arith, c.drop_current.ensures.map.1, c.self.invariant.seals, begun_one c.first.result (λ page. (page.0, page.1.now)) c.self.inside.rings.rings c.if-is_none.ensures c.first.ensures.some))
    c.clear.new.self.items c.clear.ensures.items
