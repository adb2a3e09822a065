use Rattle.std.proofs.Common.{ℕ, List, ap, map, ◌∙◌}
use Rattle.mb_edge.specs.Damage.{wiped}
use Rattle.mb_frames.specs.Pages.{contents}
use Rattle.mb_layers.specs.Pages.{LayerState}
use Rattle.mb_layers.proofs.Replaced.{placed_filled, contents_filled, changes_filled}
use Rattle.mb_layers.proofs.Sound.{current_is, same_sound}
use Rattle.mb_layers.proofs.layers.Layers.wipe.Goals as goal

pub invariant_of-self : goal.invariant_of-self
invariant_of-self c = same_sound c.self.inside.rings c.fill.new.self c.self.inside.tokens c.self.inside.both.items c.self.invariant _ c.fill.ensures.rings (placed_filled _ _) (changes_filled _ _ c.self.invariant.rings.current) (λ p. (c.fill.ensures.named p).stands)

pub returns-clause-current : goal.returns-clause-current
returns-clause-current c =
    ap contents (current_is c.self.inside.rings c.fill.new.self c.self.inside.tokens c.self.inside.both.items c.self.invariant _ c.fill.ensures.rings) ∙ contents_filled _ _
    ∙ ap (λ (v : LayerState). map (λ (page : ℕ × List ℕ). (page.0, wiped c.args.byte)) v.current) c.self.view_is
