use Rattle.std.proofs.Common.{ap, ◌∙◌, slice_get, arith}
use Rattle.mb_edge.specs.Damage.{page_replaced}
use Rattle.mb_frames.specs.Pages.{contents}
use Rattle.mb_layers.specs.Pages.{LayerState}
use Rattle.mb_layers.proofs.Replaced.{placed_replaced, contents_replaced, changes_replaced}
use Rattle.mb_layers.proofs.Sound.{current_is, same_sound, same_spare}
use Rattle.mb_layers.proofs.layers.Layers.replace.Goals as goal

pub invariant_of-self : goal.invariant_of-self
invariant_of-self c =
    same_sound c.self.inside.rings c.replace.new.self c.self.inside.tokens c.self.inside.both.items c.self.invariant _ c.replace.ensures.rings (placed_replaced _ c.args.nth c.args.bytes.now) (changes_replaced _ c.args.nth c.args.bytes.now (omega arith) c.self.invariant.rings.current) (λ p. (c.replace.ensures.named p).stands)

pub returns-clause-current : goal.returns-clause-current
returns-clause-current c =
    ap contents (current_is c.self.inside.rings c.replace.new.self c.self.inside.tokens c.self.inside.both.items c.self.invariant _ c.replace.ensures.rings) ∙ contents_replaced _ c.args.nth c.args.bytes.now
    ∙ ap (λ (v : LayerState). page_replaced v.current c.args.nth c.args.bytes.now (slice_get v.current c.args.nth)) c.self.view_is

pub returns-clause-spare : goal.returns-clause-spare
returns-clause-spare c =
    same_spare c.self.inside.rings c.replace.new.self c.self.inside.tokens c.self.inside.both.items c.self.invariant _ c.replace.ensures.rings (placed_replaced _ c.args.nth c.args.bytes.now) (changes_replaced _ c.args.nth c.args.bytes.now (omega arith) c.self.invariant.rings.current) (λ p. (c.replace.ensures.named p).stands) _ c.replace.ensures.same.0
    ∙ ap (λ (v : LayerState). v.spare) c.self.view_is
