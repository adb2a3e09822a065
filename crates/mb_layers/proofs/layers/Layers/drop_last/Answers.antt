use Rattle.std.proofs.Common.{length, nat_eq, sym, ap, ◌∙◌}
use Rattle.std.proofs.lemmas.List.{length-map}
use Rattle.std.specs.Map.{remove_entry}
use Rattle.mb_frames.specs.Pages.{Page, contents}
use Rattle.mb_layers.specs.Pages.{LayerState}
use Rattle.mb_layers.specs.State.{sealed_ring}
use Rattle.mb_layers.proofs.Lasts.{last_left}
use Rattle.mb_layers.proofs.layers.Layers.drop_last.Goals as goal

pub returns-in-Some-clause-sealed : goal.returns-in-Some-clause-sealed
returns-in-Some-clause-sealed c = λ front page cut.
    let ring = sealed_ring c.self.inside.rings in
    c.take_page.ensures.sealed
    ∙ last_left (contents ring) front page c.in-Some.block _ (length ring) (sym (length-map ring (λ (g : Page). (g.block, g.bytes)))) c.self.invariant.rings.sealed.once c.in-Some.ensures.some
    (ap (λ (v : LayerState). v.sealed) c.self.view_is ∙ cut)

pub returns-in-Some-clause-none : goal.returns-in-Some-clause-none
returns-in-Some-clause-none c = λ none. c.take_page.ensures.sealed ∙ ap (remove_entry (nat_eq c.in-Some.block)) (ap (λ (v : LayerState). v.sealed) c.self.view_is ∙ none)
