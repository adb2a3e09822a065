use Rattle.mb_frames.proofs.Outcomes.{ring_is, fill_sound, fill_rings, fill_spare, fill_named, fill_others}
use Rattle.std.proofs.Common.{ap, ◌∙◌}
use Rattle.mb_frames.specs.Pages.{Shelf}
use Rattle.mb_frames.proofs.rings.Rings.fill.Goals as goal

pub fill-requires : goal.fill-requires
fill-requires c = ring_is c.self.inside _ c.self.view_is c.self.invariant c.args.ring c.requires c.index.result.now c.index.ensures

pub invariant_of-self : goal.invariant_of-self
invariant_of-self c = fill_sound c.self.inside _ c.self.view_is c.self.invariant c.args.ring c.requires c.index.result.now c.index.ensures _ _ c.fill.ensures.cells

pub returns-clause-rings : goal.returns-clause-rings
unfolding Rattle.mb_frames.specs.Pages.filled
returns-clause-rings c = fill_rings c.self.inside _ c.self.view_is c.self.invariant c.args.ring c.requires c.index.result.now c.index.ensures _ _ c.fill.ensures.cells

pub returns-clause-named : goal.returns-clause-named
returns-clause-named c = fill_named c.self.inside _ c.self.view_is c.self.invariant c.args.ring c.requires c.index.result.now c.index.ensures _ _ c.fill.ensures.cells

pub returns-clause-others : goal.returns-clause-others
returns-clause-others c = fill_others c.self.inside _ c.self.view_is c.self.invariant c.args.ring c.requires c.index.result.now c.index.ensures _ _ c.fill.ensures.cells

pub returns-clause-same : goal.returns-clause-same
returns-clause-same c = (fill_spare c.self.inside _ c.self.view_is c.self.invariant c.args.ring c.requires c.index.result.now c.index.ensures _ _ c.fill.ensures.cells, c.fill.ensures.writes ∙ ap (λ (v : Shelf). v.writes) c.self.view_is)
