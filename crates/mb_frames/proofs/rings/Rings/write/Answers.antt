use Rattle.mb_frames.proofs.Outcomes.{page_at, write_sound, write_rings, write_token, write_named, write_others, write_spare}
use Rattle.std.proofs.Common.{ap, ◌∙◌}
use Rattle.mb_frames.specs.Pages.{Shelf}
use Rattle.mb_frames.proofs.rings.Rings.write.Goals as goal

pub write-requires : goal.write-requires
write-requires c = page_at c.self.inside _ c.self.view_is c.self.invariant _ _ c.token.view_is c.requires

pub invariant_of-self : goal.invariant_of-self
invariant_of-self c = write_sound c.self.inside _ c.self.view_is c.self.invariant _ _ c.token.view_is c.requires _ _ c.write.ensures.cells

pub returns-clause-rings : goal.returns-clause-rings
returns-clause-rings c = write_rings c.self.inside _ c.self.view_is c.self.invariant _ _ c.token.view_is c.requires _ _ c.write.ensures.cells

pub returns-clause-token : goal.returns-clause-token
returns-clause-token c = write_token c.self.inside _ c.self.view_is c.self.invariant _ _ c.token.view_is c.requires _ _ c.write.ensures.cells

pub returns-clause-named : goal.returns-clause-named
returns-clause-named c = write_named c.self.inside _ c.self.view_is c.self.invariant _ _ c.token.view_is c.requires _ _ c.write.ensures.cells

pub returns-clause-others : goal.returns-clause-others
returns-clause-others c = write_others c.self.inside _ c.self.view_is c.self.invariant _ _ c.token.view_is c.requires _ _ c.write.ensures.cells

pub returns-clause-same : goal.returns-clause-same
returns-clause-same c = (write_spare c.self.inside _ c.self.view_is c.self.invariant _ _ c.token.view_is c.requires _ _ c.write.ensures.cells, c.write.ensures.writes ∙ ap (λ (v : Shelf). v.writes) c.self.view_is)
