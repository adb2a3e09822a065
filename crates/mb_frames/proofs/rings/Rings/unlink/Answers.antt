use Rattle.mb_frames.proofs.Outcomes.{unlink_ends, unlink_sides, unlink_sound, unlink_rings, unlink_spare, unlink_gone, unlink_others}
use Rattle.mb_frames.proofs.rings.Rings.unlink.Goals as goal

pub move_run-requires-clause-ends : goal.move_run-requires-clause-ends
move_run-requires-clause-ends c = unlink_ends c.self.inside _ c.self.view_is c.self.invariant _ _ c.token.view_is c.requires

pub move_run-requires-clause-sides : goal.move_run-requires-clause-sides
move_run-requires-clause-sides c = unlink_sides c.self.inside _ c.self.view_is c.self.invariant _ _ c.token.view_is c.requires

pub invariant_of-self : goal.invariant_of-self
invariant_of-self c = unlink_sound c.self.inside _ c.self.view_is c.self.invariant _ _ c.token.view_is c.requires _ c.move_run.ensures.cells

pub returns-clause-rings : goal.returns-clause-rings
returns-clause-rings c = unlink_rings c.self.inside _ c.self.view_is c.self.invariant _ _ c.token.view_is c.requires _ c.move_run.ensures.cells

pub returns-clause-spare : goal.returns-clause-spare
returns-clause-spare c = unlink_spare c.self.inside _ c.self.view_is c.self.invariant _ _ c.token.view_is c.requires _ c.move_run.ensures.cells

pub returns-clause-gone : goal.returns-clause-gone
returns-clause-gone c = unlink_gone c.self.inside _ c.self.view_is c.self.invariant _ _ c.token.view_is c.requires _ c.move_run.ensures.cells

pub returns-clause-others : goal.returns-clause-others
returns-clause-others c = unlink_others c.self.inside _ c.self.view_is c.self.invariant _ _ c.token.view_is c.requires _ c.move_run.ensures.cells
