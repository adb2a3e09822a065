use Rattle.std.proofs.Common.{sym, ◌∙◌}
use Rattle.mb_frames.proofs.Outcomes.{head_at_is, first_at_is, none_released, none_spare, release_ends, release_sides, release_sound, release_rings, release_spare, release_others}
use Rattle.mb_frames.proofs.rings.Rings.release.Goals as goal

pub next-first-requires : goal.next-first-requires
next-first-requires c = head_at_is c.self.inside _ c.self.view_is c.self.invariant c.args.ring c.requires c.index-head.result.now c.index-head.ensures

pub is_head-requires : goal.is_head-requires
is_head-requires c = first_at_is c.self.inside _ c.self.view_is c.self.invariant c.args.ring c.requires c.index-head.result.now c.index-head.ensures _ c.next-first.ensures

pub returns-then-is_head-clause-rings : goal.returns-then-is_head-clause-rings
returns-then-is_head-clause-rings c = none_released c.self.inside _ c.self.view_is c.self.invariant c.args.ring c.requires c.index-head.result.now c.index-head.ensures _ c.next-first.ensures (sym c.is_head.ensures ∙ c.if-is_head.true)

pub returns-then-is_head-clause-spare : goal.returns-then-is_head-clause-spare
returns-then-is_head-clause-spare c = none_spare c.self.inside _ c.self.view_is c.self.invariant c.args.ring c.requires c.index-head.result.now c.index-head.ensures _ c.next-first.ensures (sym c.is_head.ensures ∙ c.if-is_head.true)

pub prev-last-requires : goal.prev-last-requires
prev-last-requires c = head_at_is c.self.inside _ c.self.view_is c.self.invariant c.args.ring c.requires c.index-head.result.now c.index-head.ensures

pub move_run-requires-clause-ends : goal.move_run-requires-clause-ends
move_run-requires-clause-ends c = release_ends c.self.inside _ c.self.view_is c.self.invariant c.args.ring c.requires c.index-head.result.now c.index-head.ensures _ c.next-first.ensures (sym c.is_head.ensures ∙ c.if-is_head.false) _ c.prev-last.ensures

pub move_run-requires-clause-sides : goal.move_run-requires-clause-sides
move_run-requires-clause-sides c = release_sides c.self.inside _ c.self.view_is c.self.invariant c.args.ring c.requires c.index-head.result.now c.index-head.ensures _ c.next-first.ensures (sym c.is_head.ensures ∙ c.if-is_head.false) _ c.prev-last.ensures

pub invariant_of-self : goal.invariant_of-self
invariant_of-self c = release_sound c.self.inside _ c.self.view_is c.self.invariant c.args.ring c.requires c.index-head.result.now c.index-head.ensures _ c.next-first.ensures (sym c.is_head.ensures ∙ c.if-is_head.false) _ c.prev-last.ensures _ c.move_run.ensures.cells

pub returns-clause-rings : goal.returns-clause-rings
returns-clause-rings c = release_rings c.self.inside _ c.self.view_is c.self.invariant c.args.ring c.requires c.index-head.result.now c.index-head.ensures _ c.next-first.ensures (sym c.is_head.ensures ∙ c.if-is_head.false) _ c.prev-last.ensures _ c.move_run.ensures.cells

pub returns-clause-spare : goal.returns-clause-spare
returns-clause-spare c = release_spare c.self.inside _ c.self.view_is c.self.invariant c.args.ring c.requires c.index-head.result.now c.index-head.ensures _ c.next-first.ensures (sym c.is_head.ensures ∙ c.if-is_head.false) _ c.prev-last.ensures _ c.move_run.ensures.cells

pub returns-clause-others : goal.returns-clause-others
returns-clause-others c = release_others c.self.inside _ c.self.view_is c.self.invariant c.args.ring c.requires c.index-head.result.now c.index-head.ensures _ c.next-first.ensures (sym c.is_head.ensures ∙ c.if-is_head.false) _ c.prev-last.ensures _ c.move_run.ensures.cells
