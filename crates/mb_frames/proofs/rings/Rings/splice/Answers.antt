use Rattle.std.proofs.Common.{sym, ◌∙◌}
use Rattle.mb_frames.proofs.Outcomes.{head_at_is, first_at_is, none_spliced, splice_ends, splice_sides, splice_sound, splice_rings, splice_spare, splice_others}
use Rattle.mb_frames.proofs.rings.Rings.splice.Goals as goal

pub next-first-requires : goal.next-first-requires
next-first-requires c = head_at_is c.self.inside _ c.self.view_is c.self.invariant c.args.from c.requires.rings.0 c.index-head.result.now c.index-head.ensures

pub is_head-requires : goal.is_head-requires
is_head-requires c = first_at_is c.self.inside _ c.self.view_is c.self.invariant c.args.from c.requires.rings.0 c.index-head.result.now c.index-head.ensures _ c.next-first.ensures

pub returns-then-is_head-clause-rings : goal.returns-then-is_head-clause-rings
returns-then-is_head-clause-rings c = none_spliced c.self.inside _ c.self.view_is c.self.invariant c.args.from c.requires.rings.0 c.index-head.result.now c.index-head.ensures _ c.next-first.ensures (sym c.is_head.ensures ∙ c.if-is_head.true) c.args.to

pub prev-last-requires : goal.prev-last-requires
prev-last-requires c = head_at_is c.self.inside _ c.self.view_is c.self.invariant c.args.from c.requires.rings.0 c.index-head.result.now c.index-head.ensures

pub move_run-requires-clause-ends : goal.move_run-requires-clause-ends
move_run-requires-clause-ends c = splice_ends c.self.inside _ c.self.view_is c.self.invariant c.args.from c.requires.rings.0 c.index-head.result.now c.index-head.ensures _ c.next-first.ensures (sym c.is_head.ensures ∙ c.if-is_head.false) _ c.prev-last.ensures c.args.to c.requires.differ c.requires.rings.1 c.index-target.result.now c.index-target.ensures

pub move_run-requires-clause-sides : goal.move_run-requires-clause-sides
move_run-requires-clause-sides c = splice_sides c.self.inside _ c.self.view_is c.self.invariant c.args.from c.requires.rings.0 c.index-head.result.now c.index-head.ensures _ c.next-first.ensures (sym c.is_head.ensures ∙ c.if-is_head.false) _ c.prev-last.ensures c.args.to c.requires.differ c.requires.rings.1 c.index-target.result.now c.index-target.ensures

pub invariant_of-self : goal.invariant_of-self
invariant_of-self c = splice_sound c.self.inside _ c.self.view_is c.self.invariant c.args.from c.requires.rings.0 c.index-head.result.now c.index-head.ensures _ c.next-first.ensures (sym c.is_head.ensures ∙ c.if-is_head.false) _ c.prev-last.ensures c.args.to c.requires.differ c.requires.rings.1 c.index-target.result.now c.index-target.ensures _ c.move_run.ensures.cells

pub returns-clause-rings : goal.returns-clause-rings
returns-clause-rings c = splice_rings c.self.inside _ c.self.view_is c.self.invariant c.args.from c.requires.rings.0 c.index-head.result.now c.index-head.ensures _ c.next-first.ensures (sym c.is_head.ensures ∙ c.if-is_head.false) _ c.prev-last.ensures c.args.to c.requires.differ c.requires.rings.1 c.index-target.result.now c.index-target.ensures _ c.move_run.ensures.cells

pub returns-clause-spare : goal.returns-clause-spare
returns-clause-spare c = splice_spare c.self.inside _ c.self.view_is c.self.invariant c.args.from c.requires.rings.0 c.index-head.result.now c.index-head.ensures _ c.next-first.ensures (sym c.is_head.ensures ∙ c.if-is_head.false) _ c.prev-last.ensures c.args.to c.requires.differ c.requires.rings.1 c.index-target.result.now c.index-target.ensures _ c.move_run.ensures.cells

pub returns-clause-tokens : goal.returns-clause-tokens
returns-clause-tokens c = splice_others c.self.inside _ c.self.view_is c.self.invariant c.args.from c.requires.rings.0 c.index-head.result.now c.index-head.ensures _ c.next-first.ensures (sym c.is_head.ensures ∙ c.if-is_head.false) _ c.prev-last.ensures c.args.to c.requires.differ c.requires.rings.1 c.index-target.result.now c.index-target.ensures _ c.move_run.ensures.cells
