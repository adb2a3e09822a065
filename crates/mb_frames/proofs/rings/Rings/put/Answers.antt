use Rattle.mb_frames.proofs.Outcomes.{spare_at, put_page, put_fresh, put_ends, put_sides, put_sound, put_rings, put_spare, put_token, put_others}
use Rattle.mb_frames.proofs.rings.Rings.put.Goals as goal

pub next-first-requires : goal.next-first-requires
next-first-requires c = spare_at c.self.inside _ c.self.view_is c.self.invariant

pub store-requires : goal.store-requires
store-requires c = put_page c.self.inside _ c.self.view_is c.self.invariant c.args.ring c.requires.ring c.index-head.result.now c.index-head.ensures c.requires.spare _ c.next-first.ensures

pub move_run-requires-clause-ends : goal.move_run-requires-clause-ends
move_run-requires-clause-ends c = put_ends c.self.inside _ c.self.view_is c.self.invariant c.args.ring c.requires.ring c.index-head.result.now c.index-head.ensures c.requires.spare _ c.next-first.ensures _ _ _ c.store.ensures.cells

pub move_run-requires-clause-sides : goal.move_run-requires-clause-sides
move_run-requires-clause-sides c = put_sides c.self.inside _ c.self.view_is c.self.invariant c.args.ring c.requires.ring c.index-head.result.now c.index-head.ensures c.requires.spare _ c.next-first.ensures _ _ _ c.store.ensures.cells

pub invariant_of-self : goal.invariant_of-self
invariant_of-self c = put_sound c.self.inside _ c.self.view_is c.self.invariant c.args.ring c.requires.ring c.index-head.result.now c.index-head.ensures c.requires.spare _ c.next-first.ensures _ _ _ c.store.ensures.cells _ c.move_run.ensures.cells

pub returns-clause-rings : goal.returns-clause-rings
returns-clause-rings c = put_rings c.self.inside _ c.self.view_is c.self.invariant c.args.ring c.requires.ring c.index-head.result.now c.index-head.ensures c.requires.spare _ c.next-first.ensures _ _ _ c.store.ensures.cells _ c.move_run.ensures.cells

pub returns-clause-spare : goal.returns-clause-spare
returns-clause-spare c = put_spare c.self.inside _ c.self.view_is c.self.invariant c.args.ring c.requires.ring c.index-head.result.now c.index-head.ensures c.requires.spare _ c.next-first.ensures _ _ _ c.store.ensures.cells _ c.move_run.ensures.cells

pub returns-clause-fresh : goal.returns-clause-fresh
returns-clause-fresh c = put_fresh c.self.inside _ c.self.view_is c.self.invariant c.args.ring c.requires.ring c.index-head.result.now c.index-head.ensures c.requires.spare _ c.next-first.ensures

pub returns-clause-token : goal.returns-clause-token
returns-clause-token c = put_token c.self.inside _ c.self.view_is c.self.invariant c.args.ring c.requires.ring c.index-head.result.now c.index-head.ensures c.requires.spare _ c.next-first.ensures _ _ _ c.store.ensures.cells _ c.move_run.ensures.cells

pub returns-clause-others : goal.returns-clause-others
returns-clause-others c = put_others c.self.inside _ c.self.view_is c.self.invariant c.args.ring c.requires.ring c.index-head.result.now c.index-head.ensures c.requires.spare _ c.next-first.ensures _ _ _ c.store.ensures.cells _ c.move_run.ensures.cells
