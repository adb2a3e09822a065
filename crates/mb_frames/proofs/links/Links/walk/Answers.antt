use Rattle.std.proofs.Common.{sym, ◌∙◌, ◌+◌, subst, arith}
use denote.RawPtr.{Ptr}
use Rattle.mb_frames.proofs.Walks.{Walking, ring_head, walk_starts, walk_there, walk_steps, walk_ends}
use Rattle.mb_frames.proofs.links.Links.walk.Goals as goal

pub next-at-requires : goal.next-at-requires
next-at-requires c = ring_head _ _ c.requires

pub steps-init : goal.steps-init
steps-init c = walk_starts _ _ _ _ c.requires c.next-at.ensures

pub is_head-requires : goal.is_head-requires
is_head-requires c = walk_there _ _ _ _ _ c.steps.invariant

pub next-at-requires-in-steps : goal.next-at-requires-in-steps
next-at-requires-in-steps c = walk_there _ _ _ _ _ c.steps.invariant

pub steps-preserved : goal.steps-preserved
steps-preserved c =
    subst (λ (q : Ptr). Walking c.args.self.now.nodes.cells c.args.head.ptr c.args.most q (c.steps.steps + 1)) (sym c.next-at-in-steps.ensures)
    (walk_steps _ _ _ _ _ c.steps.invariant (sym c.is_head.ensures ∙ c.if-not-is_head.true) c.steps-test.true)

pub returns-else-not-is_head : goal.returns-else-not-is_head
returns-else-not-is_head c = walk_ends _ _ _ c.steps.at.ptr _ c.steps.invariant (λ w. sym c.is_head.ensures ∙ c.if-not-is_head.false)

pub returns-after-steps : goal.returns-after-steps
returns-after-steps c = walk_ends _ _ _ c.steps.at.ptr _ c.steps.invariant (λ w. absurd (omega (arith, w, c.steps-test.false)))
