use Rattle.std.proofs.Common.{sym, ◌∙◌}
use Rattle.std.specs.Prelude.{Some}
use Rattle.mb_frames.proofs.Outcomes.{head_at_is, last_at_is, last_none, last_index, ring_read}
use Rattle.mb_frames.proofs.rings.Rings.last.Goals as goal

pub prev-at-requires : goal.prev-at-requires
prev-at-requires c = head_at_is c.self.inside _ c.self.view_is c.self.invariant c.args.ring c.requires c.index.result.now c.index.ensures

pub is_head-requires : goal.is_head-requires
is_head-requires c = last_at_is c.self.inside _ c.self.view_is c.self.invariant c.args.ring c.requires c.index.result.now c.index.ensures _ c.prev-at.ensures

pub returns-then-is_head-clause-none : goal.returns-then-is_head-clause-none
returns-then-is_head-clause-none c = last_none c.self.inside _ c.self.view_is c.self.invariant c.args.ring c.requires c.index.result.now c.index.ensures _ c.prev-at.ensures (sym c.is_head.ensures ∙ c.if-is_head.true)

pub block-requires : goal.block-requires
block-requires c = last_at_is c.self.inside _ c.self.view_is c.self.invariant c.args.ring c.requires c.index.result.now c.index.ensures _ c.prev-at.ensures

pub bytes-requires : goal.bytes-requires
bytes-requires c = last_at_is c.self.inside _ c.self.view_is c.self.invariant c.args.ring c.requires c.index.result.now c.index.ensures _ c.prev-at.ensures

pub returns-clause-some : goal.returns-clause-some
returns-clause-some c =
    ring_read c.self.inside _ c.self.view_is c.self.invariant c.args.ring c.requires c.index.result.now c.index.ensures (λ g. (g.block, g.bytes)) _ _
    (last_index c.self.inside _ c.self.view_is c.self.invariant c.args.ring c.requires c.index.result.now c.index.ensures _ c.prev-at.ensures (sym c.is_head.ensures ∙ c.if-is_head.false))
    ∙ (λ i. Some (sym c.block.ensures i, sym c.bytes.ensures i))
