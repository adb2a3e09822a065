use Rattle.std.proofs.Common.{sym, ap, ◌∙◌}
use Rattle.mb_frames.specs.Pages.{Shelf}
use Rattle.mb_frames.proofs.Stock.{walked_past, walked_index, walked_there}
use Rattle.mb_frames.proofs.Outcomes.{ring_is, ring_headed, replace_none, replace_sound, replace_rings, replace_spare, replace_named, replace_others}
use Rattle.mb_frames.proofs.rings.Rings.replace.Goals as goal

pub walk-steps-requires : goal.walk-steps-requires
walk-steps-requires c = ring_is c.self.inside _ c.self.view_is c.self.invariant c.args.ring c.requires c.index.result.now c.index.ensures

pub is_head-requires : goal.is_head-requires
is_head-requires c = walked_there _ _ _ _ _ c.walk-steps.ensures (ring_headed c.self.inside _ c.self.view_is c.self.invariant c.args.ring c.requires c.index.result.now c.index.ensures) (ring_is c.self.inside _ c.self.view_is c.self.invariant c.args.ring c.requires c.index.result.now c.index.ensures)

pub write-requires : goal.write-requires
write-requires c = walked_there _ _ _ _ _ c.walk-steps.ensures (ring_headed c.self.inside _ c.self.view_is c.self.invariant c.args.ring c.requires c.index.result.now c.index.ensures) (ring_is c.self.inside _ c.self.view_is c.self.invariant c.args.ring c.requires c.index.result.now c.index.ensures)

pub invariant_of-self : goal.invariant_of-self
invariant_of-self c = replace_sound c.self.inside _ c.self.view_is c.self.invariant c.args.ring c.requires c.index.result.now c.index.ensures _ _ _ _
    (walked_index _ _ _ _ _ c.walk-steps.ensures (ring_headed c.self.inside _ c.self.view_is c.self.invariant c.args.ring c.requires c.index.result.now c.index.ensures) (sym c.is_head.ensures ∙ c.if-not-is_head.true))
    c.write.ensures.cells

pub returns-then-not-is_head-clause-rings : goal.returns-then-not-is_head-clause-rings
returns-then-not-is_head-clause-rings c = replace_rings c.self.inside _ c.self.view_is c.self.invariant c.args.ring c.requires c.index.result.now c.index.ensures _ _ _ _
    (walked_index _ _ _ _ _ c.walk-steps.ensures (ring_headed c.self.inside _ c.self.view_is c.self.invariant c.args.ring c.requires c.index.result.now c.index.ensures) (sym c.is_head.ensures ∙ c.if-not-is_head.true))
    c.write.ensures.cells

pub returns-then-not-is_head-clause-named : goal.returns-then-not-is_head-clause-named
returns-then-not-is_head-clause-named c = replace_named c.self.inside _ c.self.view_is c.self.invariant c.args.ring c.requires c.index.result.now c.index.ensures _ _ _ _
    (walked_index _ _ _ _ _ c.walk-steps.ensures (ring_headed c.self.inside _ c.self.view_is c.self.invariant c.args.ring c.requires c.index.result.now c.index.ensures) (sym c.is_head.ensures ∙ c.if-not-is_head.true))
    c.write.ensures.cells

pub returns-then-not-is_head-clause-others : goal.returns-then-not-is_head-clause-others
returns-then-not-is_head-clause-others c = replace_others c.self.inside _ c.self.view_is c.self.invariant c.args.ring c.requires c.index.result.now c.index.ensures _ _ _ _
    (walked_index _ _ _ _ _ c.walk-steps.ensures (ring_headed c.self.inside _ c.self.view_is c.self.invariant c.args.ring c.requires c.index.result.now c.index.ensures) (sym c.is_head.ensures ∙ c.if-not-is_head.true))
    c.write.ensures.cells

pub returns-then-not-is_head-clause-same : goal.returns-then-not-is_head-clause-same
returns-then-not-is_head-clause-same c = (
  replace_spare c.self.inside _ c.self.view_is c.self.invariant c.args.ring c.requires c.index.result.now c.index.ensures _ _ _ _
      (walked_index _ _ _ _ _ c.walk-steps.ensures (ring_headed c.self.inside _ c.self.view_is c.self.invariant c.args.ring c.requires c.index.result.now c.index.ensures) (sym c.is_head.ensures ∙ c.if-not-is_head.true))
      c.write.ensures.cells,
  c.write.ensures.writes ∙ ap (λ (v : Shelf). v.writes) c.self.view_is,
)

pub returns-else-not-is_head-clause-rings : goal.returns-else-not-is_head-clause-rings
returns-else-not-is_head-clause-rings c = replace_none c.self.inside _ c.self.view_is c.self.invariant c.args.ring c.requires c.index.result.now c.index.ensures _ _ (walked_past _ _ _ _ _ c.walk-steps.ensures (ring_headed c.self.inside _ c.self.view_is c.self.invariant c.args.ring c.requires c.index.result.now c.index.ensures) (sym c.is_head.ensures ∙ c.if-not-is_head.false))
