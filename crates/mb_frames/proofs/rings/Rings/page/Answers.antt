use Rattle.std.proofs.Common.{sym, ap, ◌∙◌, subst, ◌≤◌, length, map, List}
use Rattle.std.specs.Prelude.{Some, slice_get}
use Rattle.mb_frames.specs.Pages.{Page}
use Rattle.mb_frames.proofs.Outcomes.{ring_is, ring_list, ring_told, ring_headed}
use Rattle.mb_frames.proofs.Stock.{walked_past, walked_index, walked_there, indexed_read}
use Rattle.mb_frames.proofs.rings.Rings.page.Goals as goal

pub walk-steps-requires : goal.walk-steps-requires
walk-steps-requires c = ring_is c.self.inside _ c.self.view_is c.self.invariant c.args.ring c.requires c.index.result.now c.index.ensures

pub is_head-requires : goal.is_head-requires
is_head-requires c = walked_there _ _ _ _ _ c.walk-steps.ensures (ring_headed c.self.inside _ c.self.view_is c.self.invariant c.args.ring c.requires c.index.result.now c.index.ensures) (ring_is c.self.inside _ c.self.view_is c.self.invariant c.args.ring c.requires c.index.result.now c.index.ensures)

pub returns-then-is_head : goal.returns-then-is_head
returns-then-is_head c = subst (λ (l : List Page). length l ≤ c.args.index) (sym (ring_list c.self.inside _ c.self.view_is c.self.invariant c.args.ring c.requires c.index.result.now c.index.ensures)) (walked_past _ _ _ _ _ c.walk-steps.ensures (ring_headed c.self.inside _ c.self.view_is c.self.invariant c.args.ring c.requires c.index.result.now c.index.ensures) (sym c.is_head.ensures ∙ c.if-is_head.true))

pub bytes-requires : goal.bytes-requires
bytes-requires c = walked_there _ _ _ _ _ c.walk-steps.ensures (ring_headed c.self.inside _ c.self.view_is c.self.invariant c.args.ring c.requires c.index.result.now c.index.ensures) (ring_is c.self.inside _ c.self.view_is c.self.invariant c.args.ring c.requires c.index.result.now c.index.ensures)

pub returns : goal.returns
returns c =
    let h = c.index.result.now in
    ap (λ (l : List Page). slice_get (map (λ g. g.bytes) l) c.args.index) (ring_list c.self.inside _ c.self.view_is c.self.invariant c.args.ring c.requires h c.index.ensures)
    ∙ indexed_read (λ g. g.bytes) _ _ _ _
    (walked_index _ _ _ _ _ c.walk-steps.ensures (ring_headed c.self.inside _ c.self.view_is c.self.invariant c.args.ring c.requires h c.index.ensures) (sym c.is_head.ensures ∙ c.if-is_head.false))
    (ring_told c.self.inside _ c.self.view_is c.self.invariant c.args.ring c.requires h c.index.ensures)
    ∙ ap Some (sym c.bytes.ensures)
