use Rattle.std.proofs.Common.{ap, arith, ◌≤◌, ◌-◌, ◌^◌, ◌<◌, rules}
use Rattle.mb_layers.specs.Pages.{LayerState}
use Rattle.mb_layers.proofs.layers.Layers.reserve.Goals as goal

pub returns-in_default-clause-sure : goal.returns-in_default-clause-sure
returns-in_default-clause-sure c =
    let room : c.args.self.now.spare ≤ 2 ^ 32 - 1 = omega (arith, ap (λ (v : LayerState). v.spare) c.self.view_is) in
    let over : 2 ^ 32 - 1 < c.args.more = search rules in
    λ w. absurd (omega (arith, w, room, over))
