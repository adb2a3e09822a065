use Rattle.mb_volume_core.proofs.volume_core.in_order.Goals as goal

pub returns : goal.returns
returns g c = c.history.ensures.right
