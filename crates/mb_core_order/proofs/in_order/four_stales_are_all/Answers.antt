use Rattle.mb_core_order.proofs.in_order.four_stales_are_all.Goals as goal

pub returns : goal.returns
returns g c = λ core o runs caller mine here. (
  (o.undoable caller mine here).stales,
  λ four. (let floor = (o.undoable caller mine here).fourth four in (floor, o.fresh runs caller mine here floor)),
)
