use Rattle.mb_headline.proofs.Orders.{order_kept}
use Rattle.mb_headline.proofs.laws.drives_keep_order.Goals as goal

pub returns : goal.returns
returns g c = λ fs job disk begun driven fit over right config. order_kept g.D.Disk.told g.D.Disk.faults fs job disk begun driven over fit.letters right
