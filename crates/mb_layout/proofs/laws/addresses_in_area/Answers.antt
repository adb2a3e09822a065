use Rattle.mb_layout.proofs.InodeBytes.{address_in_area}
use Rattle.mb_layout.proofs.laws.addresses_in_area.Goals as goal

pub returns : goal.returns
returns c = address_in_area
