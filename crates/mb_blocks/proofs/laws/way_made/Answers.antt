use Rattle.mb_blocks.proofs.Dropping.{reached_fewer}
use Rattle.mb_blocks.proofs.Reaching.{reached, lead_reached}
use Rattle.mb_blocks.proofs.laws.way_made.Goals as goal

pub returns : goal.returns
returns c = record {
  whole = λ has old new loose chain q laid is reaches.
      (let got = reached has loose old new chain q laid is reaches in
      (got, λ bottom leads. lead_reached has old new loose chain q is bottom got leads));
  fewer = reached_fewer;
}
