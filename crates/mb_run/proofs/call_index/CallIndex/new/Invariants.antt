use Rattle.std.proofs.Common.{◌≡◌}
use Rattle.mb_run.specs.Indexes.{PlacesLeadTo}
use Rattle.mb_run.proofs.call_index.CallIndex.new.Given as goal

abbrev pub invariant-loop-made : goal.invariant-loop-made
invariant-loop-made l = record {
  leads : PlacesLeadTo l.calls l.made-index l.places;
  place : l.place ≡ l.made-index;
}
