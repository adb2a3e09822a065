-- The call is under way, as it began.
use Rattle.std.proofs.Common.{◌≡◌, ◌+◌, true}
use Rattle.mb_run.specs.Pages.{IsUnderWay}
use Rattle.mb_run.specs.Rising.{RisesWith}
use Rattle.mb_run.specs.Sights.{IsWaiting}
use Rattle.mb_volume.specs.Passed.{IsHeard}
use Rattle.mb_volume.specs.Passing.{IsLater, part_in}
use Rattle.mb_volume.specs.Underway.{IsCallUnderway}
use Rattle.mb_volume.proofs.volume.Volume.call.Given as goal

abbrev pub invariant-loop : goal.invariant-loop
invariant-loop g l = record {
  can_next : (goal.iterator-loop g).can_next l.iterator';
  is_finite : (goal.iterator-loop g).is_finite l.iterator';
  going : IsUnderWay l.attempt.pages l.attempt.crossings.caller l.call l.way;
  later : IsLater l.self.table l.fn.pass l.pass;
  underway : IsCallUnderway l.call (g.H.Hook.test l.fn.hook) (part_in l.fn.pass) (part_in l.pass) l.attempt;
  caller : l.attempt.crossings.caller ≡ l.pass.caller;
  waits : l.shut ≡ true → IsWaiting (part_in l.pass).seat;
  rises : RisesWith (g.H.Hook.faults l.fn.hook) (g.H.Hook.faults l.hook) (part_in l.fn.pass).struck (part_in l.pass).struck;
  heard : IsHeard (g.H.Hook.test l.fn.hook) l.fn.pass.caller ((part_in l.fn.pass).seat.begun + 1) (g.H.Hook.faults l.fn.hook) (g.H.Hook.faults l.hook) (part_in l.pass).seat l.attempt;
  test : g.H.Hook.test l.hook ≡ g.H.Hook.test l.fn.hook;
}
