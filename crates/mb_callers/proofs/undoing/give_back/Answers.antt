use Rattle.std.proofs.Common.{ap, inl, inr}
use Rattle.mb_cache.specs.Stamps.{stamp_of}
use Rattle.mb_core_spec.specs.Flights.{is_pin}
use Rattle.mb_callers.proofs.PinSteps.{only_pins}
use Rattle.mb_callers.proofs.UndoSteps.{passed, pinned, popped_room, unpinned}
use Rattle.mb_callers.proofs.undoing.give_back.Goals as goal

pub unpin-requires : goal.unpin-requires
unpin-requires g c = pinned (stamp_of c.loop-step.cache.pins) (stamp_of c.args.cache.now.pins) c.args.undo.now.items c.loop-step.undo.items c.pop.new.self.items c.loop-step.invariant.pins
    c.in-Pinned.block c.in-Some.step c.in-Some.ensures.some c.in-Pinned.is c.requires

pub loop-step-preserved-in-Pinned : goal.loop-step-preserved-in-Pinned
loop-step-preserved-in-Pinned g c = record {
  pins = unpinned (stamp_of c.loop-step.cache.pins) (stamp_of c.args.cache.now.pins) c.args.undo.now.items c.loop-step.undo.items c.pop.new.self.items c.loop-step.invariant.pins
      c.in-Pinned.block c.in-Some.step (stamp_of c.unpin.new.self.pins) c.in-Some.ensures.some c.in-Pinned.is c.unpin.ensures.pins
      (pinned (stamp_of c.loop-step.cache.pins) (stamp_of c.args.cache.now.pins) c.args.undo.now.items c.loop-step.undo.items c.pop.new.self.items c.loop-step.invariant.pins
      c.in-Pinned.block c.in-Some.step c.in-Some.ensures.some c.in-Pinned.is c.requires);
  rest = only_pins c.args.cache.now c.loop-step.cache c.unpin.new.self c.loop-step.invariant.rest c.unpin.ensures.same;
  room = popped_room _ _ _ _ c.in-Some.step _ c.loop-step.invariant.room c.in-Some.ensures.some c.in-Some.ensures.spare;
}

pub loop-step-preserved : goal.loop-step-preserved
loop-step-preserved g c = record {
  pins = passed (stamp_of c.loop-step.cache.pins) (stamp_of c.args.cache.now.pins) c.args.undo.now.items c.loop-step.undo.items c.pop.new.self.items c.loop-step.invariant.pins
      c.in-Some.step c.in-Some.ensures.some (λ block. elim c.in-Entered.is [
        | inl e ↦ ap (is_pin block) e
        | inr other ↦ elim other [
          | inl r ↦ ap (is_pin block) r.1
          | inr f ↦ ap (is_pin block) f
        ]
      ]);
  rest = c.loop-step.invariant.rest;
  room = popped_room _ _ _ _ c.in-Some.step _ c.loop-step.invariant.room c.in-Some.ensures.some c.in-Some.ensures.spare;
}
