use Rattle.std.proofs.Common.{◌+◌, refl, arith}
use Rattle.mb_cache.specs.Stamps.{stamp_of}
use Rattle.mb_callers.specs.Pins.{pin_steps}
use Rattle.mb_core_spec.specs.Callers.{total}
use Rattle.mb_core_spec.specs.Flights.{is_pin}
use Rattle.mb_callers.proofs.PinSteps.{noted_more, only_pins, pinned_more}
use Rattle.mb_callers.proofs.UndoSteps.{pushed_room}
use Rattle.mb_callers.proofs.undoing.note_pins.Goals as goal

pub loop-at-preserved : goal.loop-at-preserved
loop-at-preserved g c = record {
  log = noted_more c.loop-at.undo.items c.push.new.self.items _ c.args.reads.now c.loop-at.at _ c.loop-at.invariant.log c.at-block.ensures c.in-Ok-push.ensures.ok;
  pins = λ block. pinned_more (stamp_of c.loop-at.cache.pins) (stamp_of c.pin.new.self.pins) (λ block. stamp_of c.args.cache.now.pins block + total (is_pin block) (pin_steps c.args.reads.now)) c.args.reads.now c.loop-at.at _ (c.loop-at.invariant.pins) c.at-block.ensures c.in-Ok.ensures.ok block;
  rest = only_pins c.args.cache.now c.loop-at.cache c.pin.new.self c.loop-at.invariant.rest c.in-Ok.ensures.same;
  reads = refl;
  whole = c.loop-at.invariant.whole;
  log_room = omega (arith, c.loop-at.invariant.log_room, c.in-Ok-push.ensures.spare);
  room = omega (arith, c.loop-at.invariant.room, c.in-Ok.ensures.spare);
  kept = pushed_room c.loop-at.undo.items c.push.new.self.items _ _ _ _ c.loop-at.invariant.kept c.in-Ok-push.ensures.ok c.in-Ok-push.ensures.spare;
}
