use Rattle.std.proofs.Common.{◌≡◌, ℕ, ◌+◌, ◌≤◌, length}
use Rattle.mb_cache.specs.Stamps.{stamp_of}
use Rattle.mb_core_spec.specs.Callers.{total}
use Rattle.mb_core_spec.specs.Flights.{is_pin}
use Rattle.mb_callers.proofs.undoing.give_back.Given as goal

abbrev pub invariant-loop-step : goal.invariant-loop-step
invariant-loop-step g l = record {
  pins : (block : ℕ) → stamp_of l.cache.pins block + total (is_pin block) l.fn.undo.items ≡ stamp_of l.fn.cache.pins block + total (is_pin block) l.undo.items;
  rest : l.cache ≡ record l.fn.cache { pins = l.cache.pins; room = record l.fn.cache.room { pins = l.cache.room.pins } };
  room : length l.fn.undo.items + l.fn.undo.spare ≤ length l.undo.items + l.undo.spare;
}

abbrev pub decreases-loop-step : goal.decreases-loop-step
decreases-loop-step g l = length l.undo.items
