use Rattle.std.proofs.Common.{◌≡◌, ◌≤◌, ◌++◌, ℕ, ◌+◌, length, drop}
use Rattle.mb_cache.specs.Stamps.{stamp_of}
use Rattle.mb_callers.specs.Pins.{pin_steps}
use Rattle.mb_core_spec.specs.Callers.{total}
use Rattle.mb_core_spec.specs.Flights.{is_pin}
use Rattle.mb_callers.proofs.undoing.note_pins.Given as goal

abbrev pub invariant-loop-at : goal.invariant-loop-at
invariant-loop-at g l = record {
  log : l.undo.items ++ pin_steps (drop l.at l.reads) ≡ l.fn.undo.items ++ pin_steps l.fn.reads;
  pins : (block : ℕ) → stamp_of l.cache.pins block + total (is_pin block) (pin_steps (drop l.at l.reads)) ≡ stamp_of l.fn.cache.pins block + total (is_pin block) (pin_steps l.fn.reads);
  rest : l.cache ≡ record l.fn.cache { pins = l.cache.pins; room = record l.fn.cache.room { pins = l.cache.room.pins } };
  reads : l.reads ≡ l.fn.reads;
  whole : l.at-end ≡ length l.fn.reads;
  log_room : length l.fn.reads ≤ l.undo.spare + l.at;
  room : length l.fn.reads ≤ l.cache.room.pins + l.at;
  kept : length l.fn.undo.items + l.fn.undo.spare ≤ length l.undo.items + l.undo.spare;
}
