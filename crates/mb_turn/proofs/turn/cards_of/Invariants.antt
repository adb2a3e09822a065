-- A card for each caller so far, and room for the others.
use Rattle.std.proofs.Common.{◌≡◌, map, vec_len, vec_capacity}
use Rattle.std.specs.List.{range_with_len}
use Rattle.mb_turn.proofs.turn.cards_of.Given as goal

abbrev pub invariant-loop-caller : goal.invariant-loop-caller
invariant-loop-caller g l = record {
  cards : l.cards.items ≡ map (λ caller. (caller, l.value)) (range_with_len 0 l.caller);
  len : vec_len l.cards ≡ l.caller;
  room : vec_capacity l.cards ≡ l.callers;
}
