-- A pass for each card so far, and in the seat the sights of the others.
use Rattle.std.proofs.Common.{◌≡◌, ◌+◌, ◌≤◌, [], ◌++◌, map, length, vec_len, vec_capacity, false}
use Rattle.std.specs.Vec.Iter.{into_iter_items}
use Rattle.mb_turn.specs.Passes.{known}
use Rattle.mb_turn.specs.Rule.{idle, sight_of_card}
use Rattle.mb_turn.proofs.turn.deal.Given as goal

abbrev pub invariant-loop-card : goal.invariant-loop-card
invariant-loop-card g l = record {
  can_next : (goal.iterator-loop-card g).can_next l.card-iterator;
  is_finite : (goal.iterator-loop-card g).is_finite l.card-iterator;
  table : l.seat.table_id ≡ l.shared.table_id;
  seat : l.seat.me ≡ (idle (map sight_of_card (into_iter_items l.card-iterator)), []);
  passes : l.passes.items ++ map (λ card. known l.shared.table_id card.0 card.1 false) (into_iter_items l.card-iterator) ≡ map (λ card. known l.shared.table_id card.0 card.1 false) l.fn.cards.items;
  room : vec_len l.passes + length (into_iter_items l.card-iterator) ≤ vec_capacity l.passes;
}
