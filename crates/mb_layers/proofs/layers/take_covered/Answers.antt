use Rattle.std.proofs.Common.{◌≡◌, ◌++◌, ◌∷◌, [], ◌∙◌, arith, rules}
use Rattle.mb_layers.proofs.Sealed.{popped, popped_over, covered, counted}
use Rattle.mb_layers.proofs.layers.take_covered.Goals as goal

pub both-preserved : goal.both-preserved
both-preserved c =
    let I = c.both.invariant in
    let cut : c.both.both.items ≡ c.pop.new.self.items ++ c.in-Some.block ∷ [] = search rules in
    record {
      rings = c.take_page.ensures.rings;
      tied = c.take_page.ensures.tied;
      lists = popped c.both.rings.rings c.take_page.new.rings.rings c.both.both.items c.pop.new.self.items c.in-Some.block I.lists cut c.take_page.ensures.current c.take_page.ensures.places;
      current = c.take_page.ensures.current ∙ I.current;
      view = λ image. covered image c.both.rings.rings c.take_page.new.rings.rings c.in-Some.block c.take_page.ensures.current c.take_page.ensures.sealed
          (popped_over c.both.rings.rings c.both.both.items c.pop.new.self.items c.in-Some.block I.lists cut) ∙ I.view image;
      capacity = omega (arith, I.capacity, c.pop.ensures.capacity);
      ages = record { present = c.take_page.ensures.ages.present ∙ I.ages.present; dropped = c.take_page.ensures.ages.dropped ∙ I.ages.dropped };
      room = omega (arith, I.room, c.take_page.ensures.spare.0);
      map = omega (arith, I.map, c.take_page.ensures.spare.1);
      later = omega (arith, I.later, c.take_page.ensures.writes.0);
      writes = counted c.both.rings.rings c.take_page.new.rings.rings c.in-Some.block c.both.rings.writes c.take_page.new.rings.writes _ c.take_page.ensures.current c.take_page.ensures.sealed
          (popped_over c.both.rings.rings c.both.both.items c.pop.new.self.items c.in-Some.block I.lists cut) c.take_page.ensures.writes.1 I.writes;
    }

pub returns-clause-writes : goal.returns-clause-writes
returns-clause-writes c = (c.both.invariant.later, omega (arith, c.both.invariant.writes))
