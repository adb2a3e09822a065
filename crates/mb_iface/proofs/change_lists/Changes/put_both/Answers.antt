use Rattle.std.proofs.Common.{◌∙◌, ◌≡◌, length, slice_set, ap, subst, sym, nat_eq, cond, Some, arith}
use Rattle.std.specs.List.{All}
use Rattle.std.proofs.lemmas.List.{length-set}
use Rattle.mb_kinds.specs.Changed.{IsChange, changed}
use Rattle.mb_iface.specs.Guesses.{AreMarked}
use Rattle.mb_iface.proofs.ChangedBlocks.{over_both}
use Rattle.mb_iface.proofs.ChangeEntries.{each_inserted}
use Rattle.mb_iface.proofs.Marks.{marked_put}
use Rattle.mb_iface.proofs.change_lists.Changes.put_both.Goals as goal

pub invariant_of-self-2 : goal.invariant_of-self-2
invariant_of-self-2 c =
    let before = subst (All IsChange) (sym c.in_ok-reserve.ensures.entries) c.self.invariant.list.each in
    let first = subst (All IsChange) (sym c.in-Ok.ensures.entries) (each_inserted c.reserve.new.self.entries c.args.block c.args.bytes.now before (record { below = omega arith; sized = omega arith })) in
    let marks = subst (AreMarked c.self.inside.guesses) (sym c.in_ok-reserve.ensures.entries) c.self.invariant.marked in
    let long : length c.self.inside.guesses ≡ 16 = omega arith in
    let one = marked_put c.self.inside.guesses c.reserve.new.self.entries c.write_page.new.map.entries c.args.block c.guess_of.result c.in-Ok.guess c.args.bytes.now long marks c.guess_of.ensures.place c.in-Ok.ensures.guess c.in-Ok.ensures.updates.0 in
    let still : length (slice_set c.self.inside.guesses c.guess_of.result c.in-Ok.guess) ≡ 16 = length-set c.self.inside.guesses c.guess_of.result c.in-Ok.guess ∙ long in
    record {
      list = record {
        each = subst (All IsChange) (sym c.in-Ok-write_page.ensures.entries) (each_inserted c.write_page.new.map.entries c.args.then c.args.after.now first (record { below = omega arith; sized = omega arith }));
        once = c.in-Ok-write_page.ensures.unique;
      };
      marked = marked_put (slice_set c.self.inside.guesses c.guess_of.result c.in-Ok.guess) c.write_page.new.map.entries c.write_page-2.new.map.entries c.args.then c.guess_of-2.result c.in-Ok-write_page.guess c.args.after.now still one c.guess_of-2.ensures.place c.in-Ok-write_page.ensures.guess c.in-Ok-write_page.ensures.updates.0;
    }

pub returns-clause-each : goal.returns-clause-each
returns-clause-each c = λ other.
    c.in-Ok-write_page.ensures.updates.0 other
    ∙ ap (cond (nat_eq c.args.then other) (Some c.args.after.now))
    (c.in-Ok.ensures.updates.0 other
    ∙ ap (λ es. cond (nat_eq c.args.block other) (Some c.args.bytes.now) (changed es other)) (c.in_ok-reserve.ensures.entries ∙ c.self.view_is))

pub returns-clause-ok : goal.returns-clause-ok
returns-clause-ok c = over_both c.args.self.now c.write_page-2.new.map.entries c.args.block c.args.bytes.now c.args.then c.args.after.now (returns-clause-each c)
