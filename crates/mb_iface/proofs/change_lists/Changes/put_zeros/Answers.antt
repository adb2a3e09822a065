use Rattle.std.proofs.Common.{◌∙◌, ap, subst, sym, nat_eq, cond, Some, replicate, arith}
use Rattle.std.specs.List.{All}
use Rattle.indexmap.specs.IndexMap.{insert_entry}
use Rattle.mb_kinds.specs.Changed.{IsChange, changed}
use Rattle.mb_iface.proofs.ChangedBlocks.{over_put}
use Rattle.mb_iface.proofs.ChangeEntries.{each_inserted}
use Rattle.mb_iface.proofs.Marks.{marked_put}
use Rattle.mb_iface.proofs.change_lists.Changes.put_zeros.Goals as goal

pub invariant_of-self-2 : goal.invariant_of-self-2
invariant_of-self-2 c = record {
  list = record {
    each = subst (All IsChange) (sym c.in_ok-self-inside.ensures.entries) (each_inserted c.self.inside.map.entries c.args.block (replicate 512 0) c.self.invariant.list.each (record { below = omega arith; sized = omega arith }));
    once = c.in_ok-self-inside.ensures.unique;
  };
  marked = marked_put c.self.inside.guesses c.self.inside.map.entries c.write_page.new.map.entries c.args.block c.guess_of.result c.in_ok-self-inside.field-0 (replicate 512 0) (omega arith) c.self.invariant.marked c.guess_of.ensures.place c.in_ok-self-inside.ensures.guess c.in_ok-self-inside.ensures.updates.0;
}

pub returns-clause-each : goal.returns-clause-each
returns-clause-each c = λ other. c.in_ok-self-inside.ensures.updates.0 other ∙ ap (λ es. cond (nat_eq c.args.block other) (Some (replicate 512 0)) (changed es other)) c.self.view_is

pub returns-clause-ok : goal.returns-clause-ok
returns-clause-ok c = over_put c.args.self.now c.write_page.new.map.entries c.args.block (replicate 512 0) (returns-clause-each c)

pub returns-clause-list : goal.returns-clause-list
returns-clause-list c = c.in_ok-self-inside.ensures.entries ∙ ap (λ es. insert_entry nat_eq es c.args.block (replicate 512 0)) c.self.view_is
