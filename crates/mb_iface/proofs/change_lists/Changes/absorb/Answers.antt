use Rattle.std.proofs.Common.{◌∙◌, ap, subst, sym, nat_eq, refl}
use Rattle.std.specs.List.{All}
use Rattle.std.specs.Option.{option_or}
use Rattle.std.specs.Cmp.{nat_eq_equiv}
use Rattle.std.proofs.lemmas.Map.Made.{update_all_distinct}
use Rattle.mb_kinds.specs.Changed.{IsChange, changed}
use Rattle.mb_iface.proofs.ChangedBlocks.{over_later}
use Rattle.mb_iface.proofs.ChangeEntries.{all_inserted}
use Rattle.mb_iface.proofs.Marks.{all_marked}
use Rattle.mb_iface.proofs.change_lists.Changes.absorb.Goals as goal

pub invariant_of-self-2 : goal.invariant_of-self-2
invariant_of-self-2 c = record {
  list = record {
    each = subst (All IsChange) (sym c.in_ok-append.ensures.entries) (all_inserted c.self.inside.map.entries c.later.inside.map.entries c.self.invariant.list.each c.later.invariant.list.each);
    once = c.in_ok-append.ensures.inserts.1;
  };
  marked = all_marked c.append.new.self.entries;
}

pub returns-clause-each : goal.returns-clause-each
returns-clause-each c = λ other.
    c.in_ok-append.ensures.inserts.0 other
    ∙ update_all_distinct nat_eq_equiv nat_eq (λ x y. refl) (changed c.self.inside.map.entries) c.later.inside.map.entries other c.later.invariant.list.once
    ∙ ap (λ es. option_or (changed es other) (changed c.self.inside.map.entries other)) c.later.view_is
    ∙ ap (λ es. option_or (changed c.args.later other) (changed es other)) c.self.view_is

pub returns-clause-ok : goal.returns-clause-ok
returns-clause-ok c = over_later c.args.self.now c.args.later c.append.new.self.entries (returns-clause-each c)
