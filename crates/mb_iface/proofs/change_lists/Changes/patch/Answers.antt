use Rattle.std.proofs.Common.{ℕ, ◌≡◌, ◌∙◌, Some, MatchOption, slice_get, is_some, cond, nat_eq, subst, sym, ap, arith}
use Rattle.std.proofs.lemmas.Option.{slice_get_within}
use Rattle.indexmap.specs.IndexMap.{set_value_at}
use Rattle.mb_word.specs.Numbers.{put_at}
use Rattle.mb_kinds.specs.Changed.{ChangeList, changed}
use Rattle.mb_iface.proofs.ChangePlaces.{changes_set, changed_at, set_at, patched_at, of_block}
use Rattle.mb_iface.proofs.Marks.{unmarked, marked_put}
use Rattle.mb_iface.proofs.change_lists.Changes.patch.Goals as goal

pub place_of-requires : goal.place_of-requires
place_of-requires c = unmarked c.self.inside.guesses c.self.inside.map.entries c.args.block c.guess_of.result c.self.invariant.marked c.guess_of.ensures.place

pub pair_mut-into-requires : goal.pair_mut-into-requires
pair_mut-into-requires c = slice_get_within c.self.inside.map.entries c.in-Some.place (c.args.block, c.in-Some.ensures.found.0) c.in-Some.ensures.found.1

pub invariant_of-self : goal.invariant_of-self
invariant_of-self c =
    let was = c.pair_mut-into.result.1.now in
    let here = of_block c.self.inside.map.entries c.in-Some.place c.args.block c.pair_mut-into.result.0.now c.in-Some.ensures.found.0 was c.in-Some.ensures.found.1 c.pair_mut-into.ensures.value in
    record {
      list = changes_set c.self.inside.map.entries c.in-Some.place c.write_at.new.into c.self.invariant.list c.write_at.ensures.sized;
      marked =
          marked_put c.self.inside.guesses c.self.inside.map.entries (set_value_at c.self.inside.map.entries c.in-Some.place c.write_at.new.into) c.args.block c.guess_of.result c.guess_at.result c.write_at.new.into (omega arith) c.self.invariant.marked c.guess_of.ensures.place c.guess_at.ensures
          (set_at c.self.inside.map.entries c.in-Some.place c.args.block was c.write_at.new.into c.self.invariant.list here);
    }

pub returns-in-Some-clause-told : goal.returns-in-Some-clause-told
returns-in-Some-clause-told c =
    let there = changed_at c.self.inside.map.entries c.in-Some.place c.args.block c.in-Some.ensures.found.0 c.self.invariant.list c.in-Some.ensures.found.1 in
    ap is_some (sym there ∙ ap (λ es. changed es c.args.block) c.self.view_is)

pub returns-in-Some-clause-each : goal.returns-in-Some-clause-each
returns-in-Some-clause-each c =
    let was = c.pair_mut-into.result.1.now in
    let here : slice_get c.self.inside.map.entries c.in-Some.place ≡ Some (c.args.block, was) = of_block c.self.inside.map.entries c.in-Some.place c.args.block c.pair_mut-into.result.0.now c.in-Some.ensures.found.0 was c.in-Some.ensures.found.1 c.pair_mut-into.ensures.value in
    subst (λ (now : ChangeList). MatchOption (changed now c.args.block) (set_value_at c.self.inside.map.entries c.in-Some.place c.write_at.new.into ≡ now)
    (λ old. (other : ℕ) → changed (set_value_at c.self.inside.map.entries c.in-Some.place c.write_at.new.into) other ≡ cond (nat_eq c.args.block other) (Some (put_at old c.args.at c.args.bytes.now)) (changed now other)))
    c.self.view_is
    (patched_at c.self.inside.map.entries c.in-Some.place c.args.block c.args.at was c.args.bytes.now c.write_at.new.into c.self.invariant.list here c.write_at.ensures.bytes)
