use Rattle.std.proofs.Common.{◌≡◌, List, ℕ, ◌+◌, sym, ◌∙◌, ap, subst, length}
use Rattle.std.proofs.lemmas.List.{with_items_is}
use Rattle.mb_check.specs.declared.tallies.Tally.{Tally}
use Rattle.mb_check.specs.Tallies.{KeepsParents, KeepsTallies}
use Rattle.mb_check.proofs.tallies.SlotCounts.add.Goals as goal

pub returns : goal.returns
returns c blocks slot keeps =
    let tallies : length c.add_tally.new.tallies ≡ length c.args.self.now.tallies.items = c.add_tally.auto.tallies ∙ ap (λ (xs : List Tally). length xs) c.deref_mut.ensures.value in
    let parents : length c.add_parent.new.parents ≡ length c.args.self.now.parents.items = c.add_parent.auto.parents ∙ ap (λ (xs : List ℕ). length xs) c.deref_mut-2.ensures.value in
    let one = with_items_is c.args.self.now.tallies c.add_tally.new.tallies (tallies ∙ sym c.args.self.now.tallies.ok.0) in
    let two = with_items_is c.args.self.now.parents c.add_parent.new.parents (parents ∙ sym c.args.self.now.parents.ok.0) in
    record {
      tallies = subst (KeepsTallies blocks c.args.dir (c.args.at + 1)) (sym one) (c.add_tally.ensures blocks slot (subst (KeepsTallies blocks c.args.dir c.args.at) (sym c.deref_mut.ensures.value) keeps.tallies));
      parents = subst (KeepsParents blocks c.args.dir (c.args.at + 1)) (sym two) (c.add_parent.ensures blocks slot (subst (KeepsParents blocks c.args.dir c.args.at) (sym c.deref_mut-2.ensures.value) keeps.parents));
      sized = ap (λ (xs : List Tally). length xs) one ∙ tallies ∙ keeps.sized;
      aligned = ap (λ (xs : List ℕ). length xs) two ∙ parents ∙ keeps.aligned;
    }
