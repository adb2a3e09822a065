use Rattle.std.proofs.Common.{◌≡◌, List, ℕ, ◌+◌, sym, ◌∙◌, ap, subst, length, arith}
use Rattle.std.proofs.lemmas.List.{length-replicate}
use Rattle.mb_check.specs.declared.tallies.Tally.{Tally}
use Rattle.mb_check.specs.Tallies.{KeepsTallies}
use Rattle.mb_check.proofs.Tallying.{no_tally, tallies_none, parents_none}
use Rattle.mb_check.proofs.tallies.SlotCounts.new.Goals as goal

pub returns : goal.returns
returns c blocks last =
    let tallies = c.in_ok-tallies.ensures.items_if_clones_equal (λ y e. e) in
    let parents = c.in_ok-parents.ensures.items_if_clones_equal (λ y e. e) in
    let count : c.from-count.result + 1 ≡ c.args.last + 1 = (let e = c.from-count.ensures in omega (arith, e)) in
    record {
      tallies = subst (KeepsTallies blocks 1 0) (sym tallies) (tallies_none blocks (c.from-count.result + 1));
      parents = parents_none blocks c.in_ok-parents.parents.items;
      sized = ap (λ (xs : List Tally). length xs) tallies ∙ length-replicate (c.from-count.result + 1) no_tally ∙ count ∙ ap (λ n. n + 1) last;
      aligned = ap (λ (xs : List ℕ). length xs) parents ∙ length-replicate {A = ℕ} (c.from-count.result + 1) 0 ∙ count ∙ ap (λ n. n + 1) last;
    }
