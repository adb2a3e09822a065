use Rattle.std.proofs.Common.{IsSome, option_copied, refl, sym, subst}
use Rattle.mb_file.specs.Freeing.{list_block}
use Rattle.mb_file.proofs.PuttingBack.{back_hung, back_patched}
use Rattle.mb_file.proofs.frees.put_back.Goals as goal

pub returns-then-word_at-lt50-clause-back : goal.returns-then-word_at-lt50-clause-back
returns-then-word_at-lt50-clause-back g c = back_hung (g.V.View.shown c.args.view.now) c.args.changes.now c.args.first.now c.hang.new.first c.args.block c.hang.ensures.hangs

pub returns-clause-back : goal.returns-clause-back
returns-clause-back g c =
    back_patched (g.V.View.shown c.args.view.now) c.args.changes.now c.args.first.now c.begin_list.new.first c.args.block c.put_zeros.new.self c.patch.new.self (list_block c.args.first.now) _ refl c.begin_list.ensures.moves
    (subst (λ o. IsSome o) c.get.ensures (subst (λ r. IsSome (option_copied r)) (sym c.in-Some.is) refl)) c.in-Ok.ensures.each c.patch.ensures.each
