use Rattle.std.proofs.Common.{◌≡◌, ◌≢◌, ℕ, List, false, length, slice_index, ap, subst, arith}
use Rattle.mb_iface.proofs.NeedBlocks.{each_block}
use Rattle.mb_run.specs.Pages.{has}
use Rattle.mb_run.proofs.steps.lacks_all.Goals as goal

pub returns : goal.returns
returns c = λ _.
    let so_far = c.loop-other.invariant in
    let pages = c.args.pages.now in
    each_block c.args.need (λ (block : ℕ). has pages block ≡ false) so_far.run
    (λ at below some. subst (λ (list : List ℕ). slice_index list at ≢ 0 → has pages (slice_index list at) ≡ false) so_far.items (so_far.others at (omega (arith, below, ap length so_far.items))) some)
