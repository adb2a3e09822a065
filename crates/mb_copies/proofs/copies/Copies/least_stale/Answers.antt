use Rattle.std.proofs.Common.{◌≡◌, ◌∙◌, Some, get_or, length, nat_eq, slice_get, refl, ap, sym, subst, arith}
use Rattle.std.proofs.lemmas.Option.{slice_get_within, slice_get-get_or}
use Rattle.std.specs.List.{IsDistinct}
use Rattle.std.specs.Map.{keys_of}
use Rattle.mb_copies.specs.Stale.{stale_step}
use Rattle.mb_copies.proofs.CopyLoops.{folded_more}
use Rattle.mb_copies.proofs.Zipped.{keys_zip, length_zip, zip_at}
use Rattle.mb_copies.proofs.copies.Copies.least_stale.Goals as goal

pub loop-at-init : goal.loop-at-init
loop-at-init g c = record {
  least = refl;
  whole = ap length c.as_slice-blocks.ensures.list ∙ sym (length_zip c.pages.inside.numbers.items c.pages.inside.copies.items c.pages.invariant) ∙ ap (λ pages. length pages.items) c.pages.view_is;
}

pub loop-at-preserved : goal.loop-at-preserved
loop-at-preserved g c =
    let blocks = c.pages.inside.numbers.items in
    let copies = c.pages.inside.copies.items in
    let block = get_or c.as_slice-blocks.result.now c.loop-at.at 0 in
    let here : slice_get blocks c.loop-at.at ≡ Some block = ap (λ list. slice_get list c.loop-at.at) (sym c.as_slice-blocks.ensures.list) ∙ slice_get-get_or c.as_slice-blocks.result.now c.loop-at.at 0 c.loop-at-test.true in
    let within = slice_get_within blocks c.loop-at.at block here in
    let copy = slice_get-get_or copies c.loop-at.at c.index.result.now (omega (arith, within, c.pages.invariant)) ∙ ap Some (sym c.index.ensures) in
    record {
      least = folded_more (stale_step c.args.self.now.items c.args.cache.now.stamps) c.loop-at.least c.step-least.result _ c.args.pages.now.items c.loop-at.at (block, c.index.result.now) c.loop-at.invariant.least
          (ap (λ pages. slice_get pages.items c.loop-at.at) (sym c.pages.view_is) ∙ zip_at blocks copies c.loop-at.at block c.index.result.now here copy) c.step-least.ensures;
      whole = c.loop-at.invariant.whole;
    }

pub returns-clause-once : goal.returns-clause-once
returns-clause-once g c = subst (λ pages. IsDistinct nat_eq (keys_of pages.items)) c.pages.view_is
    (subst (IsDistinct nat_eq) (sym (keys_zip c.pages.inside.numbers.items c.pages.inside.copies.items c.pages.invariant)) c.as_slice-blocks.ensures.once)
