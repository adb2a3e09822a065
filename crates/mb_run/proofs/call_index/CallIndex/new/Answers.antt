use Rattle.std.proofs.Common.{◌≡◌, ◌+◌, ◌∙◌, ap, sym, Some, slice_get}
use Rattle.std.proofs.lemmas.Option.{slice_get-get_or}
use Rattle.mb_run.proofs.Indexed.{leads_all, leads_more}
use Rattle.mb_run.proofs.call_index.CallIndex.new.Goals as goal

pub loop-made-preserved : goal.loop-made-preserved
loop-made-preserved c =
    let here : slice_get c.args.calls.now c.loop-made.made-index ≡ Some c.made-item.result = slice_get-get_or c.args.calls.now c.loop-made.made-index c.made-item.result c.loop-made-test.true ∙ ap Some (sym c.made-item.is) in
    record {
      leads = leads_more c.args.calls.now c.loop-made.made-index c.loop-made.place c.made-item.result here c.loop-made.invariant.place c.requires c.loop-made.places _ c.index-places-made.is _ c.in_ok-push.ensures.ok c.loop-made.invariant.leads;
      place = ap (λ n. n + 1) c.loop-made.invariant.place;
    }

pub returns : goal.returns
returns c = leads_all c.args.calls.now c.loop-made.made-index c.loop-made.places c.loop-made-test.false c.loop-made.auto.made-index-end c.requires c.loop-made.invariant.leads
