use Rattle.std.proofs.Common.{Some, ap, sym, ◌∙◌}
use Rattle.std.proofs.lemmas.Option.{slice_get_past, slice_get-get_or}
use Rattle.mb_run.proofs.Indexed.{found_none, found_some}
use Rattle.mb_run.proofs.call_index.find_call.Goals as goal

pub returns-in_default-get : goal.returns-in_default-get
returns-in_default-get c = found_none c.args.calls.now c.args.index.now.places c.args.caller c.args.place c.requires c.in-Some.places.now c.in-Some.ensures.lookup.3.0 c.in-Some.ensures.lookup.1 c.in_default-get.ensures

pub returns-in_default-get-2 : goal.returns-in_default-get-2
returns-in_default-get-2 c = found_some c.args.calls.now c.args.index.now.places c.args.caller c.args.place c.requires c.in-Some.places.now c.in-Some.ensures.lookup.3.0 c.in-Some.ensures.lookup.1 c.in-Some-get.at.now c.in-Some-get.ensures _
    (sym (slice_get_past c.args.calls.now c.in-Some-get.at.now c.in_default-get-2.ensures.lookup.3))

pub returns : goal.returns
returns c = found_some c.args.calls.now c.args.index.now.places c.args.caller c.args.place c.requires c.in-Some.places.now c.in-Some.ensures.lookup.3.0 c.in-Some.ensures.lookup.1 c.in-Some-get.at.now c.in-Some-get.ensures _
    (sym (slice_get-get_or c.args.calls.now c.in-Some-get.at.now c.in-Some-get-2.made.now c.in-Some-get-2.ensures.lookup.3.0 ∙ ap Some (sym c.in-Some-get-2.ensures.lookup.1)))
