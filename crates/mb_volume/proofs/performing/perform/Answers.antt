use Rattle.std.proofs.Common.{◌≡◌, ◌<◌, Some, ap, length, slice_get, subst, sym, ◌∙◌}
use Rattle.std.proofs.lemmas.Option.{slice_get-get_or}
use Rattle.mb_volume_core.proofs.Growing.{given_by, going_from}
use Rattle.mb_volume.proofs.performing.perform.Goals as goal

pub go-requires-clause-going : goal.go-requires-clause-going
go-requires-clause-going g c =
    let seats = c.as_slice-seats.result.now in
    let own = c.index-seats-from.result in
    let given = ap Some c.as_slice-seats.ensures ∙ c.in-Some.ensures in
    let low : c.args.ticket.now.caller < length seats = given_by c.args.pages.now.tables seats (λ all. c.args.ticket.now.caller < length all) given c.requires.declared in
    let at : slice_get seats c.args.ticket.now.caller ≡ Some own = subst (λ n. slice_get seats n ≡ Some own) c.from.ensures (slice_get-get_or seats c.from.result own (subst (λ n. n < length seats) (sym c.from.ensures) low) ∙ ap Some (sym c.index-seats-from.is)) in
    going_from c.args.pages.now c.args.ticket.now.caller c.args.call.now c.args.way.now c.new.result c.get_or_insert-on.result.now seats own given c.requires.going c.get_or_insert-on.ensures.value at c.new.ensures
