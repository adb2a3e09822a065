use Rattle.std.proofs.Common.{ℕ, List, ◌≡◌, subst, sym, Ok, Err, ap, ◌∙◌, arith}
use Rattle.mb_rules.specs.Items.{Item, walked}
use Rattle.mb_check_files.specs.declared.stops.Stop.TheVariants.{Broken}
use Rattle.mb_check_files.specs.Passes.{Walks, Passes}
use Rattle.mb_check_files.proofs.Addressing.{hole_walks, part_items}
use Rattle.mb_check_files.proofs.Stopping.{came_from}
use Rattle.mb_check_files.proofs.addresses.part.Goals as goal

pub returns-then-address-eq0-clause-walk : goal.returns-then-address-eq0-clause-walk
returns-then-address-eq0-clause-walk c blocks list are stands = (list, hole_walks blocks list 0 c.args.holder c.args.address c.if-address-eq0.true, stands)

pub returns-then-address-eq0-clause-notes : goal.returns-then-address-eq0-clause-notes
returns-then-address-eq0-clause-notes c = c.pass.ensures.notes (λ _. c.args.address) 1 (omega arith) (λ k low. c.if-address-eq0.true)

pub returns-in_err-claim-clause-walk : goal.returns-in_err-claim-clause-walk
returns-in_err-claim-clause-walk c blocks list are stands =
    rw (came_from c.from_residual.result (Broken c.in_err-claim.field-0.0) c.from_residual.ensures)
    (ap (walked list) (sym (part_items blocks c.args.holder c.args.address c.if-address-eq0.false)) ∙ c.in_err-claim.ensures.walk blocks list are stands)

pub returns-clause-walk : goal.returns-clause-walk
returns-clause-walk c blocks list are stands =
    let on = c.in_ok-claim.ensures.walk blocks list are stands in
    (on.0, ap (walked list) (sym (part_items blocks c.args.holder c.args.address c.if-address-eq0.false)) ∙ on.1, on.2)
