use Rattle.std.proofs.Common.{ℕ, List, ◌≡◌, subst, sym, Ok, Err, true, false, not, nat_eq, ap, ◌∙◌, arith}
use Rattle.mb_word.specs.Fields.{index_entry}
use Rattle.mb_tree.specs.Counting.{any_from}
use Rattle.mb_rules.specs.Items.{Item, walked}
use Rattle.mb_rules.specs.Files.{leads_on}
use Rattle.mb_check_files.specs.declared.stops.Stop.TheVariants.{Broken}
use Rattle.mb_check_files.specs.Passes.{Walks, Passes}
use Rattle.mb_check_files.proofs.Addressing.{head_stops, head_empty, head_done}
use Rattle.mb_check_files.proofs.Listing.{if_told, given}
use Rattle.mb_check_files.proofs.Stopping.{came_from}
use Rattle.mb_check_files.proofs.addresses.index.Goals as goal

pub returns-in_err-claim-clause-walk : goal.returns-in_err-claim-clause-walk
returns-in_err-claim-clause-walk g c = if_told (g.D.Disk.told c.args.disk.now) _ (λ image told list are stands.
    rw (came_from c.from_residual.result (Broken c.in_err-claim.field-0.0) c.from_residual.ensures)
    (head_stops image.at c.args.holder c.args.address list c.in_err-claim.field-0.0 (c.in_err-claim.ensures.walk image.at list are stands)))

pub returns-then-not-holds_address-clause-walk : goal.returns-then-not-holds_address-clause-walk
returns-then-not-holds_address-clause-walk g c = if_told (g.D.Disk.told c.args.disk.now) _ (λ image told list are stands.
    let on = c.in_ok-claim.ensures.walk image.at list are stands in
    let same = given (g.D.Disk.told c.args.disk.now) image c.read.new.into c.args.address told c.in_ok-read.ensures.bytes in
    let none : leads_on image.at c.args.address ≡ false = subst (λ b. any_from (λ place. not (nat_eq (index_entry b place) 0)) 0 128 ≡ false) same (sym c.holds_address.ensures ∙ c.if-not-holds_address.true) in
    head_empty image.at c.args.holder c.args.address list on.0 on.1 none)

pub returns-clause-walk : goal.returns-clause-walk
returns-clause-walk g c = if_told (g.D.Disk.told c.args.disk.now) _ (λ image told list are stands.
    let on = c.in_ok-claim.ensures.walk image.at list are stands in
    let same = given (g.D.Disk.told c.args.disk.now) image c.read.new.into c.args.address told c.in_ok-read.ensures.bytes in
    let some : leads_on image.at c.args.address ≡ true = subst (λ b. any_from (λ place. not (nat_eq (index_entry b place) 0)) 0 128 ≡ true) same (sym c.holds_address.ensures ∙ c.if-not-holds_address.false) in
    (on.0, head_done image.at c.args.holder c.args.address list on.0 on.1 some, on.2))
