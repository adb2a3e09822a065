use Rattle.std.proofs.Common.{◌≤◌, ◌+◌, ◌*◌, ℕ, List, ◌≡◌, ◌<◌, Bool, true, false, not, nat_eq, refl, sym, ap, subst, ◌∙◌, arith}
use Rattle.std.proofs.lemmas.Bool.Decides.{nat_tests}
use Rattle.mb_word.specs.Fields.{index_entry}
use Rattle.mb_rules.proofs.FilesAccepted.{found_yes}
use Rattle.mb_check_files.proofs.Addressing.{none_from}
use Rattle.mb_check_files.proofs.addresses.holds_address.Goals as goal

pub returns-then-index_at-ne0 : goal.returns-then-index_at-ne0
returns-then-index_at-ne0 c =
    let entry = c.index_at.ensures in
    let apart = c.if-index_at-ne0.true in
    let test : nat_eq (index_entry c.args.block.now c.loop-place.place) 0 ≡ false = grind (arith, nat_tests) in
    sym (found_yes (λ place. not (nat_eq (index_entry c.args.block.now place) 0)) 0 128 c.loop-place.place (omega arith) c.loop-place-test.true (ap not test))

pub returns : goal.returns
returns c =
    let past = c.loop-place-test.false in
    sym (none_from (λ place. not (nat_eq (index_entry c.args.block.now place) 0)) 0 128 (λ k a b.
    let hole = c.loop-place.invariant k (omega arith) in
    let test : nat_eq (index_entry c.args.block.now k) 0 ≡ true = grind (arith, nat_tests) in
    ap not test))
