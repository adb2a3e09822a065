use Rattle.std.proofs.Common.{◌≡◌, ◌∙◌, ◌-◌, ◌<◌, ℕ, List, Some, false, length, get_or, nat_eq, slice_get, ap, sym, subst, arith}
use Rattle.std.specs.List.{list_any}
use Rattle.std.proofs.lemmas.Bool.Decides.{nat_tests}
use Rattle.std.proofs.lemmas.Option.{slice_get-get_or}
use Rattle.mb_copies.proofs.Chains.{IsSought, chain_within, sought_head, sought_none, sought_step, step_smaller}
use Rattle.mb_copies.proofs.places.Places.find.Goals as goal

pub links-init : goal.links-init
links-init c =
    let last = c.self.inside.last.items in
    let before = c.self.inside.before.items in
    let blocks = c.self.inside.blocks.items in
    let some = chain_within last before blocks c.chain_of.result c.args.block c.chain_of.ensures.chain c.chain_of.ensures.within c.self.invariant (grind (arith, nat_tests, c.if-is_empty.ensures, c.is_empty.ensures, c.if-is_empty.false, c.as_slice-blocks.ensures)) in
    rw c.as_slice-blocks.ensures (sought_head last before blocks c.chain_of.result c.args.block c.index-link.result.now c.chain_of.ensures.chain c.index-link.ensures some c.self.invariant)

pub returns-then-blocks-link-clause-found : goal.returns-then-blocks-link-clause-found
returns-then-blocks-link-clause-found c =
    let at = c.links.link - 1 in
    let low : at < length c.as_slice-blocks.result.now = omega (arith, c.links-test.true, c.links.invariant.within) in
    subst (λ now. slice_get now.items at ≡ Some c.args.block) c.self.view_is
    (ap (λ list. slice_get list at) (sym c.as_slice-blocks.ensures) ∙ slice_get-get_or c.as_slice-blocks.result.now at 0 low ∙ ap Some c.if-blocks-link.true)

pub links-smaller : goal.links-smaller
links-smaller c = ap_less c.as_slice-before.ensures (step_smaller c.self.inside.last.items c.self.inside.before.items c.self.inside.blocks.items c.args.block c.links.link c.self.invariant c.links-test.true
    (subst (λ blocks. IsSought c.args.block blocks c.links.link) c.as_slice-blocks.ensures c.links.invariant))
  where
    ap_less : {list before : List ℕ} → list ≡ before → get_or before (c.links.link - 1) 0 < c.links.link → get_or list (c.links.link - 1) 0 < c.links.link
    ap_less same less = subst (λ list. get_or list (c.links.link - 1) 0 < c.links.link) (sym same) less

pub links-preserved : goal.links-preserved
links-preserved c =
    let blocks = c.self.inside.blocks.items in
    let so_far = subst (λ blocks. IsSought c.args.block blocks c.links.link) c.as_slice-blocks.ensures c.links.invariant in
    let apart : get_or blocks (c.links.link - 1) 0 ≡ c.args.block → ⊥ = λ same. c.if-blocks-link.false (ap (λ list. get_or list (c.links.link - 1) 0) c.as_slice-blocks.ensures ∙ same) in
    subst (λ list. IsSought c.args.block c.as_slice-blocks.result.now (get_or list (c.links.link - 1) 0)) (sym c.as_slice-before.ensures)
    (subst (λ list. IsSought c.args.block list (get_or c.self.inside.before.items (c.links.link - 1) 0)) (sym c.as_slice-blocks.ensures)
    (sought_step c.self.inside.last.items c.self.inside.before.items blocks c.args.block c.links.link c.self.invariant c.links-test.true so_far apart))

pub returns-clause-none : goal.returns-clause-none
returns-clause-none c = subst (λ now. list_any (nat_eq c.args.block) now.items ≡ false) c.self.view_is
    (ap (list_any (nat_eq c.args.block)) (sym c.as_slice-blocks.ensures) ∙ sought_none c.as_slice-blocks.result.now c.args.block c.links.link c.links-test.false c.links.invariant)
