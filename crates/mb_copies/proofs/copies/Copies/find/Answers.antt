use Rattle.std.proofs.Common.{◌≡◌, ◌∙◌, Some, None, slice_get, sym, ap, subst, arith}
use Rattle.std.specs.Map.{keys_of}
use Rattle.std.proofs.lemmas.Option.{slice_get_within, slice_get-get_or}
use Rattle.mb_cache.specs.Kept.{kept_at}
use Rattle.mb_copies.proofs.Zipped.{kept_in, keys_zip, none_kept}
use Rattle.mb_copies.proofs.copies.Copies.find.Goals as goal

pub returns-in-Some-clause-found : goal.returns-in-Some-clause-found
returns-in-Some-clause-found c =
    let within = slice_get_within c.self.inside.numbers.items c.in-Some.place c.args.block c.in-Some.ensures.found in
    let copy = slice_get-get_or c.self.inside.copies.items c.in-Some.place c.index.result.now (omega (arith, within, c.self.invariant)) ∙ ap Some (sym c.index.ensures) in
    subst (λ now. kept_at now.items c.args.block ≡ Some c.index.result.now) c.self.view_is
    (kept_in c.self.inside.numbers.items c.self.inside.copies.items c.in-Some.place c.args.block c.index.result.now c.self.invariant c.in-Some.ensures.once c.in-Some.ensures.found copy)

pub returns-in-Some-clause-place : goal.returns-in-Some-clause-place
returns-in-Some-clause-place c = subst (λ now. slice_get (keys_of now.items) c.in-Some.place ≡ Some c.args.block) c.self.view_is
    (ap (λ keys. slice_get keys c.in-Some.place) (keys_zip c.self.inside.numbers.items c.self.inside.copies.items c.self.invariant) ∙ c.in-Some.ensures.found)

pub returns-in-None-clause-none : goal.returns-in-None-clause-none
returns-in-None-clause-none c = subst (λ now. kept_at now.items c.args.block ≡ None) c.self.view_is
    (none_kept c.args.block c.self.inside.numbers.items c.self.inside.copies.items c.in-None.ensures.none)
