use Rattle.std.proofs.Common.{◌≡◌, ◌∙◌, ◌∷◌, [], nat_eq, slice_index_or, slice_set, ap, sym, subst, arith}
use Rattle.std.proofs.lemmas.Option.{slice_get_within, slice_get-get_or}
use Rattle.std.specs.List.{IsDistinct, zip}
use Rattle.mb_cache.specs.Kept.{shown}
use Rattle.mb_copies.specs.Reads.{renewed}
use Rattle.mb_copies.proofs.Renewals.{none_renewed, one_renewed}
use Rattle.mb_copies.proofs.Zipped.{keys_zip, none_kept, zip_at, zip_set}
use Rattle.mb_copies.proofs.copies.Copies.rewrite.Goals as goal

pub returns-in-Some : goal.returns-in-Some
returns-in-Some c other =
    let blocks = c.self.inside.numbers.items in
    let copies = c.self.inside.copies.items in
    let was = slice_index_or copies c.in-Some.place c.index_mut.result.now in
    let within = slice_get_within blocks c.in-Some.place c.args.block c.in-Some.ensures.found in
    let here = zip_at blocks copies c.in-Some.place c.args.block was c.in-Some.ensures.found (slice_get-get_or copies c.in-Some.place c.index_mut.result.now (omega (arith, within, c.self.invariant))) in
    subst (λ now. shown (zip blocks (slice_set copies c.in-Some.place c.rewrite.new.self)) other ≡ renewed ((c.args.block, c.args.bytes.now) ∷ []) (shown now.items) other) c.self.view_is
    (ap (λ list. shown list other) (zip_set blocks copies c.in-Some.place c.rewrite.new.self)
    ∙ one_renewed (zip blocks copies) c.in-Some.place c.args.block was c.rewrite.new.self c.args.bytes.now (subst (IsDistinct nat_eq) (sym (keys_zip blocks copies c.self.invariant)) c.in-Some.ensures.once) here (ap (λ k. k.bytes) c.rewrite.ensures) other)

pub returns-in_default : goal.returns-in_default
returns-in_default c other = subst (λ now. shown now.items other ≡ renewed ((c.args.block, c.args.bytes.now) ∷ []) (shown now.items) other) c.self.view_is
    (none_renewed (zip c.self.inside.numbers.items c.self.inside.copies.items) c.args.block c.args.bytes.now (none_kept c.args.block c.self.inside.numbers.items c.self.inside.copies.items c.in_default.ensures.none) other)
