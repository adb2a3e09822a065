use Rattle.std.proofs.Common.{◌≡◌, ◌∙◌, sym, subst}
use Rattle.std.specs.Map.{keys_of}
use Rattle.mb_copies.proofs.Zipped.{keys_zip}
use Rattle.mb_copies.proofs.copies.Copies.numbers.Goals as goal

pub returns : goal.returns
returns c = record {
  keys = subst (λ now. c.as_slice.result.now ≡ keys_of now.items) c.self.view_is
      (c.as_slice.ensures.list ∙ sym (keys_zip c.self.inside.numbers.items c.self.inside.copies.items c.self.invariant));
}
