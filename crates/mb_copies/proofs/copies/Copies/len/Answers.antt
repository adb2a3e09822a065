use Rattle.std.proofs.Common.{◌∙◌, length, ap, sym}
use Rattle.mb_copies.proofs.Zipped.{length_zip}
use Rattle.mb_copies.proofs.copies.Copies.len.Goals as goal

pub returns : goal.returns
returns c = c.len.ensures ∙ sym (length_zip c.self.inside.numbers.items c.self.inside.copies.items c.self.invariant) ∙ ap (λ now. length now.items) c.self.view_is
