use Rattle.std.proofs.Common.{◌∙◌, ap}
use Rattle.std.specs.List.{zip}
use Rattle.mb_copies.proofs.Zipped.{zip_more}
use Rattle.mb_copies.proofs.copies.Copies.reserve.Goals as goal

pub returns-clause-same : goal.returns-clause-same
returns-clause-same c =
    ap (λ keys. zip keys c.lengthen.new.copies.items) c.in_ok-reserve.ensures.same
    ∙ ap (zip c.self.inside.numbers.items) c.lengthen.ensures.behind.1
    ∙ zip_more c.self.inside.numbers.items c.self.inside.copies.items c.lengthen.ensures.behind.0 c.self.invariant
    ∙ ap (λ now. now.items) c.self.view_is
