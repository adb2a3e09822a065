use Rattle.std.proofs.Common.{◌<◌, length, refl, sym, ◌∙◌, arith}
use Rattle.std.proofs.lemmas.Bool.Decides.{nat_tests}
use Rattle.std.proofs.lemmas.List.{take_rest}
use Rattle.mb_namei.proofs.Pieces.{first_found}
use Rattle.mb_namei.proofs.components.first_component.Goals as goal

pub returns : goal.returns
returns c =
    let some : 0 < length c.without_slashes-piece.result.now = (let t = sym c.is_empty.ensures ∙ c.if-is_empty.false in grind (arith, nat_tests)) in
    first_found c.args.path.now c.without_slashes-piece.result.now c.piece_len-end.result c.name_of.result _ _ c.without_slashes-piece.ensures c.piece_len-end.ensures some refl c.name_of.ensures
    (take_rest c.without_slashes-piece.result.now c.piece_len-end.result)
