use Rattle.std.proofs.Common.{sym, ◌∙◌, length, replicate, arith}
use Rattle.std.proofs.lemmas.List.{take_all, take-append-le}
use Rattle.mb_tree.specs.Lookup.{padded}
use Rattle.mb_tree.proofs.Padding.{is_padded}
use Rattle.mb_namei.proofs.components.name_of.Goals as goal

pub returns : goal.returns
returns c = is_padded (length c.args.piece.now) c.args.piece.now c.copy_from_slice.new.self (omega (arith, c.in_default.ensures.cases)) (c.copy_from_slice.ensures.after ∙ sym (take_all (length c.args.piece.now) c.args.piece.now (omega arith)))

pub returns-in-Some : goal.returns-in-Some
unfolding padded
returns-in-Some c = c.in-Some.ensures.cases.same ∙ sym (take-append-le 14 c.args.piece.now (replicate 14 0) (let h = c.in-Some.ensures.cases.enough in omega (arith, h)))
