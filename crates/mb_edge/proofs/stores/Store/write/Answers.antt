use Rattle.std.proofs.Common.{arith, ◌≡◌, ◌++◌, ◌∙◌, ap, length, take, drop}
use Rattle.std.proofs.lemmas.Grind.{common_steps}
use Rattle.mb_edge.specs.Blocks.{image_of, written}
use Rattle.mb_edge.proofs.Images.{image_of-written}
use Rattle.mb_edge.proofs.stores.Store.write.Goals as goal

pub returns-clause-image : goal.returns-clause-image
returns-clause-image c =
    let held : take c.put_block-self-inside.result (take c.self.inside.bytes.len (c.put_block-self-inside.new.bytes ++ drop (length c.put_block-self-inside.new.bytes) c.self.inside.bytes.items)) ≡ written c.args.self.now.bytes c.args.block c.args.from.now = grind (arith, common_steps) in
    ap image_of held ∙ image_of-written c.args.self.now.bytes c.args.block c.args.from.now c.requires.size
