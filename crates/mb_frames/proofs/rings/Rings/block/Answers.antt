use Rattle.std.proofs.Common.{◌∙◌}
use Rattle.mb_frames.proofs.Outcomes.{page_at, page_block}
use Rattle.mb_frames.proofs.rings.Rings.block.Goals as goal

pub block-requires : goal.block-requires
block-requires c = page_at c.self.inside _ c.self.view_is c.self.invariant _ _ c.token.view_is c.requires

pub returns : goal.returns
returns c = c.block.ensures ∙ page_block c.self.inside _ c.self.view_is c.self.invariant _ _ c.token.view_is c.requires
