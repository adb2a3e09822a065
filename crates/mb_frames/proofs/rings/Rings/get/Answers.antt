use Rattle.std.proofs.Common.{◌∙◌}
use Rattle.mb_frames.proofs.Outcomes.{page_at, page_bytes}
use Rattle.mb_frames.proofs.rings.Rings.get.Goals as goal

pub bytes-requires : goal.bytes-requires
bytes-requires c = page_at c.self.inside _ c.self.view_is c.self.invariant _ _ c.token.view_is c.requires

pub returns : goal.returns
returns c = c.bytes.ensures ∙ page_bytes c.self.inside _ c.self.view_is c.self.invariant _ _ c.token.view_is c.requires
