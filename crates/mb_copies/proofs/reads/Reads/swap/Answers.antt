use Rattle.std.proofs.Common.{◌∙◌, ◌+◌, ap, drop}
use Rattle.mb_copies.proofs.CopyLoops.{behind_set}
use Rattle.mb_copies.proofs.reads.Reads.swap.Goals as goal

pub returns-clause-behind : goal.returns-clause-behind
returns-clause-behind c = behind_set c.self.inside.count c.args.place c.self.inside.items.items (c.index_mut.result.now.0, c.swap.new.self) ∙ ap (drop (c.args.place + 1)) c.self.view_is
