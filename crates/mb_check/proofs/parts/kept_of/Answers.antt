use Rattle.std.proofs.Common.{◌∙◌}
use Rattle.mb_check.proofs.Leading.{found_at}
use Rattle.mb_check.proofs.parts.kept_of.Goals as goal

pub returns-in-Some-clause-keeps : goal.returns-in-Some-clause-keeps
returns-in-Some-clause-keeps c blocks last keeps from low =
    let h = c.in-Some.ensures.lookup in
    keeps.each c.args.ino c.in-Some.kept.now from low (found_at c.args.table.now.inodes.items c.as_slice.result.now c.from.result c.args.ino c.in-Some.kept.now c.as_slice.ensures.value c.from.ensures h.3.0 h.1)

pub returns-in-Some-clause-none : goal.returns-in-Some-clause-none
returns-in-Some-clause-none c blocks last keeps zero =
    let h = c.in-Some.ensures.lookup in
    keeps.none c.in-Some.kept.now (found_at c.args.table.now.inodes.items c.as_slice.result.now c.from.result 0 c.in-Some.kept.now c.as_slice.ensures.value (c.from.ensures ∙ zero) h.3.0 h.1)
