use Rattle.std.proofs.Common.{◌≡◌, ◌∙◌, arith}
use Rattle.mb_tree.specs.Volume.{last_inode}
use Rattle.mb_check.proofs.Figures.{nameless_all, nameless_first, nameless_more}
use Rattle.mb_check.proofs.scans.nameless.Goals as goal

pub loop-before-init : goal.loop-before-init
loop-before-init c image keeps same = c.new-inos.ensures ∙ nameless_first image

pub loop-before-preserved : goal.loop-before-preserved
loop-before-preserved c image keeps same =
    let inside = c.loop-before-test.true in
    let inode = c.kept_of.ensures.keeps image.at (last_inode image.at) keeps.inodes (omega arith) (omega (arith, inside, same)) in
    nameless_more image c.loop-before.before c.args.table.now.parts.addresses.items c.loop-before.inos c.add_nameless.new.inos c.kept_of.result (omega (arith, inside, same)) inode c.in_ok-add_nameless.ensures (c.loop-before.invariant image keeps same)

pub returns : goal.returns
returns c image keeps same =
    let e : c.loop-before.before ≡ c.args.last = (let a = c.loop-before-test.false in let b = c.loop-before.auto.before-end in omega (arith, a, b)) in
    c.loop-before.invariant image keeps same ∙ nameless_all image c.loop-before.before (e ∙ same)
