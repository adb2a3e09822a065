use Rattle.std.proofs.Common.{◌≡◌, ◌+◌, ◌≤◌, not, nat_eq, ◌∙◌, arith}
use Rattle.mb_tree.specs.Volume.{last_inode}
use Rattle.mb_check.proofs.Figures.{at_most_one, nodes_all, nodes_first, nodes_more}
use Rattle.mb_check.proofs.scans.nodes.Goals as goal

pub loop-before-init : goal.loop-before-init
loop-before-init c = record { few = omega arith; nodes = λ image keeps same. nodes_first image }

pub loop-before-preserved : goal.loop-before-preserved
loop-before-preserved c = record {
  few = (let a = c.loop-before.invariant.few in let b = c.one_if_used-count.ensures in let d = at_most_one (not (nat_eq c.kept_of.result.mode 0)) in omega (arith, a, b, d));
  nodes = λ image keeps same. (
      let inside = c.loop-before-test.true in
      let low : c.loop-before.before + 1 ≤ last_inode image.at = omega (arith, inside, same) in
      let inode = c.kept_of.ensures.keeps image.at (last_inode image.at) keeps.inodes (omega arith) low in
      nodes_more image c.loop-before.before c.loop-before.count c.one_if_used-count.result c.kept_of.result.mode (omega (arith, inside, same)) inode.mode c.one_if_used-count.ensures (c.loop-before.invariant.nodes image keeps same));
}

pub returns : goal.returns
returns c image keeps same =
    let e : c.loop-before.before ≡ c.args.last = (let a = c.loop-before-test.false in let b = c.loop-before.auto.before-end in omega (arith, a, b)) in
    c.loop-before.invariant.nodes image keeps same ∙ nodes_all image c.loop-before.before (e ∙ same)
