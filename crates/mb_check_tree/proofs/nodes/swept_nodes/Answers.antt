use Rattle.std.proofs.Common.{◌≡◌, ◌+◌, refl, ap, sym, ◌∙◌, arith}
use Rattle.mb_tree.specs.Volume.{last_inode}
use Rattle.mb_check_files.proofs.Listing.{if_told}
use Rattle.mb_check_files.proofs.Underways.{told_of}
use Rattle.mb_check_tree.specs.Sweeping.{kept_node, swept_at}
use Rattle.mb_check_tree.proofs.SweptNodes.{all_kept, first_kept}
use Rattle.mb_check_tree.proofs.nodes.swept_nodes.Goals as goal

pub loop-before-init : goal.loop-before-init
loop-before-init g c = record {
  told = refl;
  later = omega arith;
  kept = if_told (g.D.Disk.told c.args.disk.now) _ (λ image told keeps same. first_kept image c.new-nodes.result c.new-nodes.ensures);
}

pub loop-before-preserved : goal.loop-before-preserved
loop-before-preserved g c = record {
  told = c.node.ensures.told ∙ c.loop-before.invariant.told;
  later = (let a = c.loop-before.invariant.later in let b = c.node.ensures.cause.later in omega (arith, a, b));
  kept = if_told (g.D.Disk.told c.args.disk.now) _ (λ image told keeps same.
      let inside = c.loop-before-test.true in
      let so = told_of (g.D.Disk.told c.args.disk.now) image _ told c.loop-before.invariant.kept keeps same in
      let found = told_of (g.D.Disk.told c.loop-before.disk) image _ (c.loop-before.invariant.told ∙ told) c.in_ok-found.ensures.node keeps (omega arith) (omega (arith, inside, same)) in
      c.in_ok-add_node.ensures (swept_at image.at) so (ap (kept_node (c.loop-before.before + 1)) (sym found)));
}

pub returns-clause-nodes : goal.returns-clause-nodes
returns-clause-nodes g c = if_told (g.D.Disk.told c.args.disk.now) _ (λ image told keeps same.
    let e : c.loop-before.before ≡ last_inode image.at = (let a = c.loop-before-test.false in let b = c.loop-before.auto.before-end in omega (arith, a, b, same)) in
    all_kept image c.loop-before.nodes c.loop-before.before e (told_of (g.D.Disk.told c.args.disk.now) image _ told c.loop-before.invariant.kept keeps same))
