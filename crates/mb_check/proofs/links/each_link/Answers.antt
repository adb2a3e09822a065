use Rattle.std.proofs.Common.{◌≡◌, ◌+◌, refl, ap, sym, ◌∙◌, arith}
use Rattle.mb_tree.specs.Volume.{last_inode}
use Rattle.mb_rules.specs.Items.{each_from, walked}
use Rattle.mb_rules.specs.Parents.{link_items}
use Rattle.mb_check_files.proofs.Eachs.{each_more, each_none, each_stops}
use Rattle.mb_check_files.proofs.Stopping.{came_from}
use Rattle.mb_check.proofs.SlotWalks.{tests_on}
use Rattle.mb_check.proofs.links.each_link.Goals as goal

pub loop-before-init : goal.loop-before-init
loop-before-init c blocks met keeps knows same = each_none (link_items blocks) met 1 0 refl

pub returns-in_err-link-clause-walk : goal.returns-in_err-link-clause-walk
returns-in_err-link-clause-walk c blocks met keeps knows same =
    let inside = c.loop-before-test.true in
    let so = c.loop-before.invariant blocks met keeps knows same in
    rw (came_from c.from_residual.result c.in_err-link.field-0.0 c.from_residual.ensures)
    (tests_on c.in_err-link.field-0.0 met _ _
    (λ broken h. each_stops (link_items blocks) met met broken 1 c.loop-before.before (c.loop-before.before + 1) (last_inode blocks) (omega arith) (omega (arith, inside, same)) so h)
    (c.in_err-link.ensures.walk blocks met keeps knows (omega arith) (omega (arith, inside, same))))

pub loop-before-preserved : goal.loop-before-preserved
loop-before-preserved c blocks met keeps knows same =
    let inside = c.loop-before-test.true in
    each_more (link_items blocks) met met met 1 c.loop-before.before (c.loop-before.before + 1) (c.loop-before.before + 1) (omega arith) (omega arith) (c.loop-before.invariant blocks met keeps knows same)
    (c.in_ok-link.ensures.walk blocks met keeps knows (omega arith) (omega (arith, inside, same)))

pub returns-clause-walk : goal.returns-clause-walk
returns-clause-walk c blocks met keeps knows same =
    let e : c.loop-before.before ≡ last_inode blocks = (let a = c.loop-before-test.false in let b = c.loop-before.auto.before-end in omega (arith, a, b, same)) in
    ap (λ n. walked met (each_from (link_items blocks) 1 n)) (sym e) ∙ c.loop-before.invariant blocks met keeps knows same
