use Rattle.std.proofs.Common.{◌≤◌, ◌+◌, ◌*◌, ◌-◌, ℕ, suc, List, length, ◌≡◌, [], ◌<◌, Ok, Err, refl, sym, ap, subst, ◌∙◌, arith}
use Rattle.mb_layout.specs.Inode.{address_in}
use Rattle.mb_rules.specs.Items.{each_from, walked}
use Rattle.mb_rules.specs.Files.{address_items}
use Rattle.mb_check_files.specs.PartLists.{Notes}
use Rattle.mb_check_files.proofs.Eachs.{each_none, each_more, each_stops}
use Rattle.mb_check_files.proofs.Notings.{notes_none, notes_more, extends_same, extends_more}
use Rattle.mb_check_files.proofs.Stopping.{came_from, passes_on}
use Rattle.mb_check_files.proofs.areas.direct.Goals as goal

pub loop-place-init : goal.loop-place-init
loop-place-init c = record {
  walk = λ blocks list are stands. (list, each_none _ list 0 0 refl, stands);
  notes = notes_none _ _;
  kept = extends_same _;
  few = record { paid = omega arith };
}

pub returns-in_err-part-clause-walk : goal.returns-in_err-part-clause-walk
returns-in_err-part-clause-walk c blocks list are stands =
    let so = c.loop-place.invariant.walk blocks list are stands in
    rw (came_from c.from_residual.result c.in_err-part.field-0.0 c.from_residual.ensures)
    (passes_on c.in_err-part.field-0.0 c.part.new.met c.part.new.met so.0 list _ _
    (λ broken h. each_stops (λ place. address_items blocks 0 c.args.holder (address_in c.args.inode.now place)) list so.0 broken 0 c.loop-place.place c.loop-place.place 10 (omega arith) c.loop-place-test.true so.1
    (ap (λ a. walked so.0 (address_items blocks 0 c.args.holder a)) (sym c.address.ensures) ∙ h))
    (c.in_err-part.ensures.walk blocks so.0 are so.2))

pub loop-place-preserved : goal.loop-place-preserved
loop-place-preserved c = record {
  walk = λ blocks list are stands. (
      let so = c.loop-place.invariant.walk blocks list are stands in
      let next = c.in_ok-part.ensures.walk blocks so.0 are so.2 in (
        next.0,
        each_more (λ place. address_items blocks 0 c.args.holder (address_in c.args.inode.now place)) list so.0 next.0 0 c.loop-place.place c.loop-place.place (c.loop-place.place + 1) (omega arith) (omega arith) so.1
            (ap (λ a. walked so.0 (address_items blocks 0 c.args.holder a)) (sym c.address.ensures) ∙ next.1),
        next.2,
      ));
  notes = notes_more _ _ _ (address_in c.args.inode.now) (λ _. c.address.result) c.loop-place.place 1 c.loop-place.invariant.notes c.in_ok-part.ensures.notes
      (λ k low. (let e : c.loop-place.place + k ≡ c.loop-place.place = omega arith in ap (address_in c.args.inode.now) e) ∙ sym c.address.ensures);
  kept = extends_more _ _ _ c.loop-place.invariant.kept c.in_ok-part.ensures.kept;
  few = (let a = c.loop-place.invariant.few.paid in let b = c.in_ok-part.ensures.few.paid in record { paid = omega (arith, a, b) });
}

pub returns-clause-walk : goal.returns-clause-walk
returns-clause-walk c blocks list are stands =
    let so = c.loop-place.invariant.walk blocks list are stands in
    let most = c.loop-place.auto.place-end in
    let past = c.loop-place-test.false in
    let all : c.loop-place.place ≡ 10 = omega arith in
    (so.0, subst (λ n. walked list (each_from (λ place. address_items blocks 0 c.args.holder (address_in c.args.inode.now place)) 0 n) ≡ Ok so.0) all so.1, so.2)

pub returns-clause-notes : goal.returns-clause-notes
returns-clause-notes c =
    let most = c.loop-place.auto.place-end in
    let past = c.loop-place-test.false in
    let all : c.loop-place.place ≡ 10 = omega arith in
    subst (Notes c.args.parts.now c.loop-place.parts (address_in c.args.inode.now)) all c.loop-place.invariant.notes
