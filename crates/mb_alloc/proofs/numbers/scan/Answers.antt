use Rattle.std.proofs.Common.{◌+◌, inl, inr, refl, sym, subst, arith}
use Rattle.mb_alloc.proofs.Scanning.{HasScanned, scanned_free, scanned_used, scanned_all, scanned_run}
use Rattle.mb_alloc.proofs.numbers.scan.Goals.{in-Free, in-Used}
use Rattle.mb_alloc.proofs.numbers.scan.Goals as goal

pub returns-then-count-eq100 : goal.returns-then-count-eq100
returns-then-count-eq100 g c =
    let inv = c.numbers.invariant in (
      inv.scanned.few,
      scanned_all (g.V.View.shown c.args.view.now) c.args.changes.now c.args.size c.numbers.list c.numbers.count c.numbers.ino c.requires.some (inl (c.if-count-eq100.true, inv.within)) inv.scanned,
    )

pub numbers-preserved-then-begins_full : goal.numbers-preserved-then-begins_full
numbers-preserved-then-begins_full g c =
    let used = c.if-begins_full.ensures refl in
    let inv = c.numbers.invariant in
    record {
      scanned = scanned_run (g.V.View.shown c.args.view.now) c.args.changes.now c.args.size c.numbers.list c.numbers.count c.numbers.ino 8 used.each inv.scanned;
      within = used.within;
      last = refl;
      past = omega (arith, inv.past);
    }

pub numbers-preserved : goal.numbers-preserved
numbers-preserved g c =
    let inv = c.numbers.invariant in
    record {
      scanned = elim c.match-tell_free.branch [
        | in-Free w ↦
            subst (λ n. HasScanned (g.V.View.shown c.args.view.now) c.args.changes.now c.args.size c.match-tell_free.list n (c.numbers.ino + 1)) (sym w.count-is)
            (subst (λ l. HasScanned (g.V.View.shown c.args.view.now) c.args.changes.now c.args.size l (c.numbers.count + 1) (c.numbers.ino + 1)) (sym w.list-is)
            (scanned_free (g.V.View.shown c.args.view.now) c.args.changes.now c.args.size c.numbers.list w.put_word.new.b c.numbers.count c.numbers.ino
            (let few = inv.scanned.few in omega (arith, few, c.if-count-eq100.false)) (omega (arith, c.numbers-test.true, c.requires.few)) w.put_word.ensures w.in-Free.ensures inv.scanned))
        | in-Used w ↦
            subst (λ n. HasScanned (g.V.View.shown c.args.view.now) c.args.changes.now c.args.size c.match-tell_free.list n (c.numbers.ino + 1)) (sym w.count-is)
            (subst (λ l. HasScanned (g.V.View.shown c.args.view.now) c.args.changes.now c.args.size l c.numbers.count (c.numbers.ino + 1)) (sym w.list-is)
            (scanned_used (g.V.View.shown c.args.view.now) c.args.changes.now c.args.size c.numbers.list c.numbers.count c.numbers.ino w.in-Used.ensures inv.scanned))
      ];
      within = omega (arith, c.numbers-test.true);
      last = refl;
      past = omega (arith, inv.past);
    }

pub returns : goal.returns
returns g c =
    let inv = c.numbers.invariant in (
      inv.scanned.few,
      scanned_all (g.V.View.shown c.args.view.now) c.args.changes.now c.args.size c.numbers.list c.numbers.count c.numbers.ino c.requires.some (inr (omega (arith, c.numbers-test.false, inv.within))) inv.scanned,
    )
