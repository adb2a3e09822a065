use Rattle.std.proofs.Common.{IsSome, ◌+◌, ◌-◌, ◌<◌, ◌≤◌, get_or, refl, sym, subst, arith}
use Rattle.std.proofs.lemmas.List.{take_all}
use Rattle.mb_file.proofs.PuttingBack.{HasPutBack, put_never, put_first, put_next, put_each, put_all}
use Rattle.mb_file.proofs.frees.put_all_back.Goals as goal

pub returns-then-word_at-gt50 : goal.returns-then-word_at-gt50
returns-then-word_at-gt50 g c = put_never (g.V.View.shown c.args.view.now) c.args.changes.now c.args.list.now c.in-Some.found.now c.in-Some.ensures.found (subst (λ n. 50 < n) c.word_at.ensures c.if-word_at-gt50.true)

pub loop-next-init : goal.loop-next-init
loop-next-init g c = (
  omega arith,
  subst (λ changes. HasPutBack (g.V.View.shown c.args.view.now) c.args.changes.now changes c.in-Some.found.now c.args.list.now 0) (sym c.reserve.ensures)
      (put_first (g.V.View.shown c.args.view.now) c.args.changes.now c.args.list.now c.in-Some.found.now (subst (λ n. n ≤ 50) c.word_at.ensures (omega (arith, c.if-word_at-gt50.false))) c.in-Some.ensures.found),
)

pub loop-next-preserved : goal.loop-next-preserved
loop-next-preserved g c =
    let low = c.loop-next-test.true in
    let end = c.min-end.ensures in
    let next =
    put_next (g.V.View.shown c.args.view.now) c.args.changes.now c.args.list.now c.loop-next.changes c.put_back.new.changes c.loop-next.first c.put_back.new.first c.loop-next.next (get_or c.args.list.now c.loop-next.next 0)
    low refl c.in-Done.ensures.count c.in-Done.ensures.back c.loop-next.invariant.1 in (
      omega (arith, end),
      subst (HasPutBack (g.V.View.shown c.args.view.now) c.args.changes.now c.put_back.new.changes c.hang_each.new.first c.args.list.now) (omega (arith, end, low))
          (put_each (g.V.View.shown c.args.view.now) c.args.changes.now c.args.list.now c.put_back.new.changes c.hang_each.new.first (c.min-end.result - (c.loop-next.next + 1)) c.put_back.new.first (c.loop-next.next + 1) (omega (arith, end, low))
          c.hang_each.ensures.hangs next),
    )

pub returns-in-Ok : goal.returns-in-Ok
returns-in-Ok g c =
    put_all (g.V.View.shown c.args.view.now) c.args.changes.now c.args.list.now c.loop-next.changes c.put.new.self c.loop-next.first c.loop-next.next (take_all c.loop-next.next c.args.list.now c.loop-next-test.false)
    (subst (λ o. IsSome o) (sym c.in-Some.ensures.there) refl) c.in-Ok.ensures.each c.in-Ok.ensures.ok c.loop-next.invariant.1
