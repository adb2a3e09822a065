use Rattle.std.proofs.Common.{◌≡◌, ℕ, ◌∙◌, ap, arith}
use Rattle.mb_iface.specs.OpenCounts.{count_of}
use Rattle.mb_session.proofs.Held.{few_held, nothing_counted, sum_seats_more}
use Rattle.mb_session.proofs.counting.count_seats.Goals as goal

pub loop-seat-init : goal.loop-seat-init
loop-seat-init c = record { few = λ ino. omega (arith, none ino); so_far = none }
  where
    none : (ino : ℕ) → count_of c.new-opens.result ino ≡ 0
    none ino = ap (λ opens. count_of opens ino) c.new-opens.ensures ∙ nothing_counted ino

pub loop-seat-preserved : goal.loop-seat-preserved
loop-seat-preserved c = record {
  few = λ ino. omega (arith, c.loop-seat.invariant.few ino, c.in_ok-count_files.ensures ino, few_held c.seat-item.result ino);
  so_far = λ ino.
      let more = sum_seats_more ino c.args.seats.now c.loop-seat.seat-index c.seat-item.result c.loop-seat-test.true c.seat-item.is in
      omega (arith, c.loop-seat.invariant.so_far ino, c.in_ok-count_files.ensures ino, more);
}
