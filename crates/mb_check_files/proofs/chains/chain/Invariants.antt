use Rattle.std.proofs.Common.{◌≤◌, ◌+◌, ℕ, List, length, ◌≡◌, [], IfSome}
use Rattle.mb_word.specs.Numbers.{word_at}
use Rattle.mb_check_files.specs.Passes.{Stands, AreBounds, Underway}
use Rattle.mb_check_files.proofs.chains.chain.Given as goal

abbrev pub invariant-loop : goal.invariant-loop
invariant-loop g l = (l.base ≤ 6) × (word_at l.bytes l.base ≤ 50) × (g.D.Disk.told l.disk ≡ g.D.Disk.told l.fn.disk) × (g.D.Disk.faults l.fn.disk ≤ g.D.Disk.faults l.disk)
    × IfSome (g.D.Disk.told l.fn.disk) (λ image. l.first ≡ image.at 1 → AreBounds image.at l.bounds → Stands l.fn.met [] → Underway image l.met l.bytes l.base l.holder (l.bounds.high + 1) l.counter)
