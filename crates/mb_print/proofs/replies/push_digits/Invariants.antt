use Rattle.std.proofs.Common.{length, take, ◌-◌, ◌≡◌, ◌++◌, ◌≤◌}
use Rattle.hex.specs.Hex.{encode_lower}
use Rattle.mb_print.proofs.replies.push_digits.Given as goal

abbrev pub invariant-loop-done : goal.invariant-loop-done
invariant-loop-done l = record {
  within : l.done ≤ length l.bytes;
  room : length l.digits ≡ 512;
  digits : l.out.items ≡ l.fn.out.items ++ encode_lower (take l.done l.bytes);
}

abbrev pub decreases-loop-done : goal.decreases-loop-done
decreases-loop-done l = length l.bytes - l.done
