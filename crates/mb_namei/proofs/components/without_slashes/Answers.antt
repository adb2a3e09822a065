use Rattle.std.proofs.Common.{length, ap, arith}
use Rattle.std.proofs.lemmas.List.{take_rest, length-drop}
use Rattle.mb_namei.proofs.Pieces.{piece_starts}
use Rattle.mb_namei.proofs.components.without_slashes.Goals as goal

pub returns-then-byte-ne-SLASH : goal.returns-then-byte-ne-SLASH
returns-then-byte-ne-SLASH c =
    piece_starts c.args.path.now _ c.loop-i.i (take_rest c.args.path.now c.loop-i.i) c.loop-i-test.true
    (omega (arith, ap length (take_rest c.args.path.now c.loop-i.i), length-drop c.loop-i.i c.args.path.now)) c.if-byte-ne-SLASH.true c.loop-i.invariant
