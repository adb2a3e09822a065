use Rattle.std.proofs.Common.{◌*◌, ◌+◌, arith}
use Rattle.std.proofs.lemmas.Bool.Decides.{nat_tests}
use Rattle.mb_namei.proofs.NameWords.{by_front, by_back}
use Rattle.mb_namei.proofs.slots.has_name.Goals as goal

pub returns-then-eight_at-front : goal.returns-then-eight_at-front
returns-then-eight_at-front c =
    by_back c.args.bytes.now c.args.name.now (16 * c.args.place + 2) (omega arith) (omega arith) c.fits-bytes c.fits-name c.eight_at.result c.args.front c.args.back (16 * c.args.place + 8) c.eight_at.ensures c.if-eight_at-front.true c.requires.front (omega arith) c.eight_at-then-eight_at-front.result c.eight_at-then-eight_at-front.ensures c.requires.back

pub returns-else-eight_at-front : goal.returns-else-eight_at-front
returns-else-eight_at-front c =
    by_front c.args.bytes.now c.args.name.now (16 * c.args.place + 2) (omega arith) (omega arith) c.eight_at.result c.args.front c.eight_at.ensures c.requires.front (let apart = c.if-eight_at-front.false in grind (arith, nat_tests))
