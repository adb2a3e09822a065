use Rattle.std.proofs.Common.{◌≡◌, ◌+◌, ◌*◌, ◌<◌, length, get_or, refl, sym, ap, ◌∙◌, arith}
use Rattle.std.proofs.lemmas.Bool.Decides.{nat_tests}
use Rattle.std.proofs.lemmas.List.{take_all}
use Rattle.mb_word.specs.Numbers.{put_at, long_bytes, word_bytes}
use Rattle.mb_file.proofs.Hanging.{hung_first, hung_next, hung_each, count_each}
use Rattle.mb_file.proofs.hangs.hang_each.Goals as goal
use Rattle.mb_file.proofs.hangs.hang_each.Goals.{After-put_word}

pub loop-at-init : goal.loop-at-init
loop-at-init c = hung_first c.args.first.now c.args.blocks.now c.word_at-held.result (omega arith)

pub loop-at-preserved : goal.loop-at-preserved
loop-at-preserved c =
    hung_next c.args.first.now c.args.blocks.now c.word_at-held.result (omega arith) c.word_at-held.ensures (let some = c.requires.some in omega (arith, some, c.word_at-held.ensures)) c.loop-at.first c.put_long.new.b c.loop-at.at (get_or c.args.blocks.now c.loop-at.at 0)
    (let room = c.requires.room in omega (arith, room, c.word_at-held.ensures, c.loop-at-test.true)) c.loop-at-test.true refl
    (c.put_long.ensures ∙ ap (λ n. put_at c.loop-at.first (8 + 4 * (n + c.loop-at.at)) (long_bytes (get_or c.args.blocks.now c.loop-at.at 0))) c.from.ensures) c.loop-at.invariant

some_blocks : (c : After-put_word) → 0 < length c.args.blocks.now
some_blocks c = (let t = sym c.is_empty.ensures ∙ c.if-is_empty.false in grind (arith, nat_tests))

wrote : (c : After-put_word) → c.put_word.new.b ≡ put_at c.loop-at.first 6 (word_bytes (c.word_at-held.result + c.loop-at.at))
wrote c = c.put_word.ensures ∙ ap (λ n. put_at c.loop-at.first 6 (word_bytes n)) (omega (arith, c.loop-at-test.false, c.loop-at.auto.at-end))

pub returns-clause-hangs : goal.returns-clause-hangs
returns-clause-hangs c =
    hung_each c.args.first.now c.args.blocks.now c.word_at-held.result (omega arith) c.word_at-held.ensures (let some = c.requires.some in omega (arith, some, c.word_at-held.ensures)) c.loop-at.first c.put_word.new.b c.loop-at.at
    (let some = some_blocks c in omega (arith, some, c.loop-at-test.false)) (let room = c.requires.room in omega (arith, room, c.word_at-held.ensures, c.loop-at.auto.at-end))
    (take_all c.loop-at.at c.args.blocks.now c.loop-at-test.false) (wrote c) c.loop-at.invariant

pub returns-clause-count : goal.returns-clause-count
returns-clause-count c =
    count_each c.args.first.now c.args.blocks.now c.word_at-held.result (omega arith) c.word_at-held.ensures (let some = c.requires.some in omega (arith, some, c.word_at-held.ensures)) c.loop-at.first c.put_word.new.b c.loop-at.at
    (let some = some_blocks c in omega (arith, some, c.loop-at-test.false)) (let room = c.requires.room in omega (arith, room, c.word_at-held.ensures, c.loop-at.auto.at-end))
    (take_all c.loop-at.at c.args.blocks.now c.loop-at-test.false) (wrote c) c.loop-at.invariant
