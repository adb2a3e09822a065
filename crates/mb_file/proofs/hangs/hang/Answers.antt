use Rattle.std.proofs.Common.{◌≡◌, ◌+◌, ◌*◌, ap, subst, sym, ◌∙◌, arith}
use Rattle.mb_word.specs.Numbers.{put_at, long_bytes}
use Rattle.mb_file.proofs.Hanging.{IsReady, ready_none, ready_some, hung, count_now}
use Rattle.mb_file.proofs.hangs.hang.Goals as goal
use Rattle.mb_file.proofs.hangs.hang.Goals.{then-held-eq0, else-held-eq0, After-put_word}

ready : (c : After-put_word) → IsReady c.args.first.now c.if-held-eq0.first c.max-count.result
ready c = elim c.if-held-eq0.branch [
  | then-held-eq0 w ↦ subst (λ b. IsReady c.args.first.now b c.max-count.result) (sym w.first-is) (ready_none c.args.first.now w.put_long.new.b c.word_at-held.result c.max-count.result (omega arith) c.word_at-held.ensures w.if-held-eq0.true (omega arith) w.put_long.ensures)
  | else-held-eq0 w ↦ subst (λ b. IsReady c.args.first.now b c.max-count.result) (sym w.first-is) (ready_some c.args.first.now c.word_at-held.result c.max-count.result (omega arith) c.word_at-held.ensures w.if-held-eq0.false (omega arith))
]

wrote : (c : After-put_word) → c.put_long-2.new.b ≡ put_at c.if-held-eq0.first (8 + 4 * c.max-count.result) (long_bytes c.args.block)
wrote c = c.put_long-2.ensures ∙ ap (λ n. put_at c.if-held-eq0.first (8 + 4 * n) (long_bytes c.args.block)) c.from.ensures

pub returns-clause-hangs : goal.returns-clause-hangs
returns-clause-hangs c = hung c.args.first.now c.if-held-eq0.first c.put_long-2.new.b c.put_word.new.b c.max-count.result c.args.block (ready c) c.requires (omega arith) (wrote c) c.put_word.ensures

pub returns-clause-count : goal.returns-clause-count
returns-clause-count c = omega (arith, count_now c.args.first.now c.if-held-eq0.first c.put_long-2.new.b c.put_word.new.b c.max-count.result c.args.block (ready c) c.requires (omega arith) (wrote c) c.put_word.ensures)

pub returns-clause-some : goal.returns-clause-some
returns-clause-some c = (let n = count_now c.args.first.now c.if-held-eq0.first c.put_long-2.new.b c.put_word.new.b c.max-count.result c.args.block (ready c) c.requires (omega arith) (wrote c) c.put_word.ensures in omega (arith, n))
